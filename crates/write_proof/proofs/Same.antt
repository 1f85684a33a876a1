-- The trees of an epoch, and the same trees as they are stored: the paths out of them, and the proof. Assumes nothing.
use mathlib.Core.Path.{◌≡◌, sym, ap, ap₂, ◌∙◌}
use mathlib.Core.Bool.{true, false, not, ◌||◌}
use mathlib.Core.List.{List, ◌++◌, map}
use Prim.Native.Nat.{ℕ, ◌≤◌}
use lib.ListN.{length}
use Rattle.paper.specs.Lists.{every}
use Rattle.paper.specs.Numbers.{CLASH}
use Rattle.paper.specs.Bytes.{Bytes}
use Rattle.paper.specs.Bits.{Bits}
use Rattle.paper.specs.Strings.{Node}
use Rattle.paper.specs.Labelling.{plain}
use Rattle.paper.specs.Tree.{digest, top, root}
use Rattle.paper.specs.Path.{way}
use Rattle.paper.specs.Layout.{times_bytes}
use Rattle.paper.specs.Fields.{path_field}
use Rattle.paper.specs.Shows as P
use Rattle.paper.specs.Lookup.{lookup_asked, lookup_keys}
use Rattle.paper.specs.History.{history_asked}
use Rattle.paper.specs.Table.{Record, last_version, previous_head, head_of, all_at, old_at, holds, distinct}
use Rattle.paper.specs.Write.{versions_by, leaves_at, paths_of, item_of, last_item, lookup_proof, history_proof, unwritten}
use Rattle.paper.specs.declared.State.{State}
use Rattle.record.specs.Places.{records_in}
use Rattle.forest.specs.Grown.{Clear}
use Rattle.leaf_row.specs.Row.{as_nodes}
use Rattle.tree.specs.declared.StoredTree.{StoredTree}
use Rattle.plan.specs.Asked.{asked_by}
use Rattle.plan.specs.declared.Kind.{Kind}
use Rattle.plan.specs.declared.Kind.TheVariants.{Lookup, History}
use Rattle.own.proofs.Versions.{versions-number}
use Rattle.paths.specs.Paths.{leaves_for, free_for, path_bytes, Ready}
use Rattle.front.specs.Front.{front_bytes, item_bytes}
use Rattle.front.proofs.Front.{proof-bytes}
use Rattle.tested.specs.Tested.{weighed, Sound}
use Rattle.tested.proofs.Weighed.{clash}
use Rattle.plan.specs.Kinds.{kind_number}
use Rattle.write_proof.specs.Judged.{items_by, head_in, bytes_with, judged}
use Rattle.write_proof.specs.Rest.{clear_by, proof_by, rest_by}

-- ---- the same trees, and the same labels in them

module _ (name : Bytes) (t : ℕ) (rs : List Record) (A O : List Node) (ea : root (all_at plain t rs) ≡ root A) (eo : root (old_at plain t rs) ≡ root O) where
  tree-at : (x : P.Place) → root (leaves_at plain name t rs x) ≡ root (leaves_for name A O x)
  tree-at (P.in_all i) = ea
  tree-at (P.in_old i) = eo
  tree-at (P.as_marker j) = ea

  paths-are : (l : List P.Asked) → times_bytes path_field.bytes (paths_of plain name t rs l) ≡ path_bytes name A O l
  unfolding path_bytes
  paths-are l = λ i. times_bytes path_field.bytes (map (λ a. way (P.label_at plain name a.place) (tree-at a.place i)) l)

  head-is : (heads : Bytes) → head_of plain heads t rs ≡ head_in heads name A O t
  head-is heads = λ i. record { epoch = t; previous = previous_head heads t; all = digest (top (ea i)); old = digest (top (eo i)) }

  -- the proof, for a number that is the last version
  module _ (heads : Bytes) (n : ℕ) (items : List P.Item) (b : Kind) where
    pub bytes-are : front_bytes (kind_number b) (head_of plain heads t rs) n ++ (item_bytes items ++ times_bytes path_field.bytes (paths_of plain name t rs (asked_by b n t)))
        ≡ bytes_with heads name A O items (record { kind = b; number = n; epoch = t })
    unfolding bytes_with
    bytes-are = ap₂ (λ h x. front_bytes (kind_number b) h n ++ (item_bytes items ++ x)) (head-is heads) (paths-are (asked_by b n t))

module _ (name : Bytes) (t : ℕ) (rs : List Record) (A O : List Node) (ha : (L : Bits) → holds L (all_at plain t rs) ≡ holds L A) (ho : (L : Bits) → holds L (old_at plain t rs) ≡ holds L O) where
  held_at : (x : P.Place) (L : Bits) → holds L (leaves_at plain name t rs x) ≡ holds L (leaves_for name A O x)
  held_at (P.in_all i) = ha
  held_at (P.in_old i) = ho
  held_at (P.as_marker j) = ha

  free-are : (l : List P.Asked) → every (λ a. a.there || not (holds (P.label_at plain name a.place) (leaves_at plain name t rs a.place))) l ≡ every (free_for name A O) l
  free-are l = λ i. every (λ a. a.there || not (held_at a.place (P.label_at plain name a.place) i)) l

-- ---- both writers

-- "two leaves of a needed tree share a label" decides
all-clash : (name : Bytes) (t : ℕ) (rs : List Record) (b : Kind) → distinct (all_at plain t rs) ≡ false → clear_by b name t rs ≡ false
all-clash name t rs History e = rw e
all-clash name t rs Lookup e = rw e

old-clash : (name : Bytes) (t : ℕ) (rs : List Record) (b : Kind) → distinct (all_at plain t rs) ≡ true → distinct (old_at plain t rs) ≡ false → clear_by b name t rs ≡ false
old-clash name t rs History d e = rw (d, e)
old-clash name t rs Lookup d e = rw (d, e)

module _ (name : Bytes) (t : ℕ) (rs : List Record) (A O : List Node) (runs : last_version (versions_by plain name t rs) ≡ length (versions_by plain name t rs)) where
  abbrev last : ℕ
  last = last_version (versions_by plain name t rs)

  -- and then the labels to be shown absent
  clear-is : distinct (all_at plain t rs) ≡ true → distinct (old_at plain t rs) ≡ true → ((L : Bits) → holds L (all_at plain t rs) ≡ holds L A) → ((L : Bits) → holds L (old_at plain t rs) ≡ holds L O)
      → (b : Kind) → clear_by b name t rs ≡ every (free_for name A O) (asked_by b last t)
  clear-is da d ha ho History = rw (da, d) (free-are name t rs A O ha ho (history_asked (length (versions_by plain name t rs)) t) ∙ ap (λ n. every (free_for name A O) (history_asked n t)) (sym runs))
  clear-is da d ha ho Lookup = rw (da, d) (free-are name t rs A O ha ho (lookup_asked last))

  proof-is : root (all_at plain t rs) ≡ root A → root (old_at plain t rs) ≡ root O → (heads : Bytes) (b : Kind)
      → proof_by b heads name t rs ≡ bytes_with heads name A O (items_by b (versions_by plain name t rs)) (record { kind = b; number = last; epoch = t })
  proof-is ea eo heads History =
      proof-bytes 2 (λ n. n) history_asked (history_proof plain name t rs heads)
      ∙ ap (λ n. front_bytes 2 (head_of plain heads t rs) n ++ (item_bytes (map item_of (versions_by plain name t rs)) ++ times_bytes path_field.bytes (paths_of plain name t rs (history_asked n t)))) (sym runs)
      ∙ bytes-are name t rs A O ea eo heads last (map item_of (versions_by plain name t rs)) History
  proof-is ea eo heads Lookup =
      proof-bytes 1 lookup_keys (λ v t. lookup_asked v) (lookup_proof plain name t rs heads)
      ∙ bytes-are name t rs A O ea eo heads last (last_item (versions_by plain name t rs)) Lookup

-- ---- trees as they were grown

module _ (kind : Kind) (records heads : Bytes) (state : State) (out name : Bytes) (t : ℕ) where
  abbrev rs : List Record
  rs = records_in state.count records

  pub all-refused : distinct (all_at plain t rs) ≡ false → rest_by kind records heads state out name t ≡ unwritten plain records heads state out CLASH
  all-refused e = clash state out _ _ (all-clash name t rs kind e)

  module _ (a : StoredTree) (ca : Clear (all_at plain t rs) a) where
    pub old-refused : distinct (old_at plain t rs) ≡ false → rest_by kind records heads state out name t ≡ unwritten plain records heads state out CLASH
    old-refused e = clash state out _ _ (old-clash name t rs kind ca.alone e)

    module _ (o : StoredTree) (co : Clear (old_at plain t rs) o) where
      pub ready : length name ≤ 64 → Ready (record { all = a; old = o }) name
      ready s = record { all = ca.standing.kept; old = co.standing.kept; short = s }

      pub rest-is : Sound records heads state t → rest_by kind records heads state out name t ≡ judged kind records heads state out name t (as_nodes a.leaves.now) (as_nodes o.leaves.now)
      rest-is h =
          let A = as_nodes a.leaves.now in
          let O = as_nodes o.leaves.now in
          let x = ca.standing in
          let y = co.standing in
          let runs = versions-number records name t state.count state.epoch h.shaped.shape in
          ap₂ (weighed state out) (clear-is name t rs A O runs ca.alone co.alone x.labels y.labels kind) (proof-is name t rs A O runs x.tree y.tree heads kind)
