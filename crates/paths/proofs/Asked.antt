-- Paths one by one. Assumes nothing.
use mathlib.Core.Path.{◌≡◌, refl, sym, ap, ap₂, ◌∙◌, subst}
use mathlib.Core.Bool.{Bool, true, false, not, ◌&&◌, ◌||◌, and-false}
use mathlib.Core.List.{List, [], ◌∷◌, ◌++◌, map, map-append}
use Prim.Native.Nat.{ℕ, zero, suc, ◌+◌, ◌≤◌, ◌<◌}
use Rattle.std.proofs.Common.{Option, Some, None}
use native.Mathlib.Nat.{add-zero}
use native.Mathlib.Omega.{arith}
use lib.ListN.{length, take, drop, get_or, length-append, take-append-drop}
use lib.Seq.{take-suc}
use Rattle.paper.specs.Lists.{every}
use Rattle.paper.specs.Bytes.{Bytes}
use Rattle.paper.specs.Bits.{bits_of}
use Rattle.paper.specs.Strings.{Node}
use Rattle.paper.specs.Tree.{root}
use Rattle.paper.specs.Path.{way}
use Rattle.paper.specs.Layout.{times_bytes}
use Rattle.paper.specs.Fields.{path_field}
use Rattle.paper.specs.Table.{holds}
use Rattle.paper.specs.Level.{rising}
use Rattle.paper.specs.Shows as P
use Rattle.paper.proofs.Pasted.{pasted-none}
use Rattle.table.proofs.Own.{every-snoc}
use Rattle.plan.specs.Asked.{place_of, asked, label_of}
use Rattle.plan.specs.declared.Place.{Place}
use Rattle.plan.specs.declared.Place.TheVariants.{InAll, InOld, AsMarker}
use Rattle.plan.specs.declared.Asked.{Asked}
use Rattle.leaf_row.specs.Row.{as_nodes}
use Rattle.tree.specs.Stored.{Sorted, Kept, Lent}
use Rattle.tree.specs.declared.StoredTree.{StoredTree}
use Rattle.tree.proofs.Slots.{kept-lent}
use Rattle.forest.specs.declared.Trees.{Trees}
use Rattle.plan.proofs.Places.{place-back}
use Rattle.path_fields.specs.Written.{Wrote}
use Rattle.path_fields.proofs.Writing.{times-append, times-one, wrote-next}
use Rattle.paths.specs.Paths.{wanted, leaves_for, path_for, free_for, path_bytes, Sized, tree_for, all_of, old_of, Ordered, Ready, OrderedLent, ReadyLent}

-- what the plan asks is what is wanted
pub wanted-back : (a : P.Asked) → wanted (asked a) ≡ a
wanted-back a = ap (λ (x : P.Place). record { place = x; there = a.there }) (place-back a.place)

every-fails : {A : Type 0} (f : A → Bool) (l : List A) (i : ℕ) (d : A) → i < length l → f (get_or l i d) ≡ false → every f l ≡ false
unfolding every
every-fails f [] i d h e = absurd (omega arith)
every-fails f (x ∷ l) zero d h e = rw e
every-fails f (x ∷ l) (suc i) d h e = rw (every-fails f l i d (omega arith) e) (and-false (f x))

-- trees in order, or stored, may be lent
pub ordered-lent : (t : Trees) (name : Bytes) → Ordered t name → OrderedLent t name
ordered-lent t name w = record { all = w.all.rises; old = w.old.rises; short = w.short }

pub ready-lent : (t : Trees) (name : Bytes) → Ready t name → ReadyLent t name
ready-lent t name w = record { all = kept-lent t.all w.all; old = kept-lent t.old w.old; short = w.short }

-- what holds of both trees holds of that of a place
of-place : (P : StoredTree → Type 0) (t : Trees) (x : Place) → P t.all → P t.old → P (tree_for t x)
of-place P t (InAll i) a o = a
of-place P t (InOld i) a o = o
of-place P t (AsMarker j) a o = a

-- the tree of a place is in order, or stored, over the leaves of the place
pub tree-sorted : (t : Trees) (name : Bytes) (x : Place) → Ordered t name → Sorted (as_nodes (tree_for t x).leaves.now)
tree-sorted t name x w = of-place (λ t. Sorted (as_nodes t.leaves.now)) t x w.all w.old

pub tree-kept : (t : Trees) (name : Bytes) (x : Place) → Ready t name → Kept (tree_for t x)
tree-kept t name x w = of-place Kept t x w.all w.old

pub tree-rises : (t : Trees) (name : Bytes) (x : Place) → OrderedLent t name → rising (as_nodes (tree_for t x).leaves.now) ≡ true
tree-rises t name x w = of-place (λ t. rising (as_nodes t.leaves.now) ≡ true) t x w.all w.old

pub tree-lent : (t : Trees) (name : Bytes) (x : Place) → ReadyLent t name → Lent (tree_for t x)
tree-lent t name x w = of-place Lent t x w.all w.old

pub tree-leaves : (t : Trees) (name : Bytes) (x : Place) → as_nodes (tree_for t x).leaves.now ≡ leaves_for name (all_of t) (old_of t) (place_of x)
tree-leaves t name (InAll i) = refl
tree-leaves t name (InOld i) = refl
tree-leaves t name (AsMarker j) = refl

-- ---- more and more of them

module _ (name : Bytes) (A O : List Node) where
  -- a place's label and its tree give the path
  module _ (a : Asked) (label : Bytes) (S : List Node) (e : label ≡ label_of name a.place) (f : S ≡ leaves_for name A O (place_of a.place)) where
    pub path-is : way (bits_of label) (root S) ≡ path_for name A O (wanted a)
    path-is = ap₂ (λ l T. way (bits_of l) (root T)) e f

    pub measured-in : (r : Option ℕ) → Sized (a.there || not (holds (bits_of label) S)) (path_field.bytes (way (bits_of label) (root S))) r → Sized (free_for name A O (wanted a)) (path_field.bytes (path_for name A O (wanted a))) r
    measured-in r m =
        let free = ap₂ (λ l T. a.there || not (holds (bits_of l) T)) e f in
        rw (← free, ← path-is) m

    pub wrote-in : (o u : Bytes) (at r : ℕ) → Wrote o at (path_field.bytes (way (bits_of label) (root S))) u r → Wrote o at (path_field.bytes (path_for name A O (wanted a))) u r
    wrote-in o u at r w = subst (λ x. Wrote o at (path_field.bytes x) u r) path-is w

    pub room_in : (o : Bytes) (at : ℕ) → at + length (path_field.bytes (path_for name A O (wanted a))) ≤ length o → at + length (path_field.bytes (way (bits_of label) (root S))) ≤ length o
    room_in o at h = subst (λ x. at + length (path_field.bytes x) ≤ length o) (sym path-is) h

  -- none yet
  pub bytes-none : (l : List P.Asked) → path_bytes name A O (take 0 l) ≡ []
  unfolding path_bytes times_bytes
  bytes-none l = refl

  pub wrote_none : (l : List P.Asked) (o : Bytes) (at : ℕ) → Wrote o at (path_bytes name A O (take 0 l)) o at
  wrote_none l o at = rw (bytes-none l) (record { laid = sym (pasted-none o at); behind = sym (add-zero at) })

  pub free-none : (l : List P.Asked) → every (free_for name A O) (take 0 l) ≡ true
  unfolding every
  free-none l = refl

  bytes-append : (l m : List P.Asked) → path_bytes name A O (l ++ m) ≡ path_bytes name A O l ++ path_bytes name A O m
  unfolding path_bytes
  bytes-append l m = ap (times_bytes path_field.bytes) (map-append (path_for name A O) l m) ∙ times-append path_field.bytes (map (path_for name A O) l) (map (path_for name A O) m)

  bytes_one : (a : P.Asked) → path_bytes name A O (a ∷ []) ≡ path_field.bytes (path_for name A O a)
  unfolding path_bytes
  bytes_one a = times-one path_field.bytes (path_for name A O a)

  module _ (l : List P.Asked) (i : ℕ) (d : P.Asked) (h : i < length l) where
    pub bytes-more : path_bytes name A O (take (suc i) l) ≡ path_bytes name A O (take i l) ++ path_field.bytes (path_for name A O (get_or l i d))
    bytes-more = ap (path_bytes name A O) (take-suc l i d h) ∙ bytes-append (take i l) (get_or l i d ∷ []) ∙ ap (λ x. path_bytes name A O (take i l) ++ x) (bytes_one (get_or l i d))

    -- they fit where all do
    pub bytes-room : length (path_bytes name A O (take i l)) + length (path_field.bytes (path_for name A O (get_or l i d))) ≤ length (path_bytes name A O l)
    bytes-room =
        let whole = ap (path_bytes name A O) (sym (take-append-drop (suc i) l)) ∙ bytes-append (take (suc i) l) (drop (suc i) l) in
        omega (
          arith,
          ap length whole,
          ap length bytes-more,
          length-append (path_bytes name A O (take (suc i) l)) (path_bytes name A O (drop (suc i) l)),
          length-append (path_bytes name A O (take i l)) (path_field.bytes (path_for name A O (get_or l i d))),
        )

    free_more : every (free_for name A O) (take (suc i) l) ≡ (every (free_for name A O) (take i l) && free_for name A O (get_or l i d))
    free_more = ap (every (free_for name A O)) (take-suc l i d h) ∙ every-snoc (free_for name A O) (take i l) (get_or l i d)

    -- one more is measured
    pub sum_more : (n k : ℕ) → every (free_for name A O) (take i l) ≡ true → n ≡ length (path_bytes name A O (take i l)) → Sized (free_for name A O (get_or l i d)) (path_field.bytes (path_for name A O (get_or l i d))) (Some k)
        → (every (free_for name A O) (take (suc i) l) ≡ true) × (n + k ≡ length (path_bytes name A O (take (suc i) l)))
    sum_more n k c s m = (
      free_more ∙ ap₂ (λ b c. b && c) c m.measured.0,
      omega (arith, s, m.measured.1, ap length bytes-more, length-append (path_bytes name A O (take i l)) (path_field.bytes (path_for name A O (get_or l i d)))),
    )

    -- or its label is to be shown absent and is there
    pub one_there : Sized (free_for name A O (get_or l i d)) (path_field.bytes (path_for name A O (get_or l i d))) None → every (free_for name A O) l ≡ false
    one_there m = every-fails (free_for name A O) l i d h m.measured

    -- one more is written
    pub wrote-more : (o v u : Bytes) (at mid r : ℕ) → at ≤ length o → Wrote o at (path_bytes name A O (take i l)) v mid → Wrote v mid (path_field.bytes (path_for name A O (get_or l i d))) u r
        → Wrote o at (path_bytes name A O (take (suc i) l)) u r
    wrote-more o v u at mid r k w x = wrote-next o v u (path_bytes name A O (take i l)) (path_field.bytes (path_for name A O (get_or l i d))) _ at mid r k w.laid w.behind x bytes-more
