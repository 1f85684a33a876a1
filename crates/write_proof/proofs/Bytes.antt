-- A proof's bytes as they are written, and what its number, its keys and its plan are. Assumes nothing.
use mathlib.Core.Path.{◌≡◌, refl, sym, ap, ap₂, ◌∙◌, subst}
use mathlib.Core.List.{List, ◌++◌, append_assoc}
use Prim.Native.Nat.{ℕ, zero, suc, ◌+◌, ◌*◌, ◌^◌, ◌≤◌, ◌<◌}
use native.Mathlib.Omega.{arith}
use lib.ListN.{length, length-append, length-replicate}
use Rattle.paper.specs.Lists.{every}
use Rattle.paper.specs.Bytes.{Bytes, pasted}
use Rattle.paper.specs.Strings.{Node, node_string}
use Rattle.paper.specs.Labelling.{plain}
use Rattle.paper.specs.Tree.{top, root, root_digest}
use Rattle.paper.specs.Shows.{Item}
use Rattle.paper.specs.Table.{previous_head, last_version}
use Rattle.paper.specs.Write.{versions_by}
use Rattle.paper.specs.declared.State.{State}
use Rattle.paper.proofs.Fits.{digest-wide}
use Rattle.paper.proofs.Asked.{by_most}
use Rattle.ranges.proofs.Slices.{length_part}
use Rattle.record.specs.Places.{records_in, Stands}
use Rattle.std.specs.Prelude.{Option, None, Some}
use Rattle.table.specs.Index.{last_where}
use Rattle.table.proofs.Last.{last-most}
use Rattle.plan.proofs.Markers.{shifted}
use Rattle.plan.proofs.Rows.{asked-length}
use Rattle.plan.specs.Asked.{markers_of, asked_by, asked_of}
use Rattle.plan.specs.declared.Kind.{Kind}
use Rattle.plan.specs.declared.Kind.TheVariants.{Lookup, History}
use Rattle.plan.specs.declared.Plan.{Plan}
use Rattle.own.specs.Own.{own_by}
use Rattle.own.proofs.Versions.{version-none, version-last}
use Rattle.path_fields.specs.Written.{Wrote}
use Rattle.path_fields.proofs.Writing.{wrote-next}
use Rattle.paths.specs.Paths.{free_for, path_bytes}
use Rattle.front.specs.Front.{front_bytes, item_bytes, items_from}
use Rattle.front.proofs.Front.{front_length, previous-some}
use Rattle.front.proofs.Items.{items-all, items-none, items-last}
use Rattle.tested.specs.Tested.{weighed}
use Rattle.plan.specs.Kinds.{kind_number}
use Rattle.write_proof.specs.Judged.{items_by, version_of, from_by, found, head_over, before_with, bytes_with, plan_by, judged}
use Rattle.write_proof.specs.declared.found.Found.{Found}

-- ---- sizes

previous-wide : (heads : Bytes) (t : ℕ) → t * 32 ≤ length heads → length (previous_head heads t) ≡ 32
previous-wide heads zero h = length-replicate {A = ℕ} 32 0
previous-wide heads (suc t) h = ap length (previous-some heads t) ∙ length_part heads (t * 32) 32 (omega arith)

module _ (heads all old : Bytes) (items : List Item) (p : Plan) (reach : p.epoch * 32 ≤ length heads) (first : length all ≡ 32) (second : length old ≡ 32) where
  abbrev front : Bytes
  front = front_bytes (kind_number p.kind) (head_over heads all old p.epoch) p.number

  front-size : length front ≡ 108
  front-size = front_length (kind_number p.kind) (head_over heads all old p.epoch) p.number (previous-wide heads p.epoch reach) first second

  pub before-size : length (before_with heads all old items p) ≡ 108 + length (item_bytes items)
  unfolding before_with
  before-size = omega (arith, length-append front (item_bytes items), front-size)

  -- front and keys, one behind the other
  pub before-laid : (o f u : Bytes) (next : ℕ) → f ≡ pasted o 0 front → Wrote f 108 (item_bytes items) u next → Wrote o 0 (before_with heads all old items p) u next
  unfolding before_with
  before-laid o f u next ef wu = wrote-next o f u front (item_bytes items) (front ++ item_bytes items) 0 108 next (omega arith) ef (omega (arith, front-size)) wu refl

-- the front as the head's parts were found
pub head-found : (heads all old : Bytes) (t k n : ℕ) (b : Kind) (x y z o : Bytes) → k ≡ kind_number b → x ≡ previous_head heads t → y ≡ all → z ≡ old
    → pasted o 0 (front_bytes k (record { epoch = t; previous = x; all = y; old = z }) n) ≡ pasted o 0 (front_bytes (kind_number b) (head_over heads all old t) n)
head-found heads all old t k n b x y z o ek ex ey ez = λ i. pasted o 0 (front_bytes (ek i) (record { epoch = t; previous = ex i; all = ey i; old = ez i }) n)

-- a root has 32 bytes
pub root-wide : (S : List Node) → length (root_digest S) ≡ 32
root-wide S = (digest-wide (node_string (top (root S)))).size

module _ (heads name : Bytes) (A O : List Node) (items : List Item) (p : Plan) (reach : p.epoch * 32 ≤ length heads) where
  abbrev before : Bytes
  before = before_with heads (root_digest A) (root_digest O) items p

  abbrev paths : Bytes
  paths = path_bytes name A O (asked_of p)

  parts : bytes_with heads name A O items p ≡ before ++ paths
  unfolding bytes_with before_with
  parts = sym (append_assoc (front heads (root_digest A) (root_digest O) items p reach (root-wide A) (root-wide O)) (item_bytes items) paths)

  pub with_size : length (bytes_with heads name A O items p) ≡ 108 + length (item_bytes items) + length paths
  with_size = ap length parts ∙ omega (arith, length-append before paths, before-size heads (root_digest A) (root_digest O) items p reach (root-wide A) (root-wide O))

  -- and the paths behind them, over roots as they were found
  pub laid-all : (a o : Bytes) (out u v : Bytes) (next r : ℕ) → a ≡ root_digest A → o ≡ root_digest O → Wrote out 0 (before_with heads a o items p) u next → Wrote u next paths v r
      → Wrote out 0 (bytes_with heads name A O items p) v r
  laid-all a o out u v next r ea eo wu wv =
      let w = subst (λ b. Wrote out 0 b u next) (ap₂ (λ x y. before_with heads x y items p) ea eo) wu in
      wrote-next out u v before paths (bytes_with heads name A O items p) 0 next r (omega arith) w.laid w.behind wv parts

-- ---- what is asked

few-asked : (b : Kind) (n t : ℕ) → n < 2 ^ 16 → length (asked_by b n t) ≤ 200000
few-asked History n t h =
    let s = shifted n (markers_of n) h refl in
    omega (arith, asked-length n t (omega arith), s.small, s.few, by_most t)
few-asked Lookup zero t h = omega arith
few-asked Lookup (suc n) t h = omega arith

pub asked-few : (p : Plan) → p.number < 2 ^ 16 → length (asked_of p) ≤ 200000
asked-few p h = few-asked p.kind p.number p.epoch h

-- ---- what is found of the name

module _ (s name : Bytes) (t count : ℕ) where
  number_is : (at : Option ℕ) → at ≡ last_where (own_by s name t) count → version_of s at ≡ last_version (versions_by plain name t (records_in count s))
  number_is None e = sym (version-none s name t count (sym e))
  number_is (Some k) e = sym (version-last s name t count k (sym e))

  items-are : (b : Kind) (at : Option ℕ) → at ≡ last_where (own_by s name t) count → items_from s name t (from_by b at) count ≡ items_by b (versions_by plain name t (records_in count s))
  items-are History at e = items-all s name t count
  items-are Lookup None e = items-none s name t 0 count (sym e)
  items-are Lookup (Some k) e = items-last s name t k count (sym e)

  from-most : (b : Kind) (at : Option ℕ) → at ≡ last_where (own_by s name t) count → from_by b at ≤ count
  from-most History at e = omega arith
  from-most Lookup None e = omega arith
  from-most Lookup (Some k) e = omega (arith, last-most (own_by s name t) count k (sym e))

  pub from-within : (b : Kind) → from_by b (last_where (own_by s name t) count) ≤ count
  from-within b = from-most b (last_where (own_by s name t) count) refl

  -- the last record stands
  pub last-stands : ((i : ℕ) → i < count → Stands s i) → (at : Option ℕ) → at ≡ last_where (own_by s name t) count → (k : ℕ) → at ≡ Some k → Stands s k
  last-stands h at e k f = h k (omega (arith, last-most (own_by s name t) count k (sym e ∙ f)))

module _ (kind : Kind) (records heads : Bytes) (state : State) (out name : Bytes) (t : ℕ) (A O : List Node) (r : Found) (e : r ≡ found kind records name t state.count) where
  abbrev pub plan : Plan
  plan = record { kind = kind; number = r.number; epoch = t }

  abbrev pub proof : Bytes
  proof = bytes_with heads name A O (items_from records name t r.from state.count) plan

  -- what is weighed is what is judged
  pub judged-is : weighed state out (every (free_for name A O) (asked_of plan)) proof ≡ judged kind records heads state out name t A O
  judged-is =
      let at = last_where (own_by records name t) state.count in
      let planned : plan ≡ plan_by kind records heads state out name t = ap (λ m. record { kind = kind; number = m; epoch = t }) (ap (λ x. x.number) e ∙ number_is records name t state.count at refl) in
      let keys = ap (λ x. items_from records name t x.from state.count) e ∙ items-are records name t state.count kind at refl in
      λ i. weighed state out (every (free_for name A O) (asked_of (planned i))) (bytes_with heads name A O (keys i) (planned i))
