-- A row of leaves: the leaf at a place, parts of a row, a leaf laid in another's place, and a row out of bytes one behind the other.
-- Assumes nothing.
use mathlib.Core.Path.{◌≡◌, refl, sym, ap, ap₂, ◌∙◌}
use mathlib.Core.List.{List, [], ◌∷◌, ◌++◌}
use Prim.Native.Nat.{ℕ, zero, suc, ◌*◌, ◌/◌, ◌≤◌, ◌<◌}
use native.Mathlib.Omega.{arith}
use lib.ListN.{length, get_or, set, take, drop, length-drop, length-map}
use lib.Seq.{length-take-le, take_all}
use Rattle.std.specs.List.{flat_map}
use Rattle.std.specs.Simd.{first_chunks}
use Rattle.std.proofs.lemmas.List.{take-map, drop-map, map-append, get_or-map}
use Rattle.paper.specs.Lists.{◌∈◌, All}
use Rattle.paper.specs.Bytes.{Bytes, Bytewise}
use Rattle.paper.specs.Strings.{Node, leaf, inner, nothing}
use Rattle.paper.specs.Tree.{key}
use Rattle.paper.specs.Level.{entry_leaf, leaves_in, leaves_of}
use Rattle.paper.proofs.Lists.{all_in, in-all, all_take, all_drop, all_left, all_right}
use Rattle.paper.proofs.Bytes.{bits_of-length, number_lt}
use Rattle.paper.proofs.Honest.{LeafSized}
use Rattle.ranges.proofs.Slices.{length_part}
use Rattle.bit_order.proofs.Leaves.{leaf-cut, leaves-length}
use Rattle.bit_order.proofs.Told.{entry-one}
use Rattle.leaf_row.specs.Row.{as_nodes, Long, Whole, LeafFits, Sized}

pub nodes-length : (row : List Bytes) → length (as_nodes row) ≡ length row
nodes-length row = length-map row entry_leaf

pub node_at : (row : List Bytes) (i : ℕ) → i < length row → get_or (as_nodes row) i nothing ≡ entry_leaf (get_or row i [])
node_at row i h = get_or-map entry_leaf row i [] nothing h

-- labels have 256 bits
pub nodes-long : (row : List Bytes) → Whole row → Long (as_nodes row)
nodes-long [] h = tt
nodes-long (e ∷ row) h = (omega (arith, bits_of-length (take 32 e), length-take-le 32 e (omega (arith, h.0))), nodes-long row h.1)

pub nodes-take : (m : ℕ) (row : List Bytes) → as_nodes (take m row) ≡ take m (as_nodes row)
nodes-take m row = sym (take-map entry_leaf m row)

pub nodes-drop : (m : ℕ) (row : List Bytes) → as_nodes (drop m row) ≡ drop m (as_nodes row)
nodes-drop m row = sym (drop-map entry_leaf m row)

pub nodes-append : (a b : List Bytes) → as_nodes (a ++ b) ≡ as_nodes a ++ as_nodes b
nodes-append a b = map-append entry_leaf a b

pub nodes_set : (row : List Bytes) (i : ℕ) (e : Bytes) → as_nodes (set row i e) ≡ set (as_nodes row) i (entry_leaf e)
nodes_set [] i e = refl
nodes_set (x ∷ row) zero e = refl
nodes_set (x ∷ row) (suc i) e = ap {B = List Node} (λ l. entry_leaf x ∷ l) (nodes_set row i e)

-- as a type of rows says it
pub whole-by : (row : List Bytes) → ((i : ℕ) → i < length row → length (get_or row i []) ≡ 68) → Whole row
whole-by [] f = tt
whole-by (e ∷ row) f = (f 0 (omega arith), whole-by row (λ i h. f (suc i) (omega arith)))

-- ---- leaves that fit

fits-long : (x : Node) → LeafFits x → length (key x) ≡ 256
fits-long (leaf m c e) h = h.0
fits-long (inner p l r) h = absurd h
fits-long nothing h = absurd h

pub sized-long : (S : List Node) → Sized S → Long S
sized-long S h = in-all _ S (λ x m. fits-long x (all_in LeafFits S h x m))

-- leaves that are among others fit as those do
pub sized-among : (S R : List Node) → ((x : Node) → x ∈ R → x ∈ S) → Sized S → Sized R
sized-among S R f h = in-all LeafFits R (λ x m. all_in LeafFits S h x (f x m))

fits-sized : (x : Node) → LeafFits x → LeafSized x
fits-sized (leaf m c e) h = h
fits-sized (inner p l r) h = h
fits-sized nothing h = h

pub sized-all : (S : List Node) → Sized S → All LeafSized S
sized-all S h = in-all LeafSized S (λ x m. fits-sized x (all_in LeafFits S h x m))

-- ---- out of bytes

pub chunks-nodes : (n : ℕ) (s : Bytes) → as_nodes (first_chunks 68 n s) ≡ leaves_in n s
unfolding leaves_in
chunks-nodes zero s = refl
chunks-nodes (suc n) s = ap₂ {C = List Node} (λ x l. x ∷ l) (leaf-cut 68 s (omega arith)) (chunks-nodes n (drop 68 s))

pub chunks-whole : (n : ℕ) (s : Bytes) → n * 68 ≤ length s → Whole (first_chunks 68 n s)
chunks-whole zero s h = tt
chunks-whole (suc n) s h = (length-take-le 68 s (omega arith), chunks-whole n (drop 68 s) (omega (arith, length-drop 68 s)))

fits-entry : (e : Bytes) → 68 ≤ length e → Bytewise e → LeafFits (entry_leaf e)
fits-entry s h w =
    let e : length (take 4 (drop 64 s)) ≡ 4 = length_part s 64 4 (omega arith) in (
      omega (arith, bits_of-length (take 32 s), length-take-le 32 s (omega arith)),
      record { size = length_part s 32 32 (omega arith); bytes = all_take _ 32 (drop 32 s) (all_drop _ 32 s w) },
      rw e at (number_lt (take 4 (drop 64 s)) (all_take _ 4 (drop 64 s) (all_drop _ 64 s w))),
    )

pub leaves-sized : (n : ℕ) (s : Bytes) → n * 68 ≤ length s → Bytewise s → Sized (leaves_in n s)
unfolding leaves_in
leaves-sized zero s h w = tt
leaves-sized (suc n) s h w = (fits-entry s (omega arith) w, leaves-sized n (drop 68 s) (omega (arith, length-drop 68 s)) (all_drop _ 68 s w))

-- leaves whose bytes, one behind the other, are bytes
pub flat-sized : (row : List Bytes) → Whole row → Bytewise (flat_map (λ x. x) row) → Sized (as_nodes row)
flat-sized [] h w = tt
flat-sized (e ∷ row) h w =
    (fits-entry e (omega (arith, h.0)) (all_left _ e (flat_map (λ x. x) row) w), flat-sized row h.1 (all_right _ e (flat_map (λ x. x) row) w))

-- a row by its bytes
pub row-count : (row : List Bytes) (s : Bytes) → as_nodes row ≡ leaves_of s → length row ≡ length s / 68
row-count row s e = sym (nodes-length row) ∙ ap length e ∙ leaves-length (length s / 68) s

pub of-count : (m : ℕ) (s : Bytes) → length s ≡ m * 68 → leaves_of s ≡ leaves_in m s
of-count m s h = let e : length s / 68 ≡ m = omega arith in ap (λ n. leaves_in n s) e

-- ---- leaves tell their bytes

pub rows-one : (s t : List Bytes) → Whole s → Whole t → All Bytewise s → All Bytewise t → as_nodes s ≡ as_nodes t → s ≡ t
rows-one [] [] v w h k e = refl
rows-one [] (y ∷ t) v w h k e = absurd (omega (arith, ap length e))
rows-one (x ∷ s) [] v w h k e = absurd (omega (arith, ap length e))
rows-one (x ∷ s) (y ∷ t) v w h k e =
    let head : entry_leaf x ≡ entry_leaf y = cc in
    let tail : as_nodes s ≡ as_nodes t = cc in
    ap₂ {C = List Bytes} (λ a l. a ∷ l) (sym (take_all 68 x (omega (arith, v.0))) ∙ entry-one x y h.0 k.0 (omega (arith, v.0)) (omega (arith, w.0)) head ∙ take_all 68 y (omega (arith, w.0))) (rows-one s t v.1 w.1 h.1 k.1 tail)
