-- The paths of an honest tree: for every label they fit the layout, give the root, and show the leaf that is there or that none is.
-- Assumes nothing.
use mathlib.Core.Path.{◌≡◌, refl, sym, ap, ap₂, ◌∙◌, subst}
use mathlib.Core.Bool.{Bool, true, false, cond, not, ◌||◌}
use mathlib.Core.List.{List, [], ◌∷◌}
use Prim.Native.Nat.{ℕ, suc, ◌^◌, ◌<◌, ◌≤◌}
use native.Mathlib.Omega.{arith}
use lib.ListN.{length, get_or}
use borrow.Author.Tests.{not-true}
use Rattle.paper.specs.Lists.{◌∈◌, All, some}
use Rattle.paper.specs.Bytes.{Bytes}
use Rattle.paper.specs.Bits.{Bits, starts, ◌▹◌}
use Rattle.paper.specs.Strings.{Node, leaf, inner, nothing}
use Rattle.paper.specs.Tree.{key, digest, Tree, empty, top, side, build, root, root_digest}
use Rattle.paper.specs.Path as P
use Rattle.paper.specs.Path.{Step, End, this, other, none, same_bits, last_length, end_at, way_steps, way_end, way, path_root}
use Rattle.paper.specs.Fields.{rise_from, rise, path_field, step_field}
use Rattle.paper.specs.Table.{holds, distinct}
use Rattle.paper.proofs.Lists.{all_in, in-all, all_left, all_right, and_left, and_right, or_left, or_right, not-both}
use Rattle.paper.proofs.Bits.{pfx-full, pfx-length, length-snoc, pfx-bit}
use Rattle.paper.proofs.Tree.{Free, Apart, below_none, side-all, side-below, side-in, in-side, side-free}
use Rattle.paper.proofs.Walk.{same_bits-eq, eq-same_bits, fails}
use Rattle.paper.proofs.Fits.{Wide, digest-wide, PathFits}
use Rattle.paper.proofs.Fit.{step-fit, EndSized, end-fit, path-fit}
use Rattle.paper.proofs.Way.{way-top, Grown, build-grown, Down, stands, leaves, goes, way_down, way-fork, down-rise, down-count, down_fits, last_from, last-from, entries, IsLeaf, down-absent, build-present, build-entries}

-- ---- sets of leaves

-- a leaf with its sizes
abbrev pub LeafSized : Node → Type 0
LeafSized (leaf m c e) = (length m ≡ 256) × Wide c × (e < 2 ^ 32)
LeafSized (inner p l r) = ⊥
LeafSized nothing = ⊥

-- leaves of which no two share a label
pub record LeafSet (S : List Node) : Type 0 where
  pub free : Free S
  pub sized : All LeafSized S

pub leaf-label : (x : Node) → LeafSized x → length (key x) ≡ 256
leaf-label (leaf m c e) s = s.0
leaf-label (inner p l r) s = absurd s
leaf-label nothing s = absurd s

pub leaf-is : (x : Node) → LeafSized x → IsLeaf x
leaf-is (leaf m c e) s = tt
leaf-is (inner p l r) s = absurd s
leaf-is nothing s = absurd s

-- no leaf of the list has the label
pub held-not : (L : Bits) (S : List Node) → holds L S ≡ false → All (λ x. ¬ (key x ≡ L)) S
unfolding holds some
held-not L [] e = tt
held-not L (x ∷ S) e = (λ q. not-both (eq-same_bits (key x) L q) (or_left (same_bits (key x) L) _ e), held-not L S (or_right (same_bits (key x) L) _ e))

pub not-held : (L : Bits) (S : List Node) → All (λ x. ¬ (key x ≡ L)) S → holds L S ≡ false
unfolding holds some
not-held L [] n = refl
not-held L (x ∷ S) n = ap₂ ◌||◌ (fails (same_bits (key x) L) (λ q. n.0 (same_bits-eq (key x) L q))) (not-held L S n.1)

apart : (x y : Node) → LeafSized x → LeafSized y → ¬ (key y ≡ key x) → Apart x y
apart x y a b n = (
  λ h. n (sym (pfx-full h (omega (arith, leaf-label x a, leaf-label y b)))),
  λ h. n (pfx-full h (omega (arith, leaf-label x a, leaf-label y b))),
)

all_apart : (x : Node) (S : List Node) → LeafSized x → All LeafSized S → All (λ y. ¬ (key y ≡ key x)) S → All (Apart x) S
all_apart x [] a s n = tt
all_apart x (y ∷ S) a s n = (apart x y a s.0 n.0, all_apart x S a s.1 n.1)

distinct-free : (S : List Node) → All LeafSized S → distinct S ≡ true → Free S
unfolding distinct
distinct-free [] s e = tt
distinct-free (x ∷ S) s e =
    (all_apart x S s.0 s.1 (held-not (key x) S (not-true _ (and_left _ _ e))), distinct-free S s.1 (and_right (not (holds (key x) S)) _ e))

-- where the test of the document finds no clash, the leaves are a set
pub distinct-set : (S : List Node) → All LeafSized S → distinct S ≡ true → LeafSet S
distinct-set S s e = record { free = distinct-free S s e; sized = s }

-- ---- a label's path

-- the end of a way down among leaves has its sizes
down-end : {L q : Bits} {t : Tree} {ss : List Step} {e : End} → Down L q t ss e → 1 ≤ length q → All LeafSized (entries t) → (m : ℕ) → EndSized m e
unfolding end_at
down-end {L = L} (stands (leaf l c e) g k) h s m = by (same_bits l L)
  where
    by : (b : Bool) → EndSized m (cond b (this c e) (other l c e))
    by true = (s.0.1, s.0.2)
    by false = s.0
down-end (stands (inner p u v) g k) h s m = absurd s.0
down-end (stands nothing g k) h s m = absurd s.0
down-end (leaves p l r g k n) h s m = (omega (arith, pfx-length g), k, digest-wide _, digest-wide _)
down-end (goes p l r true g k w d) h s m = down-end d (omega (arith, length-snoc p true)) (all_right _ (entries l) _ s) m
down-end (goes p l r false g k w d) h s m = down-end d (omega (arith, length-snoc p false)) (all_left _ (entries l) _ s) m

-- a path whose first step is the root's
from-root : (s : Step) (ss : List Step) (e : End) → s.length ≡ 0 → Wide s.sibling → All step_field.Fits ss → rise_from 1 ss ≡ true → length ss ≤ 255 → EndSized (suc (length ss)) e
    → PathFits (record { steps = s ∷ ss; end = e })
unfolding rise
from-root s ss e z w f r n u = record {
  least = omega arith;
  most = omega arith;
  each = (step-fit s (omega arith) w, f);
  rises = rw z r;
  last = end-fit (suc (length ss)) e u;
}

module _ (S : List Node) (set : LeafSet S) (L : Bits) (size : length L ≡ 256) where
  abbrev bit : Bool
  bit = get_or L 0 false

  -- the leaves on the label's side of the root, and the tree over them
  abbrev half : List Node
  half = side ([] ▹ bit) S

  abbrev under : Tree
  under = build 256 half

  labels : All (λ y. length (key y) ≤ 256) S
  labels = in-all _ S (λ y m. omega (arith, leaf-label y (all_in LeafSized S set.sized y m)))

  -- that side is empty, or grown
  data Side : Type 0 where
    bare : half ≡ [] → Side
    full : Grown ([] ▹ bit) under → Side

  which : Side
  which = by half refl
    where
      by : (H : List Node) → half ≡ H → Side
      by [] e = bare e
      by (x ∷ H) e = full (build-grown 256 256 ([] ▹ bit) half (side-free _ S set.free) (side-all _ _ S labels) (omega arith) (side-below _ S) (omega arith)
          (λ q. let z : ◌≡◌ {A = ℕ} 0 1 = cc in omega arith))

  abbrev first : Step
  first = record { length = 0; sibling = digest (top (cond bit (build 256 (side ([] ▹ false) S)) (build 256 (side ([] ▹ true) S)))) }

  side-is : (b : Bool) → cond b (build 256 (side ([] ▹ true) S)) (build 256 (side ([] ▹ false) S)) ≡ build 256 (side ([] ▹ b) S)
  side-is true = refl
  side-is false = refl

  -- the first step is the root's, and the others go on below it
  way-root-steps : (way_steps L (root S) ≡ first ∷ way_steps L under) × (way_end L (root S) ≡ way_end L under)
  unfolding root starts
  way-root-steps =
      let (a, b) = way-fork L [] (build 256 (side ([] ▹ false) S)) (build 256 (side ([] ▹ true) S)) bit refl refl in
      (a ∙ ap (λ t. first ∷ way_steps L t) (side-is bit), b ∙ ap (way_end L) (side-is bit))

  pub way-gives-root : path_root L (way L (root S)) ≡ root_digest S
  way-gives-root = ap digest (way-top L (root S))

  pub way-present : (c : Bytes) (e : ℕ) → leaf L c e ∈ S → way_end L (root S) ≡ this c e
  way-present c e m =
      way-root-steps.1
      ∙ build-present 256 256 ([] ▹ bit) L c e half size (side-free _ S set.free) (side-all _ _ S labels) (side-below _ S) (omega arith) (in-side _ S (leaf L c e) m (pfx-bit L 0 (omega arith)))

  half-empty : half ≡ [] → under ≡ empty
  half-empty e = ap (build 256) e ∙ below_none

  from-half : (P : Node → Type 0) → All P S → All P (entries under)
  from-half P h = in-all _ (entries under) (λ x m. all_in P S h x (side-in _ S x (build-entries 256 half x m)))

  -- a label that no leaf has is shown absent
  pub way-absent : All (λ x. ¬ (key x ≡ L)) S → P.absent L (last_length (way_steps L (root S))) (way_end L (root S)) ≡ true
  unfolding P.absent way_end
  way-absent n = rw (way-root-steps.0, way-root-steps.1, last-from) (by which)
    where
      by : Side → P.absent L (last_from 0 (way_steps L under)) (way_end L under) ≡ true
      by (bare e) = ap (λ t. P.absent L (last_from 0 (way_steps L t)) (way_end L t)) (half-empty e)
      by (full g) = down-absent 0 refl (pfx-bit L 0 (omega arith)) (from-half IsLeaf (in-all _ S (λ x m. leaf-is x (all_in LeafSized S set.sized x m)))) (from-half _ n) (way_down L size ([] ▹ bit) under g)

  -- the path is in layout
  pub way-fits : path_field.Fits (way L (root S))
  unfolding way_steps way_end rise_from
  way-fits = path-fit _ (subst (λ x. PathFits x) (sym whole) (by which))
    where
      whole : way L (root S) ≡ record { steps = first ∷ way_steps L under; end = way_end L under }
      whole = λ i. record { steps = way-root-steps.0 i; end = way-root-steps.1 i }

      by : Side → PathFits (record { steps = first ∷ way_steps L under; end = way_end L under })
      by (bare e) = subst (λ t. PathFits (record { steps = first ∷ way_steps L t; end = way_end L t })) (sym (half-empty e)) (from-root first [] none (omega arith) (digest-wide _) tt refl (omega arith) refl)
      by (full g) =
          let d = way_down L size ([] ▹ bit) under g in
          from-root first (way_steps L under) (way_end L under) (omega arith) (digest-wide _) (down_fits d) (down-rise d) (omega (arith, down-count (omega arith) d))
          (down-end d (omega arith) (from-half LeafSized set.sized) _)
