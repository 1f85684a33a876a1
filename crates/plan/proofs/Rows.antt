-- A history's paths by their numbers: how many there are, and which is the i-th. A lookup's paths are three or one. Assumes nothing.
use mathlib.Core.Path.{◌≡◌, refl, sym, ap, ◌∙◌}
use mathlib.Core.List.{List, [], ◌∷◌, ◌++◌, map}
use Prim.Native.Nat.{ℕ, zero, suc, ◌+◌, ◌-◌, ◌^◌, ◌<◌, ◌≤◌}
use native.Mathlib.Omega.{arith}
use lib.ListN.{length, get_or, length-append, length-map, get_or-append}
use lib.Seq.{get_or-append-add}
use Rattle.paper.specs.Lists.{up_from}
use Rattle.paper.specs.Bits.{log2}
use Rattle.paper.specs.Shows.{Asked, present, missing, in_all, in_old, as_marker}
use Rattle.paper.specs.Lookup.{lookup_asked}
use Rattle.paper.specs.History.{history_asked, markers_by, markers_missing}
use Rattle.paper.proofs.Lists.{up_from-length, get_or-up_from}
use Rattle.plan.specs.Asked.{markers_of}
use Rattle.plan.proofs.Markers.{below_power}

-- a row is what f gives for k numbers from a on; behind it stands a rest
module _ {B : Type 0} (f : ℕ → B) (a k : ℕ) where
  row-size : length (map f (up_from a k)) ≡ k
  row-size = length-map (up_from a k) f ∙ up_from-length a k

  row-length : (l : List B) → length (map f (up_from a k) ++ l) ≡ k + length l
  row-length l = omega (arith, length-append (map f (up_from a k)) l, row-size)

  module _ (l : List B) (d : B) where
    in_row : (i j : ℕ) → i < k → j ≡ a + i → get_or (map f (up_from a k) ++ l) i d ≡ f j
    in_row i j h e = get_or-append (map f (up_from a k)) l d i (omega (arith, row-size)) ∙ (get_or-up_from f d a k i h ∙ ap f (sym e))

    past_row : (i j : ℕ) → i ≡ k + j → get_or (map f (up_from a k) ++ l) i d ≡ get_or l j d
    past_row i j e =
        let q : i ≡ length (map f (up_from a k)) + j = omega (arith, row-size) in
        ap (λ i. get_or (map f (up_from a k) ++ l) i d) q ∙ get_or-append-add (map f (up_from a k)) l j d

-- what is asked of suc m versions, from the markers on, from the missing versions on, and from the versions in *old* on
module _ (m T : ℕ) where
  abbrev marks : List Asked
  marks = map (λ j. present (as_marker j)) (up_from 0 (suc (log2 (suc m)))) ++ markers_missing (suc (log2 (suc m))) T

  abbrev gap : List Asked
  gap = map (λ i. missing (in_all i)) (up_from (suc (suc m)) (2 ^ suc (log2 (suc m)) - suc (suc m))) ++ marks

  abbrev olds : List Asked
  olds = map (λ i. present (in_old i)) (up_from 1 m) ++ (missing (in_old (suc m)) ∷ gap)

-- n versions in *all*, the numbers below 2^(a+1), and the markers, as many as are present or as there can be
pub asked-length : (n T : ℕ) → n < 2 ^ 32 → suc (length (history_asked n T)) ≡ n + 2 ^ markers_of n + (markers_of n + (markers_by T - markers_of n))
asked-length zero T h = omega (arith, row-size (λ j. missing (as_marker j)) 0 (markers_by T - 0))
asked-length (suc m) T h =
    let b = suc (log2 (suc m)) in
    omega (
      arith,
      below_power (suc m) h,
      row-length (λ i. present (in_all i)) 1 (suc m) (olds m T),
      row-length (λ i. present (in_old i)) 1 m (missing (in_old (suc m)) ∷ gap m T),
      row-length (λ i. missing (in_all i)) (suc (suc m)) (2 ^ b - suc (suc m)) (marks m T),
      row-length (λ j. present (as_marker j)) 0 b (markers_missing b T),
      row-size (λ j. missing (as_marker j)) b (markers_by T - b),
    )

-- "Versions 1 to n present in *all*."
pub at_all : (n T : ℕ) (d : Asked) (i : ℕ) → i < n → get_or (history_asked n T) i d ≡ present (in_all (i + 1))
at_all zero T d i l = absurd (omega arith)
at_all (suc m) T d i l = in_row (λ i. present (in_all i)) 1 (suc m) (olds m T) d i (i + 1) l (omega arith)

-- From there on number k stands at n + k - 1. "Versions 1 to n-1 present in *old*."
past_all : (m T : ℕ) (d : Asked) (i j : ℕ) → i ≡ suc m + j → get_or (history_asked (suc m) T) i d ≡ get_or (olds m T) j d
past_all m T d i j e = past_row (λ i. present (in_all i)) 1 (suc m) (olds m T) d i j e

pub at_old : (n T : ℕ) (d : Asked) (i k : ℕ) → suc i ≡ n + k → 0 < k → k < n → get_or (history_asked n T) i d ≡ present (in_old k)
at_old zero T d i k e p l = absurd (omega arith)
at_old (suc m) T d i k e p l =
    past_all m T d i (k - 1) (omega arith)
    ∙ in_row (λ i. present (in_old i)) 1 m (missing (in_old (suc m)) ∷ gap m T) d (k - 1) k (omega arith) (omega arith)

past-old : (m T : ℕ) (d : Asked) (i j : ℕ) → i ≡ suc m + (m + j) → get_or (history_asked (suc m) T) i d ≡ get_or (missing (in_old (suc m)) ∷ gap m T) j d
past-old m T d i j e = past_all m T d i (m + j) e ∙ past_row (λ i. present (in_old i)) 1 m (missing (in_old (suc m)) ∷ gap m T) d (m + j) j refl

-- "If n > 0, n absent from *old*."
pub at_last : (n T : ℕ) (d : Asked) (i k : ℕ) → suc i ≡ n + k → 0 < k → k ≡ n → get_or (history_asked n T) i d ≡ missing (in_old k)
at_last zero T d i k e p q = absurd (omega arith)
at_last (suc m) T d i k e p q = past-old m T d i 0 (omega arith) ∙ ap (λ k. missing (in_old k)) (sym q)

-- "n+1 to 2^(a+1)-1 absent from *all*"
pub at_gap : (n T : ℕ) (d : Asked) (i k : ℕ) → suc i ≡ n + k → n < k → k < 2 ^ markers_of n → get_or (history_asked n T) i d ≡ missing (in_all k)
at_gap zero T d i k e p l = absurd (omega arith)
at_gap (suc m) T d i k e p l =
    let b = suc (log2 (suc m)) in
    past-old m T d i (suc (k - suc (suc m))) (omega arith)
    ∙ in_row (λ i. missing (in_all i)) (suc (suc m)) (2 ^ b - suc (suc m)) (marks m T) d (k - suc (suc m)) k (omega arith) (omega arith)

-- Marker j stands at n + 2^(a+1) + j - 1. "markers 0 to a present"
past-gap : (m T : ℕ) (d : Asked) (i j : ℕ) → suc m < 2 ^ 32 → suc i ≡ suc m + 2 ^ markers_of (suc m) + j → get_or (history_asked (suc m) T) i d ≡ get_or (marks m T) j d
past-gap m T d i j h e =
    let b = suc (log2 (suc m)) in
    let k = 2 ^ b - suc (suc m) in
    let l = below_power (suc m) h in
    past-old m T d i (suc (k + j)) (omega arith) ∙ past_row (λ i. missing (in_all i)) (suc (suc m)) k (marks m T) d (k + j) j refl

pub at-marker : (n T : ℕ) (d : Asked) (i j : ℕ) → n < 2 ^ 32 → suc i ≡ n + 2 ^ markers_of n + j → j < markers_of n → get_or (history_asked n T) i d ≡ present (as_marker j)
at-marker zero T d i j h e l = absurd (omega arith)
at-marker (suc m) T d i j h e l =
    let b = suc (log2 (suc m)) in
    past-gap m T d i j h e ∙ in_row (λ j. present (as_marker j)) 0 b (markers_missing b T) d j j l (omega arith)

-- "markers a+1 to min(9, floor(log2 T)) absent. For n = 0: only markers 0 to min(9, floor(log2 T)), absent."
pub at_more : (n T : ℕ) (d : Asked) (i j : ℕ) → n < 2 ^ 32 → suc i ≡ n + 2 ^ markers_of n + j → markers_of n ≤ j → j < markers_by T → get_or (history_asked n T) i d ≡ missing (as_marker j)
at_more zero T d i j h e p l =
    let q : 0 + i ≡ j = omega arith in
    get_or-up_from (λ j. missing (as_marker j)) d 0 (markers_by T - 0) i (omega arith) ∙ ap (λ j. missing (as_marker j)) q
at_more (suc m) T d i j h e p l =
    let b = suc (log2 (suc m)) in
    let q : b + (j - b) ≡ j = omega arith in
    past-gap m T d i j h e
    ∙ (past_row (λ j. present (as_marker j)) 0 b (markers_missing b T) d j (j - b) (omega arith)
    ∙ (get_or-up_from (λ j. missing (as_marker j)) d b (markers_by T - b) (j - b) (omega arith)
    ∙ ap (λ j. missing (as_marker j)) q))

-- "paths: version v present in *all*, v absent from *old*, marker floor(log2 v) present in *all*"
pub lookup-some : (v : ℕ) → 0 < v → lookup_asked v ≡ present (in_all v) ∷ missing (in_old v) ∷ present (as_marker (log2 v)) ∷ []
lookup-some zero h = absurd (omega arith)
lookup-some (suc v) h = refl
