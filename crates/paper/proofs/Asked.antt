-- What a history is asked to show, and where in its order. Assumes nothing.
use mathlib.Core.Path.{◌≡◌, refl, sym, ap, ◌∙◌, subst}
use mathlib.Core.Logic.{inl, inr, ⊎_elim}
use mathlib.Core.List.{map}
use Prim.Native.Nat.{ℕ, zero, suc, ◌+◌, ◌-◌, ◌^◌, ◌<◌, ◌≤◌, min}
use native.Mathlib.Nat.{min-le_left}
use native.Mathlib.Omega.{arith}
use lib.ListN.{length, get_or, length-map, get_or-append}
use Rattle.paper.specs.Lists.{◌∈◌, up_from}
use Rattle.paper.specs.Bits.{top_power, log2}
use Rattle.paper.specs.Shows.{Place, in_all, in_old, as_marker, Asked, present, missing}
use Rattle.paper.specs.Lookup.{lookup_asked}
use Rattle.paper.specs.History.{markers_by, markers_missing, history_asked}
use Rattle.paper.proofs.Lists.{in_left, in_right, in-append, in_map, map-in, in-up_from, up_from-in, get_or-up_from, up_from-length, lt-append}

markers-by : (T : ℕ) → 0 < T → markers_by T ≡ suc (min 9 (log2 T))
markers-by zero h = absurd (omega arith)
markers-by (suc T) h = refl

marker-asked : (a T j : ℕ) → 0 < T → a ≤ j → j ≤ min 9 (log2 T) → missing (as_marker j) ∈ markers_missing a T
marker-asked a T j z l m =
    let e = markers-by T z in
    in_map (λ j. missing (as_marker j)) (up_from a (markers_by T - a)) j (in-up_from a (markers_by T - a) j l (omega arith))

-- version i + 1 is asked in its place
pub version-asked : (n T j : ℕ) → j < n → (get_or (history_asked n T) j (missing (in_all 0)) ≡ present (in_all (suc j))) × (j < length (history_asked n T))
version-asked zero T j l = absurd (omega arith)
version-asked (suc m) T j l =
    let A = map (λ i. present (in_all i)) (up_from 1 (suc m)) in
    let n : length A ≡ suc m = length-map (up_from 1 (suc m)) (λ i. present (in_all i)) ∙ up_from-length 1 (suc m) in
    let e : 1 + j ≡ suc j = omega arith in (
      get_or-append A _ (missing (in_all 0)) j (omega arith) ∙ get_or-up_from (λ i. present (in_all i)) (missing (in_all 0)) 1 (suc m) j l ∙ ap (λ i. present (in_all i)) e,
      lt-append A _ j (omega arith),
    )

pub old-asked : (n T i : ℕ) → 0 < i → i < n → present (in_old i) ∈ history_asked n T
old-asked zero T i z l = absurd (omega arith)
old-asked (suc m) T i z l =
    in_right _ (map (λ i. present (in_all i)) (up_from 1 (suc m))) _ (in_left _ (map (λ i. present (in_old i)) (up_from 1 m)) _
    (in_map (λ i. present (in_old i)) (up_from 1 m) i (in-up_from 1 m i z (omega arith))))

pub last-asked : (n T : ℕ) → 0 < n → missing (in_old n) ∈ history_asked n T
last-asked zero T z = absurd (omega arith)
last-asked (suc m) T z = in_right _ (map (λ i. present (in_all i)) (up_from 1 (suc m))) _ (in_right _ (map (λ i. present (in_old i)) (up_from 1 m)) _ (inl refl))

pub gap-asked : (n T i : ℕ) → 0 < n → n < i → i < 2 ^ suc (log2 n) → missing (in_all i) ∈ history_asked n T
gap-asked zero T i z l k = absurd (omega arith)
gap-asked (suc m) T i z l k =
    let G = up_from (suc (suc m)) (2 ^ suc (log2 (suc m)) - suc (suc m)) in
    in_right _ (map (λ i. present (in_all i)) (up_from 1 (suc m))) _ (in_right _ (map (λ i. present (in_old i)) (up_from 1 m)) _
    (inr (in_left _ (map (λ i. missing (in_all i)) G) _ (in_map (λ i. missing (in_all i)) G i (in-up_from (suc (suc m)) _ i l (omega arith))))))

pub markers-asked : (n T j : ℕ) → 0 < T → (0 < n → log2 n < j) → j ≤ min 9 (log2 T) → missing (as_marker j) ∈ history_asked n T
markers-asked zero T j z l k = marker-asked 0 T j z (omega arith) k
markers-asked (suc m) T j z l k =
    let G = up_from (suc (suc m)) (2 ^ suc (log2 (suc m)) - suc (suc m)) in
    in_right _ (map (λ i. present (in_all i)) (up_from 1 (suc m))) _ (in_right _ (map (λ i. present (in_old i)) (up_from 1 m)) _
    (inr (in_right _ (map (λ i. missing (in_all i)) G) _ (in_right _ (map (λ j. present (as_marker j)) (up_from 0 (suc (log2 (suc m))))) _
    (marker-asked (suc (log2 (suc m))) T j z (l (omega arith)) k)))))

-- what is not there while a name has n versions: a later one, the last one replaced, a marker above its own
pub data Gone (n : ℕ) : Place → Type 0 where
  later : (i : ℕ) → n < i → i < 2 ^ suc (log2 n) → Gone n (in_all i)
  last : Gone n (in_old n)
  above : (j : ℕ) → (0 < n → log2 n < j) → j < 10 → Gone n (as_marker j)

-- and nothing else is asked: versions, replaced versions and markers that are there, and what is not there
pub data Only (n : ℕ) : Asked → Type 0 where
  a-version : (j : ℕ) → j < n → Only n (present (in_all (suc j)))
  an-old : (i : ℕ) → 0 < i → i < n → Only n (present (in_old i))
  a-marker : (j : ℕ) → 0 < n → j ≤ log2 n → Only n (present (as_marker j))
  not_there : (x : Place) → Gone n x → Only n (missing x)

-- "min(9, floor(log2 T))"
pub by_most : (T : ℕ) → markers_by T ≤ 10
by_most zero = omega arith
by_most (suc T) = omega (arith, min-le_left 9 (log2 (suc T)))

only-from : (n : ℕ) (f : ℕ → Asked) (a k : ℕ) → ((i : ℕ) → a ≤ i → i < a + k → Only n (f i)) → (b : Asked) → b ∈ map f (up_from a k) → Only n b
only-from n f a k h b m =
    let (i, j, e) = map-in f (up_from a k) b m in
    let (l, u) = up_from-in a k i j in
    subst (Only n) (sym e) (h i l u)

pub asked-only : (n T : ℕ) (a : Asked) → a ∈ history_asked n T → Only n a
asked-only zero T a m = only-from zero (λ j. missing (as_marker j)) 0 (markers_by T - 0) (λ j l u. not_there (as_marker j) (above j (λ h. absurd (omega arith)) (omega (arith, by_most T)))) a m
asked-only (suc m) T a k =
    ⊎_elim (only-from (suc m) (λ i. present (in_all i)) 1 (suc m) version-only a)
    (λ k. ⊎_elim (only-from (suc m) (λ i. present (in_old i)) 1 m (λ i l u. an-old i l (omega arith)) a)
    (λ k. ⊎_elim (λ e. subst (Only (suc m)) (sym e) (not_there (in_old (suc m)) last))
    (λ k. ⊎_elim (only-from (suc m) (λ i. missing (in_all i)) (suc (suc m)) _ (λ i l u. not_there (in_all i) (later i l (omega arith))) a)
    (λ k. ⊎_elim (only-from (suc m) (λ j. present (as_marker j)) 0 _ (λ j l u. a-marker j (omega arith) (omega arith)) a)
    (only-from (suc m) (λ j. missing (as_marker j)) _ _ (λ j l u. not_there (as_marker j) (above j (λ h. l) (omega (arith, by_most T)))) a)
    (in-append (map (λ j. present (as_marker j)) (up_from 0 (suc (log2 (suc m))))) _ a k))
    (in-append (map (λ i. missing (in_all i)) (up_from (suc (suc m)) (2 ^ suc (log2 (suc m)) - suc (suc m)))) _ a k))
    k)
    (in-append (map (λ i. present (in_old i)) (up_from 1 m)) _ a k))
    (in-append (map (λ i. present (in_all i)) (up_from 1 (suc m))) _ a k)
  where
    version-only : (i : ℕ) → 1 ≤ i → i < 1 + suc m → Only (suc m) (present (in_all i))
    version-only zero l u = absurd (omega arith)
    version-only (suc j) l u = a-version j (omega arith)

-- so of a lookup
pub lookup-only : (n : ℕ) (a : Asked) → a ∈ lookup_asked n → Only n a
unfolding log2 top_power
lookup-only zero a (inl e) = subst (Only zero) (sym e) (not_there (in_all 1) (later 1 (omega arith) (omega arith)))
lookup-only (suc v) a (inl e) = subst (Only (suc v)) (sym e) (a-version v (omega arith))
lookup-only (suc v) a (inr (inl e)) = subst (Only (suc v)) (sym e) (not_there (in_old (suc v)) last)
lookup-only (suc v) a (inr (inr (inl e))) = subst (Only (suc v)) (sym e) (a-marker (log2 (suc v)) (omega arith) (omega arith))
lookup-only zero a (inr m) = elim m [ ]
lookup-only (suc v) a (inr (inr (inr m))) = elim m [ ]
