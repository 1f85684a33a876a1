-- What a lookup and a history are asked to show, place by place: the k-th thing asked, from 1, goes with the k-th path. Assumes nothing.
use mathlib.Core.Path.{◌≡◌, refl, sym, ◌∙◌, subst}
use mathlib.Core.Logic.{◌↔◌, by_cases}
use mathlib.Core.List.{List, [], ◌∷◌, ◌++◌, map}
use Prim.Native.Nat.{ℕ, zero, suc, ◌+◌, ◌-◌, ◌^◌, ◌≤◌, ◌<◌, min}
use native.Mathlib.Omega.{arith}
use native.Mathlib.Decide.{dec_lt}
use lib.ListN.{length, length-map}
use Rattle.paper.specs.Lists.{up_from}
use Rattle.paper.specs.Numbers.{version_most}
use Rattle.paper.specs.Bits.{log2}
use Rattle.paper.specs.Shows.{in_all, in_old, as_marker, Asked, present, missing}
use Rattle.paper.specs.Lookup.{lookup_asked}
use Rattle.paper.specs.History.{markers_by, markers_missing, history_asked}
use Rattle.paper.proofs.Lists.{up_from-length}
use Rattle.paper.proofs.Marker.{log2-spec}

-- Q of each thing asked and its place, the first at k
abbrev pub Each : (ℕ → Asked → Type 0) → ℕ → List Asked → Type 0
Each Q k [] = Unit {0}
Each Q k (a ∷ l) = Q k a × Each Q (suc k) l

module _ (Q : ℕ → Asked → Type 0) where
  -- at another number that is the same
  at : {k : ℕ} (j : ℕ) {a : Asked} → k ≡ j → Q k a → Q j a
  at j {a = a} e q = subst (λ i. Q i a) e q

  each_append : (k : ℕ) (l m : List Asked) → Each Q k (l ++ m) ↔ (Each Q k l × Each Q (k + length l) m)
  each_append k [] m = let e : k ≡ k + 0 = omega arith in (λ h. (tt, subst (λ i. Each Q i m) e h), λ (_, h). subst (λ i. Each Q i m) (sym e) h)
  each_append k (a ∷ l) m =
      let e : suc k + length l ≡ k + suc (length l) = omega arith in
      let (to, from) = each_append (suc k) l m in (
        λ (q, h). let (x, y) = to h in ((q, x), subst (λ i. Each Q i m) e y),
        λ ((q, x), y). (q, from (x, subst (λ i. Each Q i m) (sym e) y)),
      )

  -- of a run: f i stands as far behind the start as i behind a
  each-run : (k : ℕ) (f : ℕ → Asked) (a c : ℕ) → Each Q k (map f (up_from a c)) ↔ ((i j : ℕ) → a ≤ i → i < a + c → j + a ≡ k + i → Q j (f i))
  unfolding up_from
  each-run k f a zero = (λ _ i j l u e. absurd (omega arith), λ _. tt)
  each-run k f a (suc c) =
      let (to, from) = each-run (suc k) f (suc a) c in (
        λ (q, h) i j l u e. by_cases (dec_lt a i)
            (λ m. to h i j m (omega arith) (omega arith))
            (λ m. let p : a ≡ i = omega arith in let r : k ≡ j = omega arith in subst (λ i. Q j (f i)) p (at j r q)),
        λ h. (h a k (omega arith) (omega arith) refl, from (λ i j l u e. h i j (omega arith) (omega arith) (omega arith))),
      )

  -- markers from a on
  each-marker : (k a T : ℕ) → Each Q k (markers_missing a T) ↔ ((j i : ℕ) → 1 ≤ T → a ≤ j → j ≤ min 9 (log2 T) → i + a ≡ k + j → Q i (missing (as_marker j)))
  each-marker k a zero =
      let (to, from) = each-run k (λ j. missing (as_marker j)) a (markers_by zero - a) in
      (λ h j i t l u e. absurd (omega arith), λ h. from (λ j i l u e. absurd (omega arith)))
  each-marker k a (suc T) =
      let (to, from) = each-run k (λ j. missing (as_marker j)) a (markers_by (suc T) - a) in
      (λ h j i t l u e. to h j i l (omega arith) e, λ h. from (λ j i l u e. h j i (omega arith) l (omega arith) e))

  -- ---- lookups

  pub each-lookup : (v : ℕ)
      → Each Q 1 (lookup_asked v) ↔ ((v ≡ 0 → Q 1 (missing (in_all 1))) × (0 < v → Q 1 (present (in_all v)) × Q 2 (missing (in_old v)) × Q 3 (present (as_marker (log2 v)))))
  each-lookup zero = (λ (q, _). (λ _. q, λ z. absurd (omega arith)), λ (q, _). (q refl, tt))
  each-lookup (suc v) = (λ (q, (r, (s, _))). (λ z. absurd (omega arith), λ _. (q, r, s)), λ (_, h). let (q, r, s) = h (omega arith) in (q, (r, (s, tt))))

  -- ---- histories

  -- the place of each path "in this order"
  pub record HistoryEach (n T : ℕ) : Type 0 where
    pub there : (i : ℕ) → 1 ≤ i → i ≤ n → Q i (present (in_all i))
    pub replaced : (i : ℕ) → 1 ≤ i → i < n → Q (n + i) (present (in_old i))
    pub not-replaced : 1 ≤ n → Q (n + n) (missing (in_old n))
    pub none_after : 1 ≤ n → (i : ℕ) → n < i → i < 2 ^ suc (log2 n) → Q (n + i) (missing (in_all i))
    pub marked : 1 ≤ n → (j : ℕ) → j ≤ log2 n → Q (n + 2 ^ suc (log2 n) + j) (present (as_marker j))
    pub unmarked : 1 ≤ n → 1 ≤ T → (j : ℕ) → log2 n < j → j ≤ min 9 (log2 T) → Q (n + 2 ^ suc (log2 n) + j) (missing (as_marker j))
    pub no-version : n ≡ 0 → 1 ≤ T → (j : ℕ) → j ≤ min 9 (log2 T) → Q (suc j) (missing (as_marker j))

  pub each-history : (n T : ℕ) → n ≤ version_most → Each Q 1 (history_asked n T) ↔ HistoryEach n T
  each-history zero T small =
      let (to, from) = each-marker 1 0 T in (
        λ h. record {
          there = λ i l u. absurd (omega arith);
          replaced = λ i l u. absurd (omega arith);
          not-replaced = λ z. absurd (omega arith);
          none_after = λ z. absurd (omega arith);
          marked = λ z. absurd (omega arith);
          unmarked = λ z. absurd (omega arith);
          no-version = λ z t j u. to h j (suc j) t (omega arith) u (omega arith);
        },
        λ s. from (λ j i t l u e. at i (omega arith) (s.no-version refl t j u)),
      )
  each-history (suc m) T small =
      let n = suc m in
      let a = log2 n in
      let A = map (λ i. present (in_all i)) (up_from 1 n) in
      let B = map (λ i. present (in_old i)) (up_from 1 m) in
      let G = map (λ i. missing (in_all i)) (up_from (suc n) (2 ^ suc a - suc n)) in
      let M = map (λ j. present (as_marker j)) (up_from 0 (suc a)) in
      let U = markers_missing (suc a) T in
      let z : 1 ≤ n = omega arith in
      let b = log2-spec n z (omega arith) in
      let la : length A ≡ n = length-map (up_from 1 n) (λ i. present (in_all i)) ∙ up_from-length 1 n in
      let lb : length B ≡ m = length-map (up_from 1 m) (λ i. present (in_old i)) ∙ up_from-length 1 m in
      let lg : length G ≡ 2 ^ suc a - suc n = length-map (up_from (suc n) (2 ^ suc a - suc n)) (λ i. missing (in_all i)) ∙ up_from-length (suc n) (2 ^ suc a - suc n) in
      let lm : length M ≡ suc a = length-map (up_from 0 (suc a)) (λ j. present (as_marker j)) ∙ up_from-length 0 (suc a) in
      let kb = 1 + length A in
      let kc = kb + length B in
      let km = suc kc + length G in
      let ea = each_append 1 A (B ++ (missing (in_old n) ∷ (G ++ (M ++ U)))) in
      let eb = each_append kb B (missing (in_old n) ∷ (G ++ (M ++ U))) in
      let eg = each_append (suc kc) G (M ++ U) in
      let em = each_append km M U in
      let ra = each-run 1 (λ i. present (in_all i)) 1 n in
      let rb = each-run kb (λ i. present (in_old i)) 1 m in
      let rg = each-run (suc kc) (λ i. missing (in_all i)) (suc n) (2 ^ suc a - suc n) in
      let rm = each-run km (λ j. present (as_marker j)) 0 (suc a) in
      let ru = each-marker (km + length M) (suc a) T in (
        λ h.
            let (ha, h₁) = ea.0 h in
            let (hb, h₂) = eb.0 h₁ in
            let (hg, h₃) = eg.0 h₂.1 in
            let (hm, hu) = em.0 h₃ in
            record {
              there = λ i l u. ra.0 ha i i l (omega arith) (omega arith);
              replaced = λ i l u. rb.0 hb i (n + i) l (omega arith) (omega arith);
              not-replaced = λ _. at (n + n) (omega arith) h₂.0;
              none_after = λ _ i l u. rg.0 hg i (n + i) l (omega arith) (omega arith);
              marked = λ _ j u. rm.0 hm j (n + 2 ^ suc a + j) (omega arith) (omega arith) (omega arith);
              unmarked = λ _ t j l u. ru.0 hu j (n + 2 ^ suc a + j) t l u (omega arith);
              no-version = λ e. absurd (omega arith);
            },
        λ s.
            ea.1 (
              ra.1 (λ i j l u e. at j (omega arith) (s.there i l (omega arith))),
              eb.1 (
                rb.1 (λ i j l u e. at j (omega arith) (s.replaced i l (omega arith))),
                (
                  at kc (omega arith) (s.not-replaced z),
                  eg.1 (
                    rg.1 (λ i j l u e. at j (omega arith) (s.none_after z i l (omega arith))),
                    em.1 (
                      rm.1 (λ i j l u e. at j (omega arith) (s.marked z i (omega arith))),
                      ru.1 (λ j i t l u e. at i (omega arith) (s.unmarked z t j l u)),
                    ),
                  ),
                ),
              ),
            ),
      )
