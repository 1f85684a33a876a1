-- A turn, and the end, of the loops that make the schedule and the rounds, on plain lists. Assumes nothing.
use Rattle.std.proofs.Common.{◌≡◌, ℕ, suc, ◌+◌, ◌-◌, ◌<◌, ◌≤◌, Bool, true, false, ltb, List, [], ◌∷◌, ◌++◌, length, get_or, take, set, sym, refl, ap, ◌∙◌, ap₂, add-one, arith, take_all, get_or-take, take-suc-set, ltb-false, le-ltb, lt-ltb}
use Rattle.fips.specs.declared.State.{State}
use Rattle.fips.specs.Words.{◌⊞◌, K}
use Rattle.fips.specs.Sha256.{pick, word_at, mix, word, schedule, T1, T2, round, rounds, add, compress}

-- ---- the schedule

later : (p : Bool) (x : ℕ) {y z : ℕ} → (p ≡ false → y ≡ z) → pick p x y ≡ pick p x z
later true x e = refl
later false x e = e refl

-- word t reads only the words before it
before : (b w : List ℕ) (t : ℕ) → word b (take t w) t ≡ word b w t
before b w t =
    later (ltb t 16) (word_at b t)
    (λ f.
    let h : 16 ≤ t = ltb-false t 16 f in
    let same : (k : ℕ) → 0 < k → k ≤ 16 → get_or (take t w) (t - k) 0 ≡ get_or w (t - k) 0 = λ k p q. get_or-take t w (t - k) 0 (omega arith) in
    rw (same 2 (omega arith) (omega arith), same 7 (omega arith) (omega arith), same 15 (omega arith) (omega arith), same 16 (omega arith) (omega arith)))

-- the first sixteen words are the block's own, the others are made of those before them
pub early : (b w : List ℕ) (t v : ℕ) → t < 16 → v ≡ word_at b t → v ≡ word b w t
early b w t v h e = simp (lt-ltb _ _ h) e

pub late : (b w : List ℕ) (t v : ℕ) → 16 ≤ t → v ≡ mix (get_or w (t - 2) 0) (get_or w (t - 7) 0) (get_or w (t - 15) 0) (get_or w (t - 16) 0) → v ≡ word b w t
late b w t v h e = simp (le-ltb _ _ h) e

pub schedule-turn : (b w : List ℕ) (t v : ℕ) → t < length w → take t w ≡ schedule b t → v ≡ word b w t
    → take (t + 1) (set w t v) ≡ schedule b (t + 1)
unfolding schedule
schedule-turn b w t v h e q =
    rw (add-one, ← e) (take-suc-set w t v h ∙ ap (λ (x : ℕ). take t w ++ (x ∷ [])) (q ∙ sym (before b w t)))

pub first_done : (b w : List ℕ) (t : ℕ) → t ≡ 16 → take t w ≡ schedule b t → take 16 w ≡ schedule b 16
first_done b w t h e = rw (← h) e

pub schedule-done : (b w : List ℕ) (t : ℕ) → t ≡ 64 → length w ≡ 64 → take t w ≡ schedule b t → w ≡ schedule b 64
schedule-done b w t h l e = sym (take_all t w (omega arith)) ∙ e ∙ ap (schedule b) h

-- ---- the rounds

-- states of equal words are equal
pub states : {a b c d e f g h a' b' c' d' e' f' g' h' : ℕ}
    → a ≡ a' → b ≡ b' → c ≡ c' → d ≡ d' → e ≡ e' → f ≡ f' → g ≡ g' → h ≡ h'
    → ◌≡◌ {A = State} (record { a = a; b = b; c = c; d = d; e = e; f = f; g = g; h = h }) (record { a = a'; b = b'; c = c'; d = d'; e = e'; f = f'; g = g'; h = h' })
states p q r s t u v w = cc

-- a round of its four sums, with the constants k that the code is lent
pub round-made : (s : State) (k w : List ℕ) (t x y a e : ℕ) → k ≡ K → x ≡ T1 s (get_or k t 0) (get_or w t 0) → y ≡ T2 s → a ≡ x ⊞ y → e ≡ s.d ⊞ x
    → ◌≡◌ {A = State} (record { a = a; b = s.a; c = s.b; d = s.c; e = e; f = s.e; g = s.f; h = s.g }) (round s (get_or K t 0) (get_or w t 0))
unfolding round
round-made s k w t x y a e p q r u v = rw (u, v, q, r, p)

-- round t, after the t before it
rounds-turn : (w : List ℕ) (x : State) {s r : State} (t u : ℕ) → u ≡ suc t → r ≡ round s (get_or K t 0) (get_or w t 0) → s ≡ rounds w x t → r ≡ rounds w x u
unfolding rounds
rounds-turn w x t u n e q = rw (n, ← q) e

pub rounds-eight : (w : List ℕ) (x : State) {s r1 r2 r3 r4 r5 r6 r7 r8 : State} (t : ℕ)
    → r1 ≡ round s (get_or K t 0) (get_or w t 0)
    → r2 ≡ round r1 (get_or K (t + 1) 0) (get_or w (t + 1) 0)
    → r3 ≡ round r2 (get_or K (t + 2) 0) (get_or w (t + 2) 0)
    → r4 ≡ round r3 (get_or K (t + 3) 0) (get_or w (t + 3) 0)
    → r5 ≡ round r4 (get_or K (t + 4) 0) (get_or w (t + 4) 0)
    → r6 ≡ round r5 (get_or K (t + 5) 0) (get_or w (t + 5) 0)
    → r7 ≡ round r6 (get_or K (t + 6) 0) (get_or w (t + 6) 0)
    → r8 ≡ round r7 (get_or K (t + 7) 0) (get_or w (t + 7) 0)
    → s ≡ rounds w x t → r8 ≡ rounds w x (t + 8)
rounds-eight w x t e1 e2 e3 e4 e5 e6 e7 e8 q =
    rounds-turn w x (t + 7) (t + 8) (omega arith) e8
    (rounds-turn w x (t + 6) (t + 7) (omega arith) e7
    (rounds-turn w x (t + 5) (t + 6) (omega arith) e6
    (rounds-turn w x (t + 4) (t + 5) (omega arith) e5
    (rounds-turn w x (t + 3) (t + 4) (omega arith) e4
    (rounds-turn w x (t + 2) (t + 3) (omega arith) e3
    (rounds-turn w x (t + 1) (t + 2) (omega arith) e2
    (rounds-turn w x t (t + 1) (omega arith) e1 q)))))))

pub rounds-done : (b w : List ℕ) (s r q : State) (t : ℕ) → t ≡ 64 → w ≡ schedule b 64 → r ≡ rounds w s t → q ≡ add s r
    → q ≡ compress s b
unfolding compress
rounds-done b w s r q t h e f p = p ∙ ap (add s) (f ∙ ap₂ (λ (x : List ℕ) (n : ℕ). rounds x s n) e h)
