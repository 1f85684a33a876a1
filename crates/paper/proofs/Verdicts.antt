-- What a verdict over tests in order comes to. Assumes nothing.
use mathlib.Core.Path.{◌≡◌, refl, sym, ap, ◌∙◌, subst}
use mathlib.Core.Logic.{◌⊎◌, inl, inr, ⊎_elim, ◌↔◌}
use mathlib.Core.Bool.{Bool, true, false, cond}
use mathlib.Core.List.{List, [], ◌∷◌, ◌++◌}
use Prim.Native.Nat.{ℕ, ◌<◌}
use native.Mathlib.Omega.{arith}
use Rattle.paper.specs.Lists.{◌∈◌}
use Rattle.paper.specs.Numbers.{refusal_number}
use Rattle.paper.specs.declared.Refusal.{Refusal}
use Rattle.paper.specs.declared.Refusal.TheVariants as R
use Rattle.paper.specs.Verdict.{Test, verdict}
pub use Rattle.paper.specs.Verdict.{Hold, FirstFails}

-- each number says no
pub refusal-positive : (r : Refusal) → 0 < refusal_number r
refusal-positive R.Input = omega arith
refusal-positive R.Form = omega arith
refusal-positive R.Head = omega arith
refusal-positive R.Root = omega arith
refusal-positive R.Rule = omega arith
refusal-positive R.Full = omega arith
refusal-positive R.Clash = omega arith
refusal-positive R.Room = omega arith
refusal-positive R.Twice = omega arith
refusal-positive R.Epoch = omega arith
refusal-positive R.Table = omega arith

-- no test fails where there is none
pub no-first : (n : ℕ) → FirstFails [] n → ⊥
no-first n f = none f.passed f.split
  where
    none : (ps : List Test) → ps ++ (f.failed ∷ f.rest) ≡ [] → ⊥
    none [] e = let z : ◌≡◌ {A = ℕ} 0 1 = cc in omega arith
    none (p ∷ ps) e = let z : ◌≡◌ {A = ℕ} 0 1 = cc in omega arith

-- the first of the tests that fails is the first test, or the first of the others
pub first-cons : (t : Test) (ts : List Test) (n : ℕ) → FirstFails (t ∷ ts) n ↔ (((t.holds ≡ false) × (refusal_number t.refusal ≡ n)) ⊎ ((t.holds ≡ true) × FirstFails ts n))
first-cons t ts n = (λ f. to f.passed f refl, ⊎_elim here later)
  where
    Goal : Type 0
    Goal = ((t.holds ≡ false) × (refusal_number t.refusal ≡ n)) ⊎ ((t.holds ≡ true) × FirstFails ts n)

    to : (ps : List Test) (f : FirstFails (t ∷ ts) n) → f.passed ≡ ps → Goal
    to [] f e =
        let s : f.failed ∷ f.rest ≡ t ∷ ts = ap (λ l. l ++ (f.failed ∷ f.rest)) (sym e) ∙ f.split in
        let q : f.failed ≡ t = cc in
        inl (ap (λ u. u.holds) (sym q) ∙ f.fails, ap (λ u. refusal_number u.refusal) (sym q) ∙ f.number)
    to (p ∷ ps) f e =
        let s : p ∷ (ps ++ (f.failed ∷ f.rest)) ≡ t ∷ ts = ap (λ l. l ++ (f.failed ∷ f.rest)) (sym e) ∙ f.split in
        let q : p ≡ t = cc in
        let h : Hold (p ∷ ps) = subst Hold e f.hold in
        inr (ap (λ u. u.holds) (sym q) ∙ h.0, record { passed = ps; failed = f.failed; rest = f.rest; split = cc; hold = h.1; fails = f.fails; number = f.number })

    here : (t.holds ≡ false) × (refusal_number t.refusal ≡ n) → FirstFails (t ∷ ts) n
    here (e, q) = record { passed = []; failed = t; rest = ts; split = refl; hold = tt; fails = e; number = q }

    later : (t.holds ≡ true) × FirstFails ts n → FirstFails (t ∷ ts) n
    later (e, f) = record { passed = t ∷ f.passed; failed = f.failed; rest = f.rest; split = ap (λ l. t ∷ l) f.split; hold = (e, f.hold); fails = f.fails; number = f.number }

-- the first that fails has one
pub first-numbered : (ts : List Test) (n : ℕ) → FirstFails ts n → 0 < n
first-numbered ts n f = omega (arith, f.number, refusal-positive f.failed.refusal)

module _ {A : Type 0} (refuse : Refusal → A) (answer : A) where
  -- all hold, and it is the answer; or one is the first that fails, and it is its refusal
  pub verdict-cases : (ts : List Test) → (Hold ts × (verdict refuse answer ts ≡ answer)) ⊎ ((n : ℕ) × (f : FirstFails ts n) × (verdict refuse answer ts ≡ refuse f.failed.refusal))
  unfolding verdict
  verdict-cases [] = inl (tt, refl)
  verdict-cases (t ∷ ts) = by t.holds refl (verdict-cases ts)
    where
      Goal : Bool → Type 0
      Goal b = (Hold (t ∷ ts) × (cond b (verdict refuse answer ts) (refuse t.refusal) ≡ answer))
          ⊎ ((n : ℕ) × (f : FirstFails (t ∷ ts) n) × (cond b (verdict refuse answer ts) (refuse t.refusal) ≡ refuse f.failed.refusal))

      by : (b : Bool) → t.holds ≡ b → (Hold ts × (verdict refuse answer ts ≡ answer)) ⊎ ((n : ℕ) × (f : FirstFails ts n) × (verdict refuse answer ts ≡ refuse f.failed.refusal)) → Goal b
      by true e (inl (h, q)) = inl ((e, h), q)
      by true e (inr (n, f, q)) = inr (
        n,
        record {
          passed = t ∷ f.passed;
          failed = f.failed;
          rest = f.rest;
          split = ap (λ l. t ∷ l) f.split;
          hold = (e, f.hold);
          fails = f.fails;
          number = f.number;
        },
        q,
      )
      by false e w = inr (refusal_number t.refusal, record { passed = []; failed = t; rest = ts; split = refl; hold = tt; fails = e; number = refl }, refl)

  pub verdict-all : (ts : List Test) → Hold ts → verdict refuse answer ts ≡ answer
  unfolding verdict
  verdict-all [] h = refl
  verdict-all (t ∷ ts) h = rw h.0 (verdict-all ts h.1)

  pub verdict-first : (ts : List Test) (n : ℕ) (f : FirstFails ts n) → verdict refuse answer ts ≡ refuse f.failed.refusal
  unfolding verdict
  verdict-first ts n f = ap (verdict refuse answer) (sym f.split) ∙ go f.passed f.hold
    where
      go : (ps : List Test) → Hold ps → verdict refuse answer (ps ++ (f.failed ∷ f.rest)) ≡ refuse f.failed.refusal
      go [] h = rw f.fails refl
      go (p ∷ ps) h = rw h.0 (go ps h.1)

  -- where the answer's number is 0 all tests hold
  pub accepted : (number : A → ℕ) → ((r : Refusal) → number (refuse r) ≡ refusal_number r) → (ts : List Test) → number (verdict refuse answer ts) ≡ 0
      → Hold ts × (verdict refuse answer ts ≡ answer)
  accepted number back ts e = ⊎_elim (λ w. w) (λ (n, f, q). absurd (none n f q)) (verdict-cases ts)
    where
      none : (n : ℕ) (f : FirstFails ts n) → verdict refuse answer ts ≡ refuse f.failed.refusal → ⊥
      none n f q =
          let z : refusal_number f.failed.refusal ≡ 0 = sym (back f.failed.refusal) ∙ ap number (sym q) ∙ e in
          omega (arith, refusal-positive f.failed.refusal)

-- two verdicts over the same tests are alike where their refusals are, and their answers if all tests hold
pub verdict-alike : {A B : Type 0} (P : A → B → Type 0) (f : Refusal → A) (a : A) (g : Refusal → B) (b : B) (ts : List Test) → ((r : Refusal) → P (f r) (g r)) → (Hold ts → P a b)
    → P (verdict f a ts) (verdict g b ts)
verdict-alike P f a g b ts r h = ⊎_elim
    (λ (k, q). subst (λ x. P x (verdict g b ts)) (sym q) (subst (P a) (sym (verdict-all g b ts k)) (h k)))
    (λ (n, k, q). subst (λ x. P x (verdict g b ts)) (sym q) (subst (P (f k.failed.refusal)) (sym (verdict-first g b ts n k)) (r k.failed.refusal)))
    (verdict-cases f a ts)
