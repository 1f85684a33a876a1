-- A verdict whose answer and refusals are taken on to other ones. Assumes nothing.
use mathlib.Core.Path.{◌≡◌, refl}
use mathlib.Core.Bool.{Bool, true, false, cond}
use mathlib.Core.List.{List, [], ◌∷◌}
use Rattle.paper.specs.Verdict.{Test, verdict}
use Rattle.paper.specs.declared.Refusal.{Refusal}

pub verdict-on : {A B : Type 0} (f : A → B) (refuse : Refusal → A) (other : Refusal → B) → ((r : Refusal) → f (refuse r) ≡ other r) → (x : A) (ts : List Test) → f (verdict refuse x ts) ≡ verdict other (f x) ts
unfolding verdict
verdict-on f refuse other h x [] = refl
verdict-on f refuse other h x (t ∷ ts) = by t.holds (verdict-on f refuse other h x ts)
  where
    by : (b : Bool) → f (verdict refuse x ts) ≡ verdict other (f x) ts → f (cond b (verdict refuse x ts) (refuse t.refusal)) ≡ cond b (verdict other (f x) ts) (other t.refusal)
    by true e = e
    by false e = h t.refusal
