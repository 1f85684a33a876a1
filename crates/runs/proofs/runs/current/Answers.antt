-- `runs::runs::current`: without versions nothing is asked.
use native.Mathlib.Omega.{arith}
use mathlib.Core.Path.{◌≡◌, refl, ap, ◌∙◌}
use Prim.Native.Nat.{ℕ, zero, suc}
use Rattle.std.specs.Prelude.{Ok}
use Rattle.plan.specs.declared.Place.TheVariants.{InOld}
use Rattle.walks.specs.Walk.{stepped, walks}
use Rattle.walks.specs.declared.Reader.{Reader}
use Rattle.runs.specs.Runs.{ask_current, lack}
use Rattle.runs.proofs.Going.{walks-none, walks-one}
use Rattle.runs.proofs.runs.current.Goals as goal

none : (n : ℕ) (r : Reader) → n ≡ 0 → Ok r ≡ walks (ask_current n) (Ok r)
none zero r e = walks-none r
none (suc n) r e = absurd (omega arith)

some : (n : ℕ) (r : Reader) → (n ≡ 0 → ⊥) → stepped (lack (InOld n)) r ≡ walks (ask_current n) (Ok r)
some zero r h = absurd (h refl)
some (suc n) r h = walks-one (lack (InOld (suc n))) r

pub returns-then-n-eq0-clause-is : goal.returns-then-n-eq0-clause-is
returns-then-n-eq0-clause-is c = none c.args.n c.args.reader c.if-n-eq0.true

pub returns-clause-is : goal.returns-clause-is
returns-clause-is c = c.take.ensures.is ∙ ap (λ x. stepped x c.args.reader) c.missing.ensures ∙ some c.args.n c.args.reader c.if-n-eq0.false
