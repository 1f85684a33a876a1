use Prim.Native.Nat.{ℕ, ◌-◌, ◌<◌}
use mathlib.Core.Path.{◌≡◌}
use Rattle.shown.specs.declared.Asked.{Asked}
use Rattle.runs.proofs.Going.{Going, Steady}
use Rattle.runs.proofs.runs.each.Given as goal

abbrev pub invariant-loop-i : goal.invariant-loop-i
invariant-loop-i g l = record {
  steady : Steady l.low l.high l.initial.reader l.i l.reader;
  going : (f : ℕ → Asked) → ((i : ℕ) (x : Asked) → i < l.high → goal.F-post g l.ask i x → x ≡ f i) → Going f l.low l.high l.initial.reader l.i l.reader;
}

abbrev pub decreases-loop-i : goal.decreases-loop-i
decreases-loop-i g l = l.high - l.i
