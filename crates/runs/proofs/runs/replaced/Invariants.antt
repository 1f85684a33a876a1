use mathlib.Core.Path.{◌≡◌}
use Prim.Native.Nat.{◌-◌}
use Rattle.runs.specs.Runs.{ask_replaced, place_at}
use Rattle.runs.proofs.Going.{Going}
use Rattle.runs.proofs.runs.replaced.Given as goal

abbrev pub invariant-loop-i : goal.invariant-loop-i
invariant-loop-i l = Going (ask_replaced l.from.proof.now l.first) 1 l.n l.initial.reader l.i l.reader × (l.later ≡ place_at l.from.proof.now l.first l.i)

abbrev pub decreases-loop-i : goal.decreases-loop-i
decreases-loop-i l = l.n - l.i
