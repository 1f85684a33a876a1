use mathlib.Core.Path.{◌≡◌}
use Prim.Native.Nat.{◌-◌, ◌≤◌}
use Rattle.runs.specs.Runs.{place_at}
use Rattle.runs.proofs.leaves.past.Given as goal

abbrev pub invariant-loop : goal.invariant-loop
invariant-loop l = (l.counter ≤ l.k) × (l.here ≡ place_at l.s l.at l.counter)

abbrev pub decreases-loop : goal.decreases-loop
decreases-loop l = l.k - l.counter
