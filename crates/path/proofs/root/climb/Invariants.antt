use mathlib.Core.Path.{◌≡◌}
use Prim.Native.Nat.{◌≤◌}
use lib.ListN.{drop}
use Rattle.paper.specs.Bits.{bits_of}
use Rattle.path_form.specs.Places.{steps_in, climbed}
use Rattle.path.proofs.root.climb.Given as goal

abbrev pub invariant-loop-i : goal.invariant-loop-i
invariant-loop-i l = (l.i ≤ l.m) × (l.below ≡ climbed (bits_of l.label) (drop l.i (steps_in l.m (drop l.at l.s))) l.initial.below)

abbrev pub decreases-loop-i : goal.decreases-loop-i
decreases-loop-i l = l.i
