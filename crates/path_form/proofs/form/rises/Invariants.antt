use mathlib.Core.Path.{◌≡◌}
use Prim.Native.Nat.{◌≤◌}
use lib.ListN.{drop}
use Rattle.path_form.specs.Places.{steps_in, ranged, rising}
use Rattle.path_form.proofs.form.rises.Given as goal

abbrev pub invariant-loop-step : goal.invariant-loop-step
invariant-loop-step l = (l.high ≤ 255) × (rising l.m (drop l.at l.s) ≡ ranged l.low l.high (drop l.step-index (steps_in l.m (drop l.at l.s))))
