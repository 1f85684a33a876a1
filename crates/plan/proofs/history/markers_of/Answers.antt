-- `plan::history::markers_of` counts the markers: none for 0, and else one more than the number of the last. Assumes nothing.
use native.Mathlib.Omega.{arith}
use Rattle.plan.proofs.Markers.{markers-some}
use Rattle.plan.proofs.history.markers_of.Goals as goal

pub returns : goal.returns
returns c = omega (arith, markers-some c.args.n (omega arith))
