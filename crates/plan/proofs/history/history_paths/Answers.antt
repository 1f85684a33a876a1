-- `plan::history::history_paths` adds up the rows: n versions, the numbers below the power of two above n, and the markers. Assumes nothing.
use native.Mathlib.Omega.{arith}
use Rattle.paper.proofs.Asked.{by_most}
use Rattle.plan.proofs.Markers.{Shifted, shifted}
use Rattle.plan.proofs.Rows.{asked-length}
use Rattle.plan.proofs.history.history_paths.Goals as goal
use Rattle.plan.proofs.history.history_paths.Goals.{After-markers_by-most}

-- n versions, their number of markers, and the shift by it
power : (c : After-markers_by-most) → Shifted c.args.n c.markers_of-marks.result
power c = shifted c.args.n c.markers_of-marks.result (omega arith) c.markers_of-marks.ensures

pub overflow_shl-numbers : goal.overflow_shl-numbers
overflow_shl-numbers c = let p = power c in omega arith

pub overflow_sub-numbers : goal.overflow_sub-numbers
overflow_sub-numbers c = let p = power c in omega arith

pub overflow_add-numbers : goal.overflow_add-numbers
overflow_add-numbers c = let p = power c in omega arith

pub overflow_add-result : goal.overflow_add-result
overflow_add-result c = let p = power (goal.at.overflow_add-result c).After-markers_by-most in omega (arith, by_most c.args.epoch)

pub returns : goal.returns
returns c =
    let p = power (goal.at.returns c).After-markers_by-most in
    omega (arith, c.max.ensures, asked-length c.args.n c.args.epoch (omega arith))
