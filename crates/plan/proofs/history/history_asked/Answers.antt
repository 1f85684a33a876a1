-- `plan::history::history_asked` finds the row and the part of it in which path i stands; the laws of Rows say what is asked there.
-- Assumes nothing.
use mathlib.Core.Path.{sym, ap, ◌∙◌}
use Prim.Native.Nat.{◌+◌, ◌-◌, ◌*◌, ◌%◌, ◌^◌, ◌<◌}
use native.Mathlib.Omega.{arith}
use lib.ListN.{get_or-eq_default}
use Rattle.paper.specs.Shows.{Asked, missing, in_all}
use Rattle.paper.specs.History.{history_asked, markers_by}
use Rattle.paper.proofs.Asked.{by_most}
use Rattle.plan.specs.Asked.{asked}
use Rattle.plan.proofs.Markers.{Shifted, shifted}
use Rattle.plan.proofs.Rows.{asked-length, at_all, at_old, at_last, at_gap, at-marker, at_more}
use Rattle.plan.proofs.history.history_asked.Goals as goal
use Rattle.plan.proofs.history.history_asked.Goals.{After-markers_of-marks, Else-j-marks}

abbrev none : Asked
none = missing (in_all 0)

pub returns-then-history_paths-i : goal.returns-then-history_paths-i
returns-then-history_paths-i c =
    let a = c.args in
    c.missing.ensures ∙ sym (ap asked (get_or-eq_default (history_asked a.n a.epoch) none (omega arith)))

pub returns-then-i-versions : goal.returns-then-i-versions
returns-then-i-versions c =
    let a = c.args in
    c.present.ensures ∙ sym (ap asked (at_all a.n a.epoch none a.i (omega arith)))

pub returns-then-k-versions : goal.returns-then-k-versions
returns-then-k-versions c =
    let a = c.args in
    c.present-then-k-versions.ensures ∙ sym (ap asked (at_old a.n a.epoch none a.i (a.i - a.n + 1) (omega arith) (omega arith) (omega arith)))

pub returns-then-k-versions-2 : goal.returns-then-k-versions-2
returns-then-k-versions-2 c =
    let a = c.args in
    c.missing-then-k-versions-2.ensures ∙ sym (ap asked (at_last a.n a.epoch none a.i (a.i - a.n + 1) (omega arith) (omega arith) (omega arith)))

-- n versions, their number of markers, and the shift by it
power : (c : After-markers_of-marks) → Shifted c.args.n c.markers_of-marks.result
power c = shifted c.args.n c.markers_of-marks.result (omega arith) c.markers_of-marks.ensures

pub overflow_shl-after : goal.overflow_shl-after
overflow_shl-after c = let p = power c in omega arith

pub overflow_cast-k-then-k-after : goal.overflow_cast-k-then-k-after
overflow_cast-k-then-k-after c = let p = power (goal.at.overflow_cast-k-then-k-after c).After-markers_of-marks in omega arith

pub returns-then-k-after : goal.returns-then-k-after
returns-then-k-after c =
    let a = c.args in
    let p = power (goal.at.returns-then-k-after c).After-markers_of-marks in
    c.missing-then-k-after.ensures ∙ sym (ap asked (at_gap a.n a.epoch none a.i (a.i - a.n + 1) (omega arith) (omega arith) (omega arith)))

pub overflow_cast-j : goal.overflow_cast-j
overflow_cast-j c = let p = power (goal.at.overflow_cast-j c).After-markers_of-marks in omega arith

pub returns-then-j-marks : goal.returns-then-j-marks
returns-then-j-marks c =
    let a = c.args in
    let j = a.i - a.n + 1 - 1 * 2 ^ c.markers_of-marks.result % 2 ^ 64 in
    let p = power (goal.at.returns-then-j-marks c).After-markers_of-marks in
    c.present-then-j-marks.ensures ∙ sym (ap asked (at-marker a.n a.epoch none a.i j (omega arith) (omega arith) (omega arith)))

-- there are more paths than i, so the marker is one of those that there can be
more : (c : Else-j-marks) → c.args.i - c.args.n + 1 - 1 * 2 ^ c.markers_of-marks.result % 2 ^ 64 < markers_by c.args.epoch
more c =
    let a = c.args in
    let p = power c.before.before in
    omega (arith, asked-length a.n a.epoch (omega arith))

pub overflow_cast-j-2 : goal.overflow_cast-j-2
overflow_cast-j-2 c = let l = more c in omega (arith, by_most c.args.epoch)

pub returns : goal.returns
returns c =
    let a = c.args in
    let j = a.i - a.n + 1 - 1 * 2 ^ c.markers_of-marks.result % 2 ^ 64 in
    let p = power (goal.at.returns c).After-markers_of-marks in
    c.missing-2.ensures ∙ sym (ap asked (at_more a.n a.epoch none a.i j (omega arith) (omega arith) (omega arith) (more (goal.at.returns c).Else-j-marks)))
