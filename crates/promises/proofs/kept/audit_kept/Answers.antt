-- `promises::kept::audit_kept`: the bounds of the three parts, and the two ways.
use native.Mathlib.Omega.{arith}
use mathlib.Core.Path.{sym}
use Prim.Native.Nat.{◌≤◌}
use lib.ListN.{length}
use lib.Seq.{length-take-le}
use Rattle.std.proofs.lemmas.Result.{err_from_is_err_and}
use Rattle.paper.specs.Labelling.{plain}
use Rattle.paper.specs.Write.{Written}
use Rattle.paper.proofs.Labelling.{plain-sized}
use Rattle.promises.proofs.Chains.{AuditPlaces, audit-refused, audit-places, audit-checked}
use Rattle.promises.proofs.kept.audit_kept.Goals as goal
use Rattle.promises.proofs.kept.audit_kept.Goals.{After-write_audit, In_ok-written}

-- what the writer left
abbrev made : After-write_audit → Written
made k = record { answer = k.write_audit.result; out = k.write_audit.new.out }

places : (c : In_ok-written) → let a = c.args in AuditPlaces plain plain-sized c.requires a.epoch a.out.now (made (goal.at.In_ok-written c).After-write_audit) c.write_audit.ensures _ c.in_ok-written.was
places c =
    let a = c.args in
    audit-places plain plain-sized c.requires a.epoch a.out.now (made (goal.at.In_ok-written c).After-write_audit) c.write_audit.ensures _ c.in_ok-written.was

room : (c : In_ok-written) → c.in_ok-written.written.length ≤ length (made (goal.at.In_ok-written c).After-write_audit).out
room c = omega (arith, (places c).room, c.write_audit.auto.out)

pub overflow_sub-epoch : goal.overflow_sub-epoch
overflow_sub-epoch c = omega (arith, (places (goal.at.overflow_sub-epoch c).In_ok-written).first)

pub head_at-before-requires : goal.head_at-before-requires
head_at-before-requires c = omega (arith, (places (goal.at.head_at-before-requires c).In_ok-written).head)

pub head_at-after-requires : goal.head_at-after-requires
head_at-after-requires c = (places (goal.at.head_at-after-requires c).In_ok-written).head

pub slice_bounds-check_audit-end : goal.slice_bounds-check_audit-end
slice_bounds-check_audit-end c = room (goal.at.slice_bounds-check_audit-end c).In_ok-written

pub slice_bounds-check_audit-end-2 : goal.slice_bounds-check_audit-end-2
slice_bounds-check_audit-end-2 c = sym (length-take-le _ _ (room (goal.at.slice_bounds-check_audit-end-2 c).In_ok-written))

pub returns-in_err-written : goal.returns-in_err-written
returns-in_err-written c =
    let a = c.args in
    let (_, e, g) = err_from_is_err_and c.from_residual.result c.from_residual.ensures.1 in
    rw (e, g)
    (audit-refused plain plain-sized c.requires a.epoch a.out.now (made (goal.at.returns-in_err-written c).After-write_audit) c.write_audit.ensures _ c.in_err-written.was)

pub returns : goal.returns
returns c =
    let a = c.args in
    audit-checked plain plain-sized c.requires a.epoch a.out.now (made (goal.at.returns c).After-write_audit) c.write_audit.ensures _ c.in_ok-written.was _ _ c.head_at-before.ensures c.head_at-after.ensures _ c.check_audit.ensures
