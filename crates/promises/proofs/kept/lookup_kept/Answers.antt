-- `promises::kept::lookup_kept`: the bounds of both parts, and the two ways.
use native.Mathlib.Omega.{arith}
use mathlib.Core.Path.{sym}
use Prim.Native.Nat.{◌+◌, ◌*◌, ◌≤◌}
use lib.ListN.{length}
use lib.Seq.{length-take-le}
use Rattle.std.proofs.lemmas.Result.{err_from_is_err_and}
use Rattle.paper.specs.Labelling.{plain}
use Rattle.paper.specs.Write.{Written}
use Rattle.paper.proofs.Labelling.{plain-sized}
use Rattle.promises.proofs.Chains.{lookup-refused, lookup-places, lookup-checked}
use Rattle.promises.proofs.kept.lookup_kept.Goals as goal
use Rattle.promises.proofs.kept.lookup_kept.Goals.{After-write_lookup, In_ok-written}

-- what the writer left
abbrev made : After-write_lookup → Written
made k = record { answer = k.write_lookup.result; out = k.write_lookup.new.out }

places : (c : In_ok-written) → let a = c.args in (a.epoch * 32 + 32 ≤ length a.heads.now) × (c.in_ok-written.written.length ≤ length (made (goal.at.In_ok-written c).After-write_lookup).out)
places c =
    let a = c.args in
    let (h, r) = lookup-places plain plain-sized c.requires a.name.now a.epoch a.out.now (made (goal.at.In_ok-written c).After-write_lookup) c.write_lookup.ensures _ c.in_ok-written.was in
    (h, omega (arith, r, c.write_lookup.auto.out))

pub returns-in_err-written : goal.returns-in_err-written
returns-in_err-written c =
    let a = c.args in
    let (_, e, g) = err_from_is_err_and c.from_residual.result c.from_residual.ensures.1 in
    rw (e, g) (lookup-refused plain plain-sized c.requires a.name.now a.epoch a.out.now (made (goal.at.returns-in_err-written c).After-write_lookup) c.write_lookup.ensures _ c.in_err-written.was)

pub head_at-head-requires : goal.head_at-head-requires
head_at-head-requires c = (places c).0

pub slice_bounds-check_lookup-end : goal.slice_bounds-check_lookup-end
slice_bounds-check_lookup-end c = (places (goal.at.slice_bounds-check_lookup-end c).In_ok-written).1

pub slice_bounds-check_lookup-end-2 : goal.slice_bounds-check_lookup-end-2
slice_bounds-check_lookup-end-2 c = sym (length-take-le _ _ (places (goal.at.slice_bounds-check_lookup-end-2 c).In_ok-written).1)

pub returns : goal.returns
returns c =
    let a = c.args in
    lookup-checked plain plain-sized c.requires a.name.now a.epoch a.out.now (made (goal.at.returns c).After-write_lookup) c.write_lookup.ensures _ c.in_ok-written.was _ c.head_at-head.ensures _ c.check_lookup.ensures
