-- `promises::kept::key_kept`: the bounds of both parts, and the two ways.
use native.Mathlib.Omega.{arith}
use mathlib.Core.Path.{sym}
use Prim.Native.Nat.{◌+◌, ◌*◌, ◌≤◌}
use lib.ListN.{length}
use lib.Seq.{length-take-le}
use Rattle.paper.specs.Labelling.{plain}
use Rattle.paper.specs.Write.{Written}
use Rattle.paper.proofs.Labelling.{plain-sized}
use Rattle.promises.proofs.Chains.{key-refused, lookup-places, key-checked}
use Rattle.promises.proofs.kept.key_kept.Goals as goal
use Rattle.promises.proofs.kept.key_kept.Goals.{After-write_lookup, In-Ok}

-- what the writer left
abbrev made : After-write_lookup → Written
made k = record { answer = k.write_lookup.result; out = k.write_lookup.new.out }

places : (c : In-Ok) → let a = c.args in (a.epoch * 32 + 32 ≤ length a.heads.now) × (c.in-Ok.written.length ≤ length (made (goal.at.In-Ok c).After-write_lookup).out)
places c =
    let a = c.args in
    let (h, r) = lookup-places plain plain-sized c.requires a.name.now a.epoch a.out.now (made (goal.at.In-Ok c).After-write_lookup) c.write_lookup.ensures _ c.in-Ok.is in
    (h, omega (arith, c.write_lookup.auto.out))

pub head_at-head-requires : goal.head_at-head-requires
head_at-head-requires c = (places (goal.at.head_at-head-requires c).In-Ok).0

pub slice_bounds-accepted_key-end : goal.slice_bounds-accepted_key-end
slice_bounds-accepted_key-end c = (places (goal.at.slice_bounds-accepted_key-end c).In-Ok).1

pub slice_bounds-accepted_key-end-2 : goal.slice_bounds-accepted_key-end-2
slice_bounds-accepted_key-end-2 c = sym (length-take-le _ _ (places (goal.at.slice_bounds-accepted_key-end-2 c).In-Ok).1)

pub returns-in_default : goal.returns-in_default
returns-in_default c =
    let a = c.args in
    key-refused plain plain-sized c.requires a.name.now a.epoch a.out.now (made (goal.at.returns-in_default c).After-write_lookup) c.write_lookup.ensures a.key.now _ c.in_default.is

pub returns : goal.returns
returns c =
    let a = c.args in
    key-checked plain plain-sized c.requires a.name.now a.epoch a.out.now (made (goal.at.returns c).After-write_lookup) c.write_lookup.ensures _ c.in-Ok.is _ c.head_at-head.ensures _ c.accepted_key.ensures.bytes a.key.now _ c.same.ensures
