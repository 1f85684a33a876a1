-- `publish::testing::lay_out`: the tests in their order, and the new records.
use native.Mathlib.Numerals.{add-one}
use native.Mathlib.Omega.{arith}
use mathlib.Core.Path.{◌≡◌, sym, ◌∙◌}
use mathlib.Core.Bool.{true, ◌&&◌}
use Prim.Native.Nat.{◌+◌, ◌*◌, ◌/◌}
use lib.Dec.{leb}
use lib.ListN.{length}
use Rattle.paper.specs.Labelling.{plain}
use Rattle.paper.specs.Publish.{once}
use Rattle.ranges.proofs.Slices.{bytewise}
use Rattle.batch.specs.Places.{updates_in}
use Rattle.publish.proofs.Weighing.{twice-refuses, room-refuses, version-refuses, epoch-small, slot, laid}
use Rattle.publish.proofs.testing.lay_out.Goals as goal
use Rattle.publish.proofs.testing.lay_out.Goals.{Else-not-has_room, Else-not-no_name_twice}

pub returns-then-not-no_name_twice : goal.returns-then-not-no_name_twice
returns-then-not-no_name_twice c =
    let e = sym c.no_name_twice.ensures ∙ c.if-not-no_name_twice.true in
    twice-refuses c.args.index.now.records.now c.args.heads.now c.args.state.count c.args.state.epoch c.args.batch.now c.requires.0 c.requires.1 e

-- "9" passes
alone : (c : Else-not-no_name_twice) → let b = c.args.batch.now in once plain (updates_in (length b / 162) b) ≡ true
alone c = sym c.no_name_twice.ensures ∙ c.if-not-no_name_twice.false

pub returns-then-not-has_room : goal.returns-then-not-has_room
returns-then-not-has_room c =
    let e = sym c.has_room.ensures ∙ c.if-not-has_room.true in
    room-refuses c.args.index.now.records.now c.args.heads.now c.args.state.count c.args.state.epoch c.args.batch.now c.requires.0 c.requires.1 (alone (goal.at.returns-then-not-has_room c).Else-not-no_name_twice) e

-- there is room
room : (c : Else-not-has_room) → let a = c.args in (leb ((a.state.count + length a.batch.now / 162) * 168) (length a.index.now.records.now) && leb ((a.state.epoch + 2) * 32) (length a.heads.now)) ≡ true
room c = sym c.has_room.ensures ∙ c.if-not-has_room.false

pub overflow_add-state : goal.overflow_add-state
overflow_add-state c = omega (arith, epoch-small c.args.index.now.records.now c.args.heads.now c.args.state.count c.args.state.epoch c.args.batch.now c.requires.0 (slot c.args.index.now.records.now c.args.heads.now c.args.state.count c.args.state.epoch c.args.batch.now c.requires.0 c.requires.1 (room (goal.at.overflow_add-state c).Else-not-has_room)))

pub returns-then-not-prepare : goal.returns-then-not-prepare
returns-then-not-prepare c =
    let done = c.prepare in
    let e = sym (rw (add-one c.args.state.epoch, c.requires.3) at done.ensures.is) ∙ c.if-not-prepare.true in
    version-refuses c.args.index.now.records.now c.args.heads.now c.args.state.count c.args.state.epoch c.args.batch.now c.requires.0 c.requires.1 (alone (goal.at.returns-then-not-prepare c).Else-not-no_name_twice) e

pub returns : goal.returns
returns c =
    let done = c.prepare in
    let fresh = done.new.fresh in
    let made = rw (add-one c.args.state.epoch, c.requires.3) at done.ensures in
    let yes = c.if-not-prepare.false in
    let letters = bytewise c.args.batch.now c.type_inv.batch in
    let whole = bytewise fresh c.type_inv.fresh in
    laid c.args.index.now.records.now c.args.heads.now c.args.state.count c.args.state.epoch c.args.batch.now c.requires.0 c.requires.1 letters (alone (goal.at.returns c).Else-not-no_name_twice) (room (goal.at.returns c).Else-not-has_room) (sym made.is ∙ yes) fresh whole (made.bytes yes)
