-- `shown::items::items_after`: the place behind the items passed is where the others stand.
use borrow.Author.Rules.{rules}
use native.Mathlib.Omega.{arith}
use mathlib.Core.Path.{sym, ◌∙◌}
use native.Mathlib.Nat.{sub-zero}
use Rattle.paper.specs.Bytes.{Bytewise}
use Rattle.paper.proofs.Proofs.{item-lawful}
use Rattle.ranges.proofs.Slices.{bytewise}
use Rattle.fields.proofs.Behind.{after-within, loop-on, loop-stop, loop-end}
use Rattle.shown.proofs.items.items_after.Goals as goal
use Rattle.shown.proofs.items.items_after.Goals.{At-loop}

bytes : (c : At-loop) → Bytewise c.args.s.now
bytes c = bytewise c.args.s.now c.type_inv.s

pub loop-init : goal.loop-init
loop-init c = (search rules, search rules, rw (sub-zero c.args.k))

pub returns-in_err-place : goal.returns-in_err-place
returns-in_err-place c =
    let a = c.args in
    c.from_residual.ensures
    ∙ sym (c.loop.invariant.2 ∙ loop-stop item-lawful a.s.now (bytes (goal.at.returns-in_err-place c).At-loop) a.k c.loop.counter c.loop.place (omega arith) (omega arith) (sym c.item_after.ensures ∙ c.in_err-place.was))

pub loop-preserved : goal.loop-preserved
loop-preserved c =
    let a = c.args in
    let e = sym c.item_after.ensures ∙ c.in_ok-place.was in (
      omega arith,
      after-within item-lawful a.s.now (bytes (goal.at.loop-preserved c).At-loop) c.loop.place _ (omega arith) e,
      c.loop.invariant.2 ∙ loop-on item-lawful a.s.now (bytes (goal.at.loop-preserved c).At-loop) a.k c.loop.counter c.loop.place (omega arith) _ (omega arith) e,
    )

pub returns : goal.returns
returns c =
    let a = c.args in
    sym (c.loop.invariant.2 ∙ loop-end item-lawful a.s.now (bytes (goal.at.returns c).At-loop) a.k c.loop.counter c.loop.place (omega arith) (omega arith))
