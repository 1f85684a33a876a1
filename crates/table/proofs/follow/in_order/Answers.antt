-- `table::follow::in-order`: the record before decides whether epochs fall.
use native.Mathlib.Omega.{arith}
use mathlib.Core.Path.{sym, ap₂, ◌∙◌}
use lib.Dec.{leb}
use Rattle.table.proofs.Rules.{epoch-first, epoch-next}
use Rattle.table.proofs.follow.in_order.Goals as goal

pub returns-then-i-eq0 : goal.returns-then-i-eq0
returns-then-i-eq0 c =
    sym (epoch-first c.args.s.now c.args.epoch c.args.i (omega (arith, c.epoch_at-e.ensures)) (omega (arith, c.epoch_at-e.ensures)) (omega arith))

pub returns : goal.returns
returns c =
    ap₂ leb c.epoch_at.ensures c.epoch_at-e.ensures
    ∙ sym (epoch-next c.args.s.now c.args.epoch c.args.i (omega (arith, c.epoch_at-e.ensures)) (omega (arith, c.epoch_at-e.ensures)) c.requires.shape (omega arith))
