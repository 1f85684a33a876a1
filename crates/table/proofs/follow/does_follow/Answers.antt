-- `table::follow::does_follow`: the rules in two parts.
use mathlib.Core.Path.{sym, ◌∙◌}
use Rattle.record.specs.Places.{record_at, records_in}
use Rattle.table.proofs.Rules.{follows-parts}
use Rattle.table.proofs.follow.does_follow.Goals as goal

pub returns-then-in_order : goal.returns-then-in_order
returns-then-in_order c =
    let a = c.args in
    let s = a.index.now.records.now in
    c.runs_on.ensures ∙ sym (follows-parts a.epoch (records_in a.index.now.count s) (record_at s a.index.now.count) ∙ rw (sym c.in_order.ensures ∙ c.if-in_order.true))

pub returns-else-in_order : goal.returns-else-in_order
returns-else-in_order c =
    let a = c.args in
    let s = a.index.now.records.now in
    c.if-in_order.false ∙ sym (follows-parts a.epoch (records_in a.index.now.count s) (record_at s a.index.now.count) ∙ rw (sym c.in_order.ensures ∙ c.if-in_order.false))
