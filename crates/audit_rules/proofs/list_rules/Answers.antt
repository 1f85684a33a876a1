-- `audit_rules::list_rules`: the order, and the rule of each.
use mathlib.Core.Path.{◌≡◌, sym, ap, ◌∙◌}
use Rattle.paper.specs.Lists.{every}
use Rattle.paper.specs.Audit.{in_order, record_rule}
use Rattle.audit_form.specs.Places.{records_at, records_of}
use Rattle.audit_form.proofs.Chunks.{rows-records}
use Rattle.audit_rules.proofs.list_rules.Goals as goal
use Rattle.audit_rules.proofs.list_rules.Goals.{After-in_order}

-- the rows are the list
are : (c : After-in_order) → records_of c.rows-rows.result.now ≡ records_at c.args.s.now c.args.at c.args.n
are c = ap records_of c.rows-rows.ensures ∙ rows-records c.args.s.now c.args.at c.args.n

ordered : (c : After-in_order) → c.in_order.result ≡ in_order (records_at c.args.s.now c.args.at c.args.n)
ordered c = c.in_order.ensures ∙ ap in_order (are c)

pub returns-then-in_order : goal.returns-then-in_order
returns-then-in_order c =
    let a = c.args in
    let b = (goal.at.returns-then-in_order c).After-in_order in
    c.each_rule.ensures ∙ ap (every (record_rule a.which a.old a.new)) (are b) ∙ rw (sym (ordered b) ∙ c.if-in_order.true)

pub returns-else-in_order : goal.returns-else-in_order
returns-else-in_order c =
    let b = (goal.at.returns-else-in_order c).After-in_order in
    c.if-in_order.false ∙ rw (sym (ordered b) ∙ c.if-in_order.false)
