-- `audit_rules::in_order`: each record stands before the next.
use borrow.Author.Rules.{rules}
use Rattle.std.proofs.lemmas.Fn.{always_returns_same}
use Rattle.audit_rules.proofs.Rules.{before_rows, order-is}
use Rattle.audit_rules.proofs.in_order.Goals as goal

pub returns : goal.returns
returns c = order-is c.args.rows.now _ (c.is_sorted_by.ensures.cases before_rows (always_returns_same _ _ _ (λ a r f k. search rules)))
