-- `audit_rules::commitment_rule`: in *all* any commitment will do.
use mathlib.Core.Path.{◌∙◌}
use Rattle.audit_rules.proofs.Rules.{commitment-old}
use Rattle.audit_rules.proofs.commitment_rule.Goals as goal

pub returns-in-OfOld : goal.returns-in-OfOld
returns-in-OfOld c = rw c.in-OfOld.is (c.all_zero.ensures ∙ commitment-old c.args.row.now c.told-row)
