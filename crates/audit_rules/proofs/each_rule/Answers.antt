-- `audit_rules::each_rule`: all records obey.
use borrow.Author.Rules.{rules}
use borrow.Author.Tests.{tests}
use mathlib.Core.Path.{◌∙◌}
use Rattle.std.proofs.lemmas.Iterator.{YieldsList-from_slice}
use Rattle.std.proofs.lemmas.Iterator.Search.{all_from_yields_List}
use Rattle.paper.specs.Audit.{record_rule}
use Rattle.audit_form.specs.Places.{record_at}
use Rattle.audit_rules.proofs.Rules.{each-is}
use Rattle.audit_rules.proofs.each_rule.Goals as goal

pub returns : goal.returns
returns c =
    let a = c.args in
    let t = record_rule a.which a.old a.new in
    all_from_yields_List (λ r. t (record_at r 0)) _ _ c.all.result c.all.ensures.ran (YieldsList-from_slice a.rows.now (cc)) (λ x b q k. search (rules, tests)) ∙ each-is t a.rows.now
