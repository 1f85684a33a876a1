-- `audit_rules::record_rule`: by the kind, with the commitment first.
use mathlib.Core.Path.{sym, ◌∙◌}
use borrow.Author.Tests.{le-leb, lt-leb, not-true, not-false}
use Rattle.audit_rules.proofs.Rules.{rule-opened, rule-unchanged, rule-fresh, rule-commitment}
use Rattle.audit_rules.proofs.record_rule.Goals as goal

pub returns-then-kind-eq1 : goal.returns-then-kind-eq1
returns-then-kind-eq1 c =
    let a = c.args in
    sym (rule-opened a.which a.old a.new a.row.now c.if-kind-eq1.true)

pub returns-then-not-commitment_rule : goal.returns-then-not-commitment_rule
returns-then-not-commitment_rule c =
    let a = c.args in
    sym (rule-commitment a.which a.old a.new a.row.now c.if-kind-eq1.false (sym c.commitment_rule.ensures ∙ not-true _ c.if-not-commitment_rule.true-raw))

pub returns-then-epoch-ge1 : goal.returns-then-epoch-ge1
returns-then-epoch-ge1 c =
    let a = c.args in
    let q = rule-unchanged a.which a.old a.new a.row.now c.if-kind-eq0.true (sym c.commitment_rule.ensures ∙ not-false _ c.if-not-commitment_rule.false-raw) in
    sym (q ∙ rw (← c.read32-epoch.ensures, le-leb 1 _ c.if-epoch-ge1.true))

pub returns-else-epoch-ge1 : goal.returns-else-epoch-ge1
returns-else-epoch-ge1 c =
    let a = c.args in
    let q = rule-unchanged a.which a.old a.new a.row.now c.if-kind-eq0.true (sym c.commitment_rule.ensures ∙ not-false _ c.if-not-commitment_rule.false-raw) in
    sym (q ∙ rw (← c.read32-epoch.ensures, lt-leb 1 _ c.if-epoch-ge1.false))

pub returns : goal.returns
returns c =
    let a = c.args in
    let q = rule-fresh a.which a.old a.new a.row.now c.if-kind-eq0.false c.if-kind-eq1.false (sym c.commitment_rule.ensures ∙ not-false _ c.if-not-commitment_rule.false-raw) in
    sym (q ∙ rw (← c.read32-epoch.ensures))
