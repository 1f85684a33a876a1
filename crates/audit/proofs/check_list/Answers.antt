-- `audit::check_list`: the definition's three tests of a list, in their order, and the digests of its two roots.
use native.Mathlib.Omega.{arith}
use mathlib.Core.Path.{◌≡◌, sym, ap, ap₂, ◌∙◌}
use mathlib.Core.Bool.{Bool, true, false, ◌&&◌}
use mathlib.Core.List.{List}
use Prim.Native.Nat.{◌+◌}
use lib.ListN.{take, drop}
use borrow.Author.Tests.{not-true, not-false}
use Rattle.paper.specs.Lists.{every}
use Rattle.paper.specs.Numbers.{wide}
use Rattle.paper.specs.Bytes.{number, same}
use Rattle.paper.specs.Tree.{root_digest}
use Rattle.paper.specs.Audit.{AuditRecord, in_order, record_rule, olds, news}
use Rattle.paper.proofs.Lists.{and_left}
use Rattle.audit_form.specs.Places.{records_at}
use Rattle.audit_root.proofs.Step.{root-few}
use Rattle.std.specs.Prelude.{Ok, Err}
use Rattle.audit.proofs.Parts.{first-fails, second-fails, third-fails, none-fails, list-digests}
use Rattle.audit.proofs.check_list.Goals as goal
use Rattle.audit.proofs.check_list.Goals.{After-list_rules, After-same, After-same-2, Start}

abbrev records : Start → List AuditRecord
records c = records_at c.args.proof.now c.args.at c.args.n

-- what the rules and the comparisons of the roots say
rules : (c : After-list_rules) {b : Bool} → c.list_rules.result ≡ b
    → (in_order (records (goal.at.After-list_rules c).Start)
    && every (record_rule c.args.which (number (take 4 (drop 6 c.args.proof.now))) (number (take 4 (drop 106 c.args.proof.now)))) (records (goal.at.After-list_rules c).Start))
    ≡ b
rules c e =
    let R = records (goal.at.After-list_rules c).Start in
    ap₂ (λ x y. in_order R && every (record_rule c.args.which x y) R) (sym c.read32.ensures) (sym c.read32-2.ensures)
    ∙ sym c.list_rules.ensures
    ∙ e

in-order : (c : After-list_rules) → c.list_rules.result ≡ true → in_order (records (goal.at.After-list_rules c).Start) ≡ true
in-order c e = and_left _ _ (rules c e)

old-root : (c : After-same) {b : Bool} → c.same.result ≡ b
    → same (root_digest (olds (records (goal.at.After-same c).Start))) (take wide (drop c.args.roots c.args.proof.now)) ≡ b
old-root c e = ap₂ same (sym (ap (λ b. b.digest) c.root-old.ensures)) (sym c.digest_at.ensures) ∙ sym c.same.ensures ∙ e

new-root : (c : After-same-2) {b : Bool} → c.same-2.result ≡ b
    → same (root_digest (news (records (goal.at.After-same-2 c).Start))) (take wide (drop (c.args.roots + 100) c.args.proof.now)) ≡ b
new-root c e = ap₂ same (sym (ap (λ b. b.digest) c.root-new.ensures)) (sym c.digest_at-2.ensures) ∙ sym c.same-2.ensures ∙ e

pub returns-then-not-list_rules : goal.returns-then-not-list_rules
returns-then-not-list_rules c = sym (first-fails Err (Ok _) _ _ _ (rules (goal.at.returns-then-not-list_rules c).After-list_rules (not-true _ c.if-not-list_rules.true-raw)))

pub returns-then-not-same : goal.returns-then-not-same
returns-then-not-same c =
    sym (second-fails Err (Ok _) _ _ _ (rules (goal.at.returns-then-not-same c).After-list_rules (not-false _ c.if-not-list_rules.false-raw)) (old-root (goal.at.returns-then-not-same c).After-same (not-true _ c.if-not-same.true-raw)))

pub returns-then-not-same-2 : goal.returns-then-not-same-2
returns-then-not-same-2 c =
    sym (third-fails Err (Ok _) _ _ _ (rules (goal.at.returns-then-not-same-2 c).After-list_rules (not-false _ c.if-not-list_rules.false-raw)) (old-root (goal.at.returns-then-not-same-2 c).After-same (not-false _ c.if-not-same.false-raw)) (new-root (goal.at.returns-then-not-same-2 c).After-same-2 (not-true _ c.if-not-same-2.true-raw)))

pub overflow_add-result : goal.overflow_add-result
overflow_add-result c =
    let order = in-order (goal.at.overflow_add-result c).After-list_rules (not-false _ c.if-not-list_rules.false-raw) in
    let few = root-few c.args.proof.now c.args.at c.args.n c.requires.2 order in
    omega (
      arith,
      c.requires.2.few,
      few false,
      few true,
      ap (λ b. b.count) c.root-old.ensures,
      ap (λ b. b.count) c.root-new.ensures,
    )

pub returns : goal.returns
returns c =
    let old = ap (λ b. b.count) c.root-old.ensures in
    let new = ap (λ b. b.count) c.root-new.ensures in
    let e = ap₂ (λ x y. x + y) old new ∙ sym (list-digests (records_at c.args.proof.now c.args.at c.args.n)) in
    ap Ok e
    ∙ sym (none-fails Err (Ok _) _ _ _ (rules (goal.at.returns c).After-list_rules (not-false _ c.if-not-list_rules.false-raw)) (old-root (goal.at.returns c).After-same (not-false _ c.if-not-same.false-raw)) (new-root (goal.at.returns c).After-same-2 (not-false _ c.if-not-same-2.false-raw)))
