-- `walks::Reader::take`: the path as it was taken decides, root before rule.
use native.Mathlib.Omega.{arith}
use mathlib.Core.Path.{◌≡◌, sym, ◌∙◌}
use borrow.Author.Tests.{not-true, not-false}
use Prim.Native.Nat.{◌≤◌}
use Rattle.std.specs.Prelude.{Some}
use Rattle.paper.specs.Numbers.{FORM}
use Rattle.std.proofs.lemmas.Result.{err_from_is_err_and}
use Rattle.walks.proofs.Walked.{or-there, or-none, step-bad, step-root, step-rule, step-on}
use Rattle.walks.proofs.Reader.take.Goals as goal
use Rattle.walks.proofs.Reader.take.Goals.{In_ok-taken}

got : (c : In_ok-taken) → c.take.result ≡ Some c.in_ok-taken.taken
got c = or-there c.take.result FORM _ (sym c.ok_or.ensures.value ∙ c.in_ok-taken.was)

few : (c : In_ok-taken) → c.in_ok-taken.taken.nodes ≤ 256
few c = rw (got c) at c.take.ensures.few

pub returns-in_err-taken : goal.returns-in_err-taken
returns-in_err-taken c =
    let a = c.args in
    let p = err_from_is_err_and c.from_residual.result c.from_residual.ensures.1 in
    let (n, f) = or-none c.take.result FORM _ (sym c.ok_or.ensures.value ∙ c.in_err-taken.was) in
    rw (p.1, p.2, f) (record {
      is = sym (step-bad a.asked a.self _ _ _ c.label-label.ensures c.root_at-root.ensures c.take.ensures.is n);
      counted = tt;
    })

pub returns-then-not-taken : goal.returns-then-not-taken
returns-then-not-taken c =
    let a = c.args in
    record {
      is = sym (step-root a.asked a.self _ _ _ c.label-label.ensures c.root_at-root.ensures c.take.ensures.is _ (got (goal.at.returns-then-not-taken c).In_ok-taken) (not-true _ c.if-not-taken.true));
      counted = tt;
    }

pub returns-then-not-met : goal.returns-then-not-met
returns-then-not-met c =
    let a = c.args in
    record {
      is = sym (step-rule a.asked a.self _ _ _ c.label-label.ensures c.root_at-root.ensures c.take.ensures.is _ (got (goal.at.returns-then-not-met c).In_ok-taken) (not-false _ c.if-not-taken.false) (sym c.met.ensures ∙ c.if-not-met.true));
      counted = tt;
    }

pub overflow_add-result : goal.overflow_add-result
overflow_add-result c = omega (arith, few (goal.at.overflow_add-result c).In_ok-taken, c.requires.room)

pub overflow_add-result-2 : goal.overflow_add-result-2
overflow_add-result-2 c = omega (arith, few (goal.at.overflow_add-result-2 c).In_ok-taken, c.requires.room)

pub returns : goal.returns
returns c =
    let a = c.args in
    record {
      is = sym (step-on a.asked a.self _ _ _ c.label-label.ensures c.root_at-root.ensures c.take.ensures.is _ (got (goal.at.returns c).In_ok-taken) (not-false _ c.if-not-taken.false) (sym c.met.ensures ∙ c.if-not-met.false));
      counted = omega (arith, few (goal.at.returns c).In_ok-taken);
    }
