-- `audit::check_old`: the list of *old* stands behind that of *all*, and its digests are added.
use native.Mathlib.Omega.{arith}
use Rattle.std.specs.Prelude.{Err}
use Rattle.std.proofs.lemmas.Result.{err_from_is_err_and}
use Rattle.paper.specs.Answer.{audit_accepted}
use mathlib.Core.Path.{◌≡◌, sym, ap, ap₂, ◌∙◌}
use Prim.Native.Nat.{◌+◌}
use Rattle.paper.specs.declared.Which.TheVariants.{OfOld}
use Rattle.audit_form.specs.Places.{count_at, behind_at, Listed}
use Rattle.audit.specs.Tests.{checked, tests_at, digests_at}
use Rattle.audit.proofs.Parts.{list-passed, old_checked, old-refused, old-passed}
use Rattle.audit.proofs.check_old.Goals as goal
use Rattle.audit.proofs.check_old.Goals.{After-check_list, After-read32-n}

-- the records stand where the list of *old* has them
counted : (c : After-read32-n) → c.read32-n.result ≡ count_at c.args.proof.now (behind_at c.args.proof.now 206)
unfolding count_at
counted c = c.read32-n.ensures ∙ ap (count_at c.args.proof.now) c.requires.1

listed : (c : After-read32-n) → Listed c.args.proof.now (c.args.at + 4) c.read32-n.result
listed c = rw (c.requires.1, counted c) c.requires.0.old

told : (c : After-check_list) → c.check_list.result ≡ old_checked c.args.proof.now
told c =
    let s = c.args.proof.now in
    c.check_list.ensures ∙ ap₂ (λ p n. checked (digests_at s (p + 4) n) (tests_at s OfOld (p + 4) n 74)) c.requires.1 (counted (goal.at.After-check_list c).After-read32-n)

pub check_list-requires : goal.check_list-requires
check_list-requires c = (c.requires.0.long, omega arith, listed c)

pub overflow_add-result : goal.overflow_add-result
overflow_add-result c =
    let few = list-passed c.args.proof.now OfOld (c.args.at + 4) c.read32-n.result 74 _ (listed (goal.at.overflow_add-result c).After-read32-n) (sym c.check_list.ensures ∙ c.in_ok-more.was) in
    omega (arith, few.1, c.requires.2)

pub returns-in_err-more : goal.returns-in_err-more
returns-in_err-more c =
    let p = err_from_is_err_and c.from_residual.result c.from_residual.ensures.1 in
    p.1 ∙ ap Err p.2 ∙ sym (old-refused c.args.proof.now c.args.digests _ (sym (told (goal.at.returns-in_err-more c).After-check_list) ∙ c.in_err-more.was))

pub returns : goal.returns
returns c =
    ap₂ (λ x y. audit_accepted x y (c.args.digests + c.in_ok-more.more)) c.read32.ensures c.read32-2.ensures
    ∙ sym (old-passed c.args.proof.now c.args.digests _ (sym (told (goal.at.returns c).After-check_list) ∙ c.in_ok-more.was))
