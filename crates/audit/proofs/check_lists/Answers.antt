-- `audit::check_lists`: the list of *all*, and behind it the list of *old*.
use native.Mathlib.Omega.{arith}
use Rattle.std.specs.Prelude.{Err}
use Rattle.std.proofs.lemmas.Result.{err_from_is_err_and}
use mathlib.Core.Path.{◌≡◌, sym, ap, ◌∙◌}
use Rattle.paper.specs.declared.Which.TheVariants.{OfAll}
use Rattle.audit_form.specs.Places.{count_at, behind_at, Listed}
use Rattle.audit.specs.Tests.{checked, tests_at, digests_at}
use Rattle.audit.proofs.Parts.{list-passed, all_checked, all-refused, all-passed}
use Prim.Native.Nat.{◌+◌, ◌*◌, ◌≤◌}
use Rattle.audit.proofs.check_lists.Goals as goal
use Rattle.audit.proofs.check_lists.Goals.{After-check_list, After-read32-n, In_ok-more}

-- the records stand where the list of *all* has them
counted : (c : After-read32-n) → c.read32-n.result ≡ count_at c.args.proof.now 206
unfolding count_at
counted c = c.read32-n.ensures

listed : (c : After-read32-n) → Listed c.args.proof.now 210 c.read32-n.result
listed c = rw (counted c) c.requires.0.all

told : (c : After-check_list) → c.check_list.result ≡ all_checked c.args.proof.now
told c =
    let s = c.args.proof.now in
    c.check_list.ensures ∙ ap (λ n. checked (digests_at s 210 n) (tests_at s OfAll 210 n 42)) (counted (goal.at.After-check_list c).After-read32-n)

few : (c : In_ok-more) → c.args.digests + c.in_ok-more.more ≤ 65544
few c =
    let most = list-passed c.args.proof.now OfAll 210 c.read32-n.result 42 _ (listed (goal.at.In_ok-more c).After-read32-n) (sym c.check_list.ensures ∙ c.in_ok-more.was) in
    omega (arith, most.1, c.requires.1)

pub check_list-requires : goal.check_list-requires
check_list-requires c = (c.requires.0.long, omega arith, listed c)

pub overflow_add-digests : goal.overflow_add-digests
overflow_add-digests c = omega (arith, few c)

pub check_old-requires : goal.check_old-requires
unfolding behind_at
check_old-requires c =
    (c.requires.0, ap (λ n. 210 + n * 99) (counted (goal.at.check_old-requires c).After-read32-n), few c)

pub returns-in_err-more : goal.returns-in_err-more
returns-in_err-more c =
    let p = err_from_is_err_and c.from_residual.result c.from_residual.ensures.1 in
    p.1 ∙ ap Err p.2 ∙ sym (all-refused c.args.proof.now c.args.digests _ (sym (told (goal.at.returns-in_err-more c).After-check_list) ∙ c.in_err-more.was))

pub returns : goal.returns
returns c =
    c.check_old.ensures ∙ sym (all-passed c.args.proof.now c.args.digests _ (sym (told (goal.at.returns c).After-check_list) ∙ c.in_ok-more.was))
