-- `lookup::check_lookup`: what the check finds, where version 0 is none.
use mathlib.Core.Path.{sym, ap, ◌∙◌}
use Rattle.std.proofs.lemmas.Result.{err_from_is_err_and}
use Rattle.lookup.proofs.Checked.{told, told-none, told-some, lookup-checked}
use Rattle.lookup.proofs.check_lookup.Goals as goal

pub returns-in_err-version : goal.returns-in_err-version
returns-in_err-version c =
    let a = c.args in
    let p = err_from_is_err_and c.from_residual.result c.from_residual.ensures.1 in
    rw (p.1, p.2)
    (ap (told a.head.now a.name.now a.proof.now) (sym c.in_err-version.was ∙ c.check.ensures) ∙ lookup-checked a.head.now a.name.now a.proof.now)

pub returns-then-version-eq0 : goal.returns-then-version-eq0
returns-then-version-eq0 c =
    let a = c.args in
    told-none a.head.now a.name.now a.proof.now _ _ _ c.if-version-eq0.true
    ∙ ap (told a.head.now a.name.now a.proof.now) (sym c.in_ok-version.was ∙ c.check.ensures) ∙ lookup-checked a.head.now a.name.now a.proof.now

pub returns : goal.returns
returns c =
    let a = c.args in
    told-some a.head.now a.name.now a.proof.now _ _ _ c.if-version-eq0.false
    ∙ ap (told a.head.now a.name.now a.proof.now) (sym c.in_ok-version.was ∙ c.check.ensures) ∙ lookup-checked a.head.now a.name.now a.proof.now
