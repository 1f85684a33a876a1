-- `history::check_history`: what the check finds.
use mathlib.Core.Path.{sym, ap, ◌∙◌}
use Rattle.std.proofs.lemmas.Result.{err_from_is_err_and}
use Rattle.history.proofs.Checked.{told, history-checked}
use Rattle.history.proofs.check_history.Goals as goal

pub returns-in_err-versions : goal.returns-in_err-versions
returns-in_err-versions c =
    let a = c.args in
    let p = err_from_is_err_and c.from_residual.result c.from_residual.ensures.1 in
    rw (p.1, p.2)
    (ap (told a.head.now a.name.now a.proof.now) (sym c.in_err-versions.was ∙ c.check.ensures) ∙ history-checked a.head.now a.name.now a.proof.now)

pub returns : goal.returns
returns c =
    let a = c.args in
    ap (told a.head.now a.name.now a.proof.now) (sym c.in_ok-versions.was ∙ c.check.ensures) ∙ history-checked a.head.now a.name.now a.proof.now
