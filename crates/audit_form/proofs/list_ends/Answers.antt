-- `audit_form::list_ends`: the list ends where the bytes end, or there is no list.
use mathlib.Core.Path.{sym, ◌∙◌}
use Rattle.audit_form.proofs.Form.{list-end}
use Rattle.audit_form.proofs.list_ends.Goals as goal

pub returns-in-Some : goal.returns-in-Some
returns-in-Some c =
    let a = c.args in
    sym (list-end a.s.now a.at _ (sym c.after_list.ensures ∙ c.in-Some.is))
