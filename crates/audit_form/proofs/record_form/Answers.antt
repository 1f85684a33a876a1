-- `audit_form::record_form`: the kind decides which fields stand behind it.
use native.Mathlib.Omega.{arith}
use Rattle.audit_form.proofs.Record.{record-leaf, record-opened, record-other}
use mathlib.Core.Path.{sym, ◌∙◌}
use Rattle.audit_form.proofs.record_form.Goals as goal

pub returns-in-0 : goal.returns-in-0
returns-in-0 c =
    c.leaf_form.ensures ∙ sym (record-leaf c.args.row.now 0 (omega (arith, c.told-row)) c.in-0.is)

pub returns-in-1 : goal.returns-in-1
returns-in-1 c =
    c.prefix_form.ensures ∙ sym (record-opened c.args.row.now 0 (omega (arith, c.told-row)) c.in-1.is)

pub returns-in_default : goal.returns-in_default
returns-in_default c =
    sym (record-other c.args.row.now 0 (omega (arith, c.told-row)) c.in_default.in_default-own.rest.0.1 c.in_default.in_default-own.rest.1)
