-- `audit_form::in_layout`: the opening bytes, room for two heads, a list, and a list that ends the bytes.
use native.Mathlib.Omega.{arith}
use mathlib.Core.Path.{sym, ◌∙◌}
use Rattle.paper.specs.Bytes.{Bytewise}
use Rattle.ranges.proofs.Slices.{bytewise}
use Rattle.audit_form.proofs.Form.{audit-short, audit-closed, audit-none, audit-ends}
use Rattle.audit_form.proofs.in_layout.Goals as goal
use Rattle.audit_form.proofs.in_layout.Goals.{After-shared_slice_known-1}

bytes : (c : After-shared_slice_known-1) → Bytewise c.args.proof.now
bytes c = bytewise c.args.proof.now c.type_inv.proof

pub returns-then-proof-lt206 : goal.returns-then-proof-lt206
returns-then-proof-lt206 c = sym (audit-short c.args.proof.now (bytes (goal.at.returns-then-proof-lt206 c).After-shared_slice_known-1) c.if-proof-lt206.true)

pub returns-then-not-same : goal.returns-then-not-same
returns-then-not-same c =
    sym (audit-closed c.args.proof.now (bytes (goal.at.returns-then-not-same c).After-shared_slice_known-1) (sym c.same.ensures ∙ c.if-not-same.true))

pub returns-in-Some : goal.returns-in-Some
returns-in-Some c =
    c.list_ends.ensures
    ∙ sym (audit-ends c.args.proof.now (bytes (goal.at.returns-in-Some c).After-shared_slice_known-1) (omega arith) (sym c.same.ensures ∙ c.if-not-same.false) _ (sym c.after_list.ensures ∙ c.in-Some.is))

pub returns-in-None : goal.returns-in-None
returns-in-None c =
    sym (audit-none c.args.proof.now (bytes (goal.at.returns-in-None c).After-shared_slice_known-1) (sym c.after_list.ensures ∙ c.in-None.is))
