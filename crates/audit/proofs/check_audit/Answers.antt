-- `audit::check_audit`: sizes, layout, heads, lists, in the definition's order.
use native.Mathlib.Omega.{arith}
use Rattle.std.specs.Prelude.{Err}
use Rattle.std.proofs.lemmas.Result.{err_from_is_err_and}
use mathlib.Core.Path.{◌≡◌, sym, ap, ◌∙◌}
use mathlib.Core.Bool.{true}
use mathlib.Core.List.{[]}
use Rattle.paper.specs.Bytes.{Bytes, Bytewise}
use Rattle.paper.specs.Layout.{got, parse, in_layout}
use Rattle.paper.specs.Audit.{audit_field, audit_read}
use Rattle.audit_form.specs.Places.{audit_at, Laid}
use Rattle.ranges.proofs.Slices.{bytewise}
use Rattle.audit_form.proofs.Form.{audit-bad, audit-reads, audit-laid}
use Rattle.audit.proofs.Parts.{input-old, input-new, input-fits, heads-refused, heads-passed}
use Rattle.audit.proofs.check_audit.Goals as goal
use Rattle.audit.proofs.check_audit.Goals.{Else-not-in_layout}

-- the proof
abbrev proof_in : Else-not-in_layout → Bytes
proof_in c = c.args.proof.now

bytes : (c : Else-not-in_layout) → Bytewise (proof_in c)
bytes c = bytewise (proof_in c) c.type_inv.proof

-- is in layout, reads as what stands at its places, and is laid out so
formed : (c : Else-not-in_layout) → in_layout (parse audit_field (proof_in c)) ≡ true
formed c = sym c.in_layout.ensures ∙ c.if-not-in_layout.false

reads : (c : Else-not-in_layout) → parse audit_field (proof_in c) ≡ got (audit_at (proof_in c)) []
reads c = audit-reads (proof_in c) (bytes c) (formed c)

laid : (c : Else-not-in_layout) → Laid (proof_in c)
laid c = audit-laid (proof_in c) (bytes c) (formed c)

pub returns-then-old_head-ne32 : goal.returns-then-old_head-ne32
returns-then-old_head-ne32 c =
    let a = c.args in
    sym (input-old a.old_head.now a.new_head.now a.proof.now c.if-old_head-ne32.true)

pub returns-then-new_head-ne32 : goal.returns-then-new_head-ne32
returns-then-new_head-ne32 c =
    let a = c.args in
    sym (input-new a.old_head.now a.new_head.now a.proof.now c.if-new_head-ne32.true)

pub returns-then-not-in_layout : goal.returns-then-not-in_layout
returns-then-not-in_layout c =
    let a = c.args in
    sym (input-fits a.old_head.now a.new_head.now a.proof.now c.if-old_head-ne32.false c.if-new_head-ne32.false
    ∙ ap (audit_read a.old_head.now a.new_head.now) (audit-bad a.proof.now (sym c.in_layout.ensures ∙ c.if-not-in_layout.true)))

pub check_heads-requires : goal.check_heads-requires
check_heads-requires c = (laid c).long

pub check_lists-requires : goal.check_lists-requires
check_lists-requires c =
    let a = c.args in
    let two = (heads-passed a.old_head.now a.new_head.now a.proof.now (reads (goal.at.check_lists-requires c).Else-not-in_layout) _ (sym c.check_heads.ensures ∙ c.in_ok-digests.was)).0 in
    (laid (goal.at.check_lists-requires c).Else-not-in_layout, omega (arith, two))

pub returns-in_err-digests : goal.returns-in_err-digests
returns-in_err-digests c =
    let a = c.args in
    let p = err_from_is_err_and c.from_residual.result c.from_residual.ensures.1 in
    p.1 ∙ ap Err p.2 ∙ sym (input-fits a.old_head.now a.new_head.now a.proof.now c.if-old_head-ne32.false c.if-new_head-ne32.false
    ∙ heads-refused a.old_head.now a.new_head.now a.proof.now (reads (goal.at.returns-in_err-digests c).Else-not-in_layout) _ (sym c.check_heads.ensures ∙ c.in_err-digests.was))

pub returns : goal.returns
returns c =
    let a = c.args in
    c.check_lists.ensures
    ∙ sym (input-fits a.old_head.now a.new_head.now a.proof.now c.if-old_head-ne32.false c.if-new_head-ne32.false
    ∙ (heads-passed a.old_head.now a.new_head.now a.proof.now (reads (goal.at.returns c).Else-not-in_layout) _ (sym c.check_heads.ensures ∙ c.in_ok-digests.was)).1)
