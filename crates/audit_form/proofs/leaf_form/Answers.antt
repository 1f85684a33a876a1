-- `audit_form::leaf_form`: the two tests are those of the layout; a commitment and an epoch are any bytes.
use native.Mathlib.Omega.{arith}
use mathlib.Core.Path.{sym, ◌∙◌}
use borrow.Author.Tests.{eq-eqb, ne_eqb}
use Rattle.ranges.proofs.Slices.{bytewise}
use Rattle.audit_form.proofs.Record.{leaf-test}
use Rattle.audit_form.proofs.leaf_form.Goals as goal

pub returns-then-read16-eq256 : goal.returns-then-read16-eq256
returns-then-read16-eq256 c =
    let s = c.args.row.now in
    let w = bytewise s (λ i. record { fits = c.fits-row i }) in
    c.all_zero.ensures ∙ sym (leaf-test s 0 w (omega (arith, c.told-row)) ∙ rw (eq-eqb _ 256 (sym c.read16.ensures ∙ c.if-read16-eq256.true)))

pub returns-else-read16-eq256 : goal.returns-else-read16-eq256
returns-else-read16-eq256 c =
    let s = c.args.row.now in
    let w = bytewise s (λ i. record { fits = c.fits-row i }) in
    ne_eqb _ 256 c.if-read16-eq256.false ∙ sym (leaf-test s 0 w (omega (arith, c.told-row)) ∙ rw (ne_eqb _ 256 (λ e. c.if-read16-eq256.false (c.read16.ensures ∙ e))))
