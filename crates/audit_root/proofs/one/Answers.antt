-- `audit_root::one`: a new leaf has no part in the old tree; any other record is its node.
use mathlib.Core.Logic.{⊎_elim}
use mathlib.Core.Path.{◌≡◌, sym, ap, ◌∙◌}
use mathlib.Core.Bool.{true}
use lib.ListN.{get_or}
use Rattle.std.specs.Prelude.{Option, Some}
use Rattle.audit_root.specs.declared.Built.{Built}
use Rattle.audit_root.proofs.Single.{one-skipped, one-grown}
use Rattle.audit_root.proofs.one.Goals as goal

pub returns-then-not-new : goal.returns-then-not-new
returns-then-not-new c = rw c.if-not-new.true (sym (one-skipped c.args.row.now c.requires c.if-row-eq2.true))

pub returns : goal.returns
returns c =
    let s = c.args.row.now in
    let kept : get_or s 0 0 ≡ 2 → c.args.new ≡ true = ⊎_elim (λ w e. w.1) (λ w e. absurd (w e)) c.else-row-eq2.either in
    ap {B = Option Built} (λ d. Some (record { digest = d; count = 1 })) c.record_digest.ensures ∙ sym (one-grown s c.requires c.args.new kept)
