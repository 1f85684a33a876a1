-- `own::is_own`: the epoch and the name are looked at.
use native.Mathlib.Omega.{arith}
use mathlib.Core.Path.{sym, ap, ◌∙◌}
use Rattle.paper.specs.Bytes.{same}
use Rattle.own.proofs.Versions.{own-then}
use Rattle.own.proofs.is_own.Goals as goal

pub returns : goal.returns
returns c =
    let a = c.args in
    c.same.ensures ∙ ap (λ x. same x a.name.now) c.name_at.ensures.bytes ∙ sym (own-then a.records.now a.name.now a.epoch a.i (omega (arith, c.epoch_at.ensures, c.if-epoch-epoch_at.false)))
