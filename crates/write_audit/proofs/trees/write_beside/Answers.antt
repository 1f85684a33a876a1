-- `write_audit::trees::write_beside`: tree *old* is grown, and the proof is laid over both.
use native.Mathlib.Omega.{arith}
use mathlib.Core.Path.{sym, ◌∙◌}
use Rattle.lay_audit.proofs.Bytes.{listable-lent}
use Rattle.write_audit.proofs.Same.{step, old-refused, all-listed, old-listed, rest-is}
use Rattle.write_audit.proofs.trees.write_beside.Goals as goal

pub grow-requires : goal.grow-requires
grow-requires c = record { stand = c.requires.0.shaped.stands; leaves = omega (arith, c.requires.0.few, c.row-row.type_inv); digests = omega (arith, c.requires.0.few, c.slots-slots.ensures.room) }

pub returns-in_default : goal.returns-in_default
returns-in_default c =
    let a = c.args in
    sym (old-refused a.records.now a.heads.now a.state a.out.now a.epoch c.requires.0 c.requires.1 a.all.now c.requires.2 c.in_default.ensures)

pub lay_audit-requires : goal.lay_audit-requires
lay_audit-requires c =
    let a = c.args in (
      step a.records.now a.heads.now a.state a.out.now a.epoch c.requires.0 c.requires.1,
      listable-lent _ (all-listed a.records.now a.heads.now a.state a.out.now a.epoch c.requires.0 c.requires.1 a.all.now c.requires.2),
      listable-lent _ (old-listed a.records.now a.heads.now a.state a.out.now a.epoch c.requires.0 c.requires.1 a.all.now c.requires.2 c.in-Some.old c.in-Some.ensures),
    )

pub returns : goal.returns
returns c =
    let a = c.args in
    c.lay_audit.ensures ∙ sym (rest-is a.records.now a.heads.now a.state a.out.now a.epoch c.requires.0 c.requires.1 a.all.now c.requires.2 c.in-Some.old c.in-Some.ensures)
