-- `write_proof::trees::write_beside`: tree *old* is grown, and the proof is laid over both.
use native.Mathlib.Omega.{arith}
use mathlib.Core.Path.{sym, ◌∙◌}
use Rattle.paths.proofs.Asked.{ready-lent}
use Rattle.write_proof.proofs.Same.{old-refused, ready, rest-is}
use Rattle.write_proof.proofs.trees.write_beside.Goals as goal

pub grow-requires : goal.grow-requires
grow-requires c = record { stand = c.requires.0.shaped.stands; leaves = omega (arith, c.requires.0.few, c.row-row.type_inv); digests = omega (arith, c.requires.0.few, c.slots-slots.ensures.room) }

pub returns-in_default : goal.returns-in_default
returns-in_default c =
    let a = c.args in
    sym (old-refused a.kind a.records.now a.heads.now a.state a.out.now a.name.now a.epoch a.all c.requires.2 c.in_default.ensures)

pub lay_proof-requires : goal.lay_proof-requires
lay_proof-requires c =
    let a = c.args in
    (c.requires.0, ready-lent _ _ (ready a.kind a.records.now a.heads.now a.state a.out.now a.name.now a.epoch a.all c.requires.2 c.in-Some.old c.in-Some.ensures c.requires.1))

pub returns : goal.returns
returns c =
    let a = c.args in
    c.lay_proof.ensures ∙ sym (rest-is a.kind a.records.now a.heads.now a.state a.out.now a.name.now a.epoch a.all c.requires.2 c.in-Some.old c.in-Some.ensures c.requires.0)
