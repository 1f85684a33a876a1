-- `write_proof::trees::write_shaped`: tree *all* is grown, and then the other beside it.
use native.Mathlib.Omega.{arith}
use mathlib.Core.Path.{sym}
use Rattle.write_proof.proofs.Same.{all-refused}
use Rattle.write_proof.proofs.trees.write_shaped.Goals as goal

pub grow-requires : goal.grow-requires
grow-requires c = record { stand = c.requires.0.shaped.stands; leaves = omega (arith, c.requires.0.few, c.row-row.type_inv); digests = omega (arith, c.requires.0.few, c.slots-slots.ensures.room) }

pub returns-in_default : goal.returns-in_default
returns-in_default c =
    let a = c.args in
    sym (all-refused a.kind a.records.now a.heads.now a.state a.out.now a.name.now a.epoch c.in_default.ensures)

pub write_beside-requires : goal.write_beside-requires
write_beside-requires c = (c.requires.0, c.requires.1, c.in-Some.ensures)
