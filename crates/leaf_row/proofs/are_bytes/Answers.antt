-- `leaf_row::are_bytes`: as the type says.
use Rattle.ranges.proofs.Slices.{bytewise}
use Rattle.leaf_row.proofs.are_bytes.Goals as goal

pub returns : goal.returns
returns c = bytewise c.args.s.now c.type_inv.s
