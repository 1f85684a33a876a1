-- `promises::kept::head-at`: the part has 32 bytes.
use Prim.Native.Nat.{◌*◌}
use Rattle.paper.specs.Table.{head_at}
use Rattle.ranges.proofs.Slices.{part-is}
use Rattle.promises.proofs.kept.head_at.Goals as goal

pub returns : goal.returns
unfolding head_at
returns c = part-is c.args.heads.now (c.args.epoch * 32) 32
