-- `bits::prefix::kept` gives the number of the byte's first n bits: a mask of n ones keeps them. Assumes nothing.
use Rattle.std.proofs.Common.{arith}
use Rattle.bits.proofs.Pack.{masked}
use Rattle.bits.proofs.prefix.kept.Goals as goal

pub returns : goal.returns
returns c = masked c.args.byte c.args.n (omega arith) c.requires
