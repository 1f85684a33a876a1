-- `block::rounds::round` meets its contract: the sums of the code are those of the definition. Assumes nothing.
use Rattle.std.proofs.Common.{refl}
use Rattle.block.proofs.Turns.{round-made}
use Rattle.block.proofs.rounds.round.Goals as goal

pub returns : goal.returns
returns c = round-made c.args.s _ c.args.w.now c.args.t _ _ _ _ c.requires.1 c.t1-x.ensures c.t2.ensures refl refl
