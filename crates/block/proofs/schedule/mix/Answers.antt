-- `block::schedule::mix` meets its contract: the sums of the code are those of the definition. Assumes nothing.
use Rattle.fips.specs.Sha256 as S
use Rattle.block.proofs.schedule.mix.Goals as goal

pub returns : goal.returns
unfolding S.mix
returns c = rw (c.small1.ensures, c.small0.ensures)
