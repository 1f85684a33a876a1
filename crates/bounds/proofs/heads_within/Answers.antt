-- `bounds::heads_within`: the test is the definition's.
use Rattle.paper.specs.Table.{heads_within}
use Rattle.bounds.proofs.heads_within.Goals as goal

pub returns : goal.returns
unfolding heads_within
returns c = c.within.ensures
