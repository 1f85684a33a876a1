-- `nodes::join`: the sides are those that the bit picks.
use Rattle.nodes.specs.Join.{joined}
use Rattle.nodes.proofs.join.Goals as goal

pub returns-then-bit : goal.returns-then-bit
unfolding joined
returns-then-bit c = rw c.if-bit.true c.inner.ensures

pub returns-else-bit : goal.returns-else-bit
unfolding joined
returns-else-bit c = rw c.if-bit.false c.inner-else-bit.ensures
