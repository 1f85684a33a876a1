-- `nodes::nothing`: the string is the array.
use Rattle.paper.specs.Strings.{nothing_string}
use Rattle.nodes.proofs.nothing.Goals as goal

pub returns : goal.returns
unfolding nothing_string
returns c = c.sha256.ensures
