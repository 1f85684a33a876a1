-- `bounds::batch_within`: the test is the definition's, and no number is below 0.
use Rattle.std.proofs.Common.{◌/◌, length, le-leb, ◌∙◌, arith}
use Rattle.paper.specs.Publish.{batch_within}
use Rattle.bounds.proofs.batch_within.Goals as goal

pub returns : goal.returns
unfolding batch_within
returns c = c.within.ensures ∙ rw (le-leb 0 (length c.args.batch.now / 162) (omega arith))
