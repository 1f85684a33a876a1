-- `bounds::records_within`: the test is the definition's, and no number is below 0.
use Rattle.std.proofs.Common.{◌/◌, length, le-leb, ◌∙◌, arith}
use Rattle.paper.specs.Table.{records_within}
use Rattle.bounds.proofs.records_within.Goals as goal

pub returns : goal.returns
unfolding records_within
returns c = c.within.ensures ∙ rw (le-leb 0 (length c.args.records.now / 168) (omega arith))
