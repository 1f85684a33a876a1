-- `bounds::entries_within`: the test is the definition's, and no number is below 0.
use Rattle.std.proofs.Common.{◌/◌, length, le-leb, ◌∙◌, arith}
use Rattle.paper.specs.Level.{entries_within}
use Rattle.bounds.proofs.entries_within.Goals as goal

pub returns : goal.returns
unfolding entries_within
returns c = c.within.ensures ∙ rw (le-leb 0 (length c.args.entries.now / 68) (omega arith))
