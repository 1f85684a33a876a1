-- `ranges::same`: strings are equal byte by byte.
use Rattle.std.proofs.Common.{◌∙◌}
use Rattle.ranges.proofs.Compare.{pointwise-same}
use Rattle.ranges.proofs.same.Goals as goal

pub returns : goal.returns
returns c = c.eq.ensures ∙ pointwise-same c.args.a.now c.args.b.now
