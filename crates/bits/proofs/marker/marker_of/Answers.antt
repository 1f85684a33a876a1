-- `bits::marker::marker_of` gives floor (log2 v), by the law on leading zeros. Assumes nothing.
use mathlib.Core.Path.{sym, ap}
use native.Mathlib.Omega.{arith}
use Rattle.paper.specs.Bits.{top_power, log2}
use Rattle.paper.proofs.Marker.{leading-log2, log2-leading}
use Rattle.bits.proofs.marker.marker_of.Goals as goal

pub returns-then-v-eq0 : goal.returns-then-v-eq0
unfolding log2 top_power
returns-then-v-eq0 c = sym (ap log2 c.if-v-eq0.true)

pub overflow_sub-result : goal.overflow_sub-result
overflow_sub-result c = omega (arith, leading-log2 c.args.v (omega arith) (omega arith))

pub returns : goal.returns
returns c = log2-leading c.args.v (omega arith) (omega arith)
