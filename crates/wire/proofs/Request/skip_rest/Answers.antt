-- What a turn skipped joins what those before it did.
use Rattle.std.proofs.Common.{arith, refl}
use Rattle.wire.proofs.Joined.{joined}
use Rattle.wire.proofs.Request.skip_rest.Goals as goal

pub loop-left-preserved : goal.loop-left-preserved
loop-left-preserved g c =
    let (before, e, h) = c.loop-left.invariant in
    let (more, d, k) = c.skip_some-n.ensures.bytes in
    let (bytes, l, j) = joined _ _ _ before more _ _ refl refl h k in
    (bytes, omega arith, j)
