-- `table::index::bucket`: what is mixed so far and the bytes that are left decide.
use native.Mathlib.Omega.{arith}
use native.Mathlib.Nat.{mod-lt}
use mathlib.Core.Path.{sym, ◌∙◌}
use Prim.Native.Nat.{◌+◌, ◌*◌}
use lib.ListN.{get_or}
use Rattle.table.proofs.Last.{bucket-start, bucket-more, bucket-all}
use Rattle.table.proofs.index.bucket.Goals as goal

pub loop-b-init : goal.loop-b-init
loop-b-init c = (omega arith, bucket-start _)

pub loop-b-preserved : goal.loop-b-preserved
loop-b-preserved c =
    let at = c.loop-b in
    let name = c.args.name.now in
    (mod-lt (at.h * 31 + get_or name at.b-index 0) (omega arith), at.invariant.1 ∙ bucket-more at.h name at.b-index (omega arith))

pub returns : goal.returns
returns c = sym (c.loop-b.invariant.1 ∙ bucket-all c.loop-b.h c.args.name.now c.loop-b.b-index (omega arith))
