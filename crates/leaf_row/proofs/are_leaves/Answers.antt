-- `leaf_row::are_leaves`: each leaf has its 68 bytes, and they are bytes.
use mathlib.Core.Path.{subst}
use Rattle.paper.specs.Bytes.{Bytewise}
use Rattle.leaf_row.proofs.Rows.{whole-by, flat-sized}
use Rattle.leaf_row.proofs.are_leaves.Goals as goal

pub returns : goal.returns
returns c =
    let row = c.args.leaves.now in
    flat-sized row (whole-by row c.told-leaves) (subst Bytewise c.as_flattened.ensures.value c.are_bytes.ensures)
