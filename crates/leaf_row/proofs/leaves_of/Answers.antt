-- `leaf_row::leaves_of`: each leaf is its 68 bytes.
use native.Mathlib.Omega.{arith}
use mathlib.Core.Path.{◌≡◌, ap, ◌∙◌}
use Prim.Native.Nat.{◌/◌}
use lib.ListN.{length}
use Rattle.paper.specs.Level.{leaves_of}
use Rattle.leaf_row.specs.Row.{as_nodes}
use Rattle.leaf_row.proofs.Rows.{chunks-nodes, leaves-sized}
use Rattle.leaf_row.proofs.leaves_of.Goals as goal
use Rattle.leaf_row.proofs.leaves_of.Goals.{After-as_chunks_mut}

same : (c : After-as_chunks_mut) → as_nodes c.as_chunks_mut.result.0.now ≡ leaves_of c.args.row.now
same c = ap as_nodes c.as_chunks_mut.ensures.front ∙ chunks-nodes (length c.args.row.now / 68) c.args.row.now

pub returns : goal.returns
returns c =
    let s = c.args.row.now in
    let e = same c in
    record { leaves = e; sized = rw e (leaves-sized (length s / 68) s (omega arith) c.are_bytes.ensures) }
