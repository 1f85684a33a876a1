-- `tree::StoredTree::root`: the inner node's string, over the digests of the stored sides.
use mathlib.Core.Path.{◌∙◌}
use Rattle.paper.specs.Bits.{from_bits, pack}
use Rattle.leaf_row.specs.Row.{as_nodes}
use Rattle.tree.proofs.Slots.{stored-root}
use Rattle.tree.proofs.StoredTree.root.Goals as goal

pub returns : goal.returns
unfolding pack from_bits
returns c =
    let t = c.args.self.now in
    record { over = c.inner.ensures; kept = λ k. c.inner.ensures ∙ stored-root (as_nodes t.leaves.now) t.slots.now t.sides (record { sized = c.are_leaves.ensures; rises = k.rises }) k.stored }
