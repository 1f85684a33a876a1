-- `tree::split`: in bit order the leaves that go left stand first.
use borrow.Author.Rules.{rules}
use Rattle.std.proofs.lemmas.Fn.{always_returns_same}
use Rattle.leaf_row.proofs.Rows.{nodes-long, whole-by}
use Rattle.tree.proofs.Rising.{goes_left, left-first, cut-row}
use Rattle.tree.proofs.split.Goals as goal

pub returns : goal.returns
returns c =
    let a = c.args in
    let found = c.partition_point in
    let w = nodes-long a.leaves.now (whole-by a.leaves.now c.told-leaves) in
    cut-row a.leaves.now a.k c.requires.0 w c.requires.1 found.result found.ensures.bound
    (found.ensures.partitioned (goes_left a.k) (always_returns_same _ _ _ (λ x r f' k. search rules)) (left-first a.leaves.now a.k c.requires.0 w c.requires.1))
