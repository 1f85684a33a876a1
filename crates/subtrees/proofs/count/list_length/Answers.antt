-- `subtrees::list_length`: the list is that of the left side and then that of the right one.
use native.Mathlib.Omega.{arith}
use mathlib.Core.Path.{◌≡◌, sym, ap, ap₂, ◌∙◌}
use mathlib.Core.List.{List}
use Prim.Native.Nat.{◌+◌}
use lib.ListN.{length, take, drop, length-append}
use Rattle.paper.specs.Strings.{Node}
use Rattle.paper.specs.Tree.{build, root}
use Rattle.paper.specs.Write.{subtrees, below_root}
use Rattle.leaf_row.specs.Row.{as_nodes}
use Rattle.leaf_row.proofs.Rows.{nodes-length, nodes-take, nodes-drop}
use Rattle.tree.specs.Stored.{Sorted}
use Rattle.tree.proofs.Step.{root-range}
use Rattle.tree.proofs.Halves.{RootHalves, root-halves, before-sorted, behind-sorted}
use Rattle.subtrees.proofs.News.{root-fork, root-few}
use Rattle.subtrees.proofs.count.list_length.Goals as goal
use Rattle.subtrees.proofs.count.list_length.Goals.{After-count_side-2, After-split, After-split_at}

abbrev leaves : After-split → List Node
leaves c = as_nodes c.args.leaves.now

sorted : (c : After-split) → Sorted (leaves c)
sorted c = record { sized = c.are_leaves.ensures; rises = c.requires }

cut : (c : After-split) → RootHalves (leaves c) c.split.result
cut c = root-halves (leaves c) c.split.result (sorted c) c.split.ensures

pub split-requires : goal.split-requires
split-requires c = (c.requires, root-range _)

pub split_at-requires : goal.split_at-requires
split_at-requires c = omega (arith, (cut c).most, nodes-length c.args.leaves.now)

low : (c : After-split_at) → as_nodes c.split_at.result.0.now ≡ take c.split.result (as_nodes c.args.leaves.now)
low c = ap as_nodes c.split_at.ensures.front ∙ nodes-take c.split.result c.args.leaves.now

high : (c : After-split_at) → as_nodes c.split_at.result.1.now ≡ drop c.split.result (as_nodes c.args.leaves.now)
high c = ap as_nodes c.split_at.ensures.back ∙ nodes-drop c.split.result c.args.leaves.now

pub count_side-requires : goal.count_side-requires
count_side-requires c =
    let d = (goal.at.count_side-requires c).After-split in
    rw (low (goal.at.count_side-requires c).After-split_at) (before-sorted (leaves d) (sorted d) c.split.result, (cut d).left)

pub count_side-requires-2 : goal.count_side-requires-2
count_side-requires-2 c =
    let d = (goal.at.count_side-requires-2 c).After-split in
    rw (high (goal.at.count_side-requires-2 c).After-split_at) (behind-sorted (leaves d) (sorted d) c.split.result, (cut d).right)

-- the sum is that of the tree
sum : (c : After-count_side-2) → c.count_side.result + c.count_side-2.result ≡ length (below_root c.args.epoch (root (as_nodes c.args.leaves.now)))
sum c =
    let e = c.args.epoch in
    let d = (goal.at.After-count_side-2 c).After-split in
    let s = (goal.at.After-count_side-2 c).After-split_at in
    ap₂ (λ x y. x + y) (c.count_side.ensures ∙ ap (λ S. length (subtrees e (build 256 S))) (low s)) (c.count_side-2.ensures ∙ ap (λ S. length (subtrees e (build 256 S))) (high s))
    ∙ sym (ap length (root-fork e (root (leaves d)) _ _ _ (cut d).tree) ∙ length-append (subtrees e (build 256 (take c.split.result (leaves d)))) _)

pub overflow_add-result : goal.overflow_add-result
overflow_add-result c =
    let d = (goal.at.overflow_add-result c).After-split in
    omega (arith, sum (goal.at.overflow_add-result c).After-count_side-2, root-few c.args.epoch (leaves d) c.split.result (sorted d) (cut d), nodes-length c.args.leaves.now)

pub returns : goal.returns
returns c = sum (goal.at.returns c).After-count_side-2
