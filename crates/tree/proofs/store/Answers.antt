-- `tree::store`: the leaves part at the first bit, and each side has its own slots.
use native.Mathlib.Omega.{arith}
use mathlib.Core.Path.{◌≡◌, refl, sym, ap, ◌∙◌}
use mathlib.Core.List.{List}
use lib.ListN.{take, drop}
use Rattle.paper.specs.Strings.{Node}
use Rattle.leaf_row.specs.Row.{as_nodes}
use Rattle.leaf_row.proofs.Rows.{nodes-length, nodes-take, nodes-drop}
use Rattle.tree.specs.Stored.{Sorted}
use Rattle.tree.proofs.Step.{root-range}
use Rattle.tree.proofs.Halves.{RootHalves, root-halves, before-sorted, behind-sorted}
use Rattle.tree.proofs.Slots.{sides-laid}
use Rattle.tree.proofs.store.Goals as goal
use Rattle.tree.proofs.store.Goals.{After-split-split, After-split_at}

abbrev leaves : After-split-split → List Node
leaves c = as_nodes c.args.leaves.now

sorted : (c : After-split-split) → Sorted (leaves c)
sorted c = record { sized = c.are_leaves.ensures; rises = c.requires.0 }

cut : (c : After-split-split) → RootHalves (leaves c) c.split-split.result
cut c = root-halves (leaves c) c.split-split.result (sorted c) c.split-split.ensures

pub split-split-requires : goal.split-split-requires
split-split-requires c = (c.requires.0, root-range _)

pub split_at-requires : goal.split_at-requires
split_at-requires c = omega (arith, (cut c).most, nodes-length c.args.leaves.now)

low : (c : After-split_at) → as_nodes c.split_at.result.0.now ≡ take c.split-split.result (as_nodes c.args.leaves.now)
low c = ap as_nodes c.split_at.ensures.front ∙ nodes-take c.split-split.result c.args.leaves.now

high : (c : After-split_at) → as_nodes c.split_at.result.1.now ≡ drop c.split-split.result (as_nodes c.args.leaves.now)
high c = ap as_nodes c.split_at.ensures.back ∙ nodes-drop c.split-split.result c.args.leaves.now

pub side-requires : goal.side-requires
side-requires c =
    let d = (goal.at.side-requires c).After-split-split in
    let e = low (goal.at.side-requires c).After-split_at in
    (rw e (before-sorted (leaves d) (sorted d) c.split-split.result), rw e (cut d).left, c.split_at_mut-low_slots.ensures.front_len ∙ sym c.split_at.ensures.front_len)

pub side-requires-2 : goal.side-requires-2
side-requires-2 c =
    let d = (goal.at.side-requires-2 c).After-split-split in
    let e = high (goal.at.side-requires-2 c).After-split_at in
    (rw e (behind-sorted (leaves d) (sorted d) c.split-split.result), rw e (cut d).right, omega (arith, c.split_at_mut-low_slots.ensures.back_len, c.split_at.ensures.back_len, c.requires.1))

pub returns : goal.returns
returns c =
    let d = (goal.at.returns c).After-split-split in
    let p = (goal.at.returns c).After-split_at in
    let slots = c.split_at_mut-low_slots.ensures in
    sides-laid (leaves d) c.split-split.result c.args.slots.now c.side.new.slots c.side-2.new.slots _ c.side.result c.side-2.result c.split-split.ensures
    (c.side.auto.slots ∙ slots.front_len) (rw (low p, slots.front) at c.side.ensures) (rw (high p, slots.back) at c.side-2.ensures) refl
