-- `tree::below`: the leaves part where `Halves` says what the parts come to, and a fork's own slot lies between those of its sides. What is
-- left of 256 bits falls, since each part shares more bits than the whole.
use native.Mathlib.Omega.{arith}
use mathlib.Core.Path.{◌≡◌, sym, ap, ◌∙◌}
use mathlib.Core.List.{List, [], ◌++◌}
use Prim.Native.Nat.{ℕ, ◌+◌, ◌-◌, ◌≤◌}
use lib.ListN.{length, take, drop, get_or}
use lib.Seq.{length-take-le}
use Rattle.paper.specs.Strings.{Node, nothing, inner}
use Rattle.paper.specs.Tree.{digest, key}
use Rattle.paper.specs.Level.{entry_leaf}
use Rattle.leaf_row.specs.Row.{as_nodes}
use Rattle.leaf_row.proofs.Rows.{nodes-length, node_at, nodes-take, nodes-drop}
use Rattle.tree.specs.declared.Children.{Children}
use Rattle.tree.proofs.Halves.{Halves, halves, left-part, right-part}
use Rattle.tree.proofs.Slots.{laid-between, below-one-leaf, below-fork}
use Rattle.tree.proofs.+below.Goals as goal
use Rattle.tree.proofs.+below.Goals.{After-fork_of-length, After-split_at, After-split_at_mut-low_slots}

pub returns-then-leaves-eq1 : goal.returns-then-leaves-eq1
returns-then-leaves-eq1 t c =
    let row = c.args.leaves.now in
    let n = nodes-length row in
    let one : length row ≡ 1 = c.if-leaves-eq1.true in
    below-one-leaf (as_nodes row) c.leaf_digest.result c.args.slots.now (n ∙ one) (c.leaf_digest.ensures ∙ ap digest (sym (node_at row 0 (omega arith)))) (c.requires.1 ∙ sym n)

pub fork_of-length-requires : goal.fork_of-length-requires
fork_of-length-requires t c = (omega (arith, c.requires.0.some, nodes-length c.args.leaves.now), c.requires.0.sorted.rises)

abbrev leaves : (t : ℕ) → After-fork_of-length t → List Node
leaves t c = as_nodes c.args.leaves.now

cut : (t : ℕ) (c : After-fork_of-length t) → Halves c.args.from (leaves t c) c.fork_of-length.result.length c.fork_of-length.result.left
cut t c =
    let h = c.requires.0 in
    halves c.args.from (leaves t c) c.fork_of-length.result.length c.fork_of-length.result.left h.sorted h.deep h.range c.fork_of-length.ensures

less : (t : ℕ) (c : After-fork_of-length t) → c.fork_of-length.result.left + 1 ≤ length c.args.leaves.now
less t c = omega (arith, (cut t c).less, nodes-length c.args.leaves.now)

low : (t : ℕ) (c : After-split_at t) → as_nodes c.split_at.result.0.now ≡ take c.fork_of-length.result.left (as_nodes c.args.leaves.now)
low t c = ap as_nodes c.split_at.ensures.front ∙ nodes-take c.fork_of-length.result.left c.args.leaves.now

high : (t : ℕ) (c : After-split_at t) → as_nodes c.split_at.result.1.now ≡ drop c.fork_of-length.result.left (as_nodes c.args.leaves.now)
high t c = ap as_nodes c.split_at.ensures.back ∙ nodes-drop c.fork_of-length.result.left c.args.leaves.now

-- the slots of the left side, without the fork's own
low-slots : (t : ℕ) (c : After-split_at_mut-low_slots t) → length (take (c.fork_of-length.result.left - 1) c.split_at_mut-low_slots.result.0.now) ≡ c.fork_of-length.result.left - 1
low-slots t c = length-take-le _ _ (omega (arith, c.split_at_mut-low_slots.ensures.front_len))

pub below-requires : goal.below-requires
below-requires t c =
    let h = cut t (goal.at.below-requires t c).After-fork_of-length in
    let e = low t (goal.at.below-requires t c).After-split_at in (
      omega (arith, c.decreases, h.deeper, h.small),
      (rw e (left-part c.requires.0.sorted h), omega (arith, low-slots t (goal.at.below-requires t c).After-split_at_mut-low_slots, c.split_at.ensures.front_len, h.least)),
    )

pub below-requires-2 : goal.below-requires-2
below-requires-2 t c =
    let h = cut t (goal.at.below-requires-2 t c).After-fork_of-length in
    let e = high t (goal.at.below-requires-2 t c).After-split_at in (
      omega (arith, c.decreases, h.deeper, h.small),
      (rw e (right-part c.requires.0.sorted h), omega (arith, c.split_at_mut-low_slots.ensures.back_len, c.split_at.ensures.back_len, c.requires.1)),
    )

pub returns : goal.returns
returns t c =
    let d = (goal.at.returns t c).After-fork_of-length in
    let p = (goal.at.returns t c).After-split_at in
    let h = cut t d in
    let m = c.fork_of-length.result.left in
    let row = c.args.leaves.now in
    let o = c.split_at_mut-low_slots.result.0.now in
    let u = c.below.new.slots in
    let both : Children = record { left = c.below.result; right = c.below-2.result } in
    let size : length u ≡ m - 1 = c.below.auto.slots ∙ low-slots t (goal.at.returns t c).After-split_at_mut-low_slots in
    let first : entry_leaf (get_or row 0 []) ≡ get_or (as_nodes row) 0 nothing = sym (node_at row 0 (omega (arith, less t d))) in
    below-fork c.args.from (leaves t d) c.fork_of-length.result.length m c.below.result c.below-2.result c.fork_digest.result u c.below-2.new.slots _ h
    (rw (low t p) at c.below.ensures) (rw (high t p) at c.below-2.ensures)
    (c.fork_digest.ensures ∙ ap (λ x. digest (inner (take c.fork_of-length.result.length (key x)) c.below.result c.below-2.result)) first)
    (ap (λ z. z ++ c.below-2.new.slots) (laid-between o u m both h.least c.split_at_mut-low_slots.ensures.front_len size))
