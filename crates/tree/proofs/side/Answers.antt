-- `tree::side`: nothing, or the tree below the root, with a slot to spare.
use native.Mathlib.Omega.{arith}
use mathlib.Core.Path.{◌≡◌, sym, ◌∙◌}
use Prim.Native.Nat.{◌-◌, ◌≤◌}
use lib.ListN.{length}
use lib.Seq.{length-take-le}
use borrow.Author.Tests.{eqb-true, eqb-false}
use Rattle.leaf_row.specs.Row.{as_nodes}
use Rattle.leaf_row.proofs.Rows.{nodes-length}
use Rattle.tree.proofs.Slots.{side-none, side-some}
use Rattle.tree.proofs.side.Goals as goal
use Rattle.tree.proofs.side.Goals.{Else-is_empty}

pub returns-then-is_empty : goal.returns-then-is_empty
returns-then-is_empty c =
    let n = nodes-length c.args.leaves.now in
    let none : length c.args.leaves.now ≡ 0 = eqb-true (length c.args.leaves.now) 0 (sym c.is_empty.ensures ∙ c.if-is_empty.true) in
    side-none (as_nodes c.args.leaves.now) c.nothing.result c.args.slots.now (n ∙ none) c.nothing.ensures (c.requires.2 ∙ sym n)

some : (c : Else-is_empty) → 1 ≤ length (as_nodes c.args.leaves.now)
some c = omega (arith, nodes-length c.args.leaves.now, eqb-false (length c.args.leaves.now) 0 (sym c.is_empty.ensures ∙ c.if-is_empty.false))

pub below-requires : goal.below-requires
below-requires c =
    let h = some (goal.at.below-requires c).Else-is_empty in
    let n = nodes-length c.args.leaves.now in
    let l = length-take-le (length c.args.leaves.now - 1) c.args.slots.now (omega (arith, c.requires.2)) in
    (record { some = h; deep = omega arith; sorted = c.requires.0; range = c.requires.1 }, omega (arith, l, h, n))

pub returns : goal.returns
returns c =
    let n = nodes-length c.args.leaves.now in
    let l = length-take-le (length c.args.leaves.now - 1) c.args.slots.now (omega (arith, c.requires.2)) in
    rw (← n) (side-some (as_nodes c.args.leaves.now) c.below.result c.args.slots.now c.below.new.slots (some (goal.at.returns c).Else-is_empty) (c.requires.2 ∙ sym n) (c.below.auto.slots ∙ omega (arith, l, n)) c.below.ensures)
