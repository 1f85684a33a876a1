-- `write_path::write_side`: nothing, or the way below the root.
use native.Mathlib.Omega.{arith}
use mathlib.Core.Path.{sym, ◌∙◌}
use Prim.Native.Nat.{◌+◌, ◌<◌}
use lib.ListN.{length, set}
use borrow.Author.Tests.{eqb-true, eqb-false}
use Rattle.paper.specs.Bits.{bits_of}
use Rattle.paper.specs.Tree.{build}
use Rattle.leaf_row.specs.Row.{as_nodes}
use Rattle.leaf_row.proofs.Rows.{nodes-length}
use Rattle.tree_path.specs.Measured.{way_bytes}
use Rattle.path_fields.specs.Written.{Wrote}
use Rattle.write_path.proofs.Laid.{none-wrote}
use Rattle.write_path.proofs.write_side.Goals as goal
use Rattle.write_path.proofs.write_side.Goals.{Then-is_empty}

nothing : (c : Then-is_empty) → let a = c.args in (a.at < length a.out.now) × Wrote a.out.now a.at (way_bytes (bits_of a.label.now) (build 256 (as_nodes a.leaves.now))) (set a.out.now a.at 3) (a.at + 1)
nothing c =
    let a = c.args in
    none-wrote (bits_of a.label.now) (as_nodes a.leaves.now) a.out.now a.at (nodes-length a.leaves.now ∙ eqb-true (length a.leaves.now) 0 (sym c.is_empty.ensures ∙ c.if-is_empty.true)) c.requires.4

pub bounds-out-at : goal.bounds-out-at
bounds-out-at c = (nothing (goal.at.bounds-out-at c).Then-is_empty).0

pub returns-then-is_empty : goal.returns-then-is_empty
returns-then-is_empty c = rw c.number.ensures (nothing (goal.at.returns-then-is_empty c).Then-is_empty).1

pub write_below-requires : goal.write_below-requires
write_below-requires c =
    let row = c.args.leaves.now in
    (record { some = omega (arith, nodes-length row, eqb-false (length row) 0 (sym c.is_empty.ensures ∙ c.if-is_empty.false)); deep = omega arith; sorted = c.requires.0; range = c.requires.1 }, c.requires.2, c.requires.4)
