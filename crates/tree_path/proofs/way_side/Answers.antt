-- `tree_path::way_side`: nothing, or the way below the root.
use native.Mathlib.Omega.{arith}
use mathlib.Core.Path.{sym, ap, ◌∙◌}
use lib.ListN.{length}
use borrow.Author.Tests.{eqb-true, eqb-false}
use Rattle.paper.specs.Bits.{bits_of}
use Rattle.leaf_row.specs.Row.{as_nodes}
use Rattle.leaf_row.proofs.Rows.{nodes-length}
use Rattle.tree.proofs.Leaves.{bare}
use Rattle.tree_path.specs.Measured.{way_of}
use Rattle.tree_path.proofs.Ways.{none-way}
use Rattle.tree_path.proofs.way_side.Goals as goal

pub returns-then-is_empty : goal.returns-then-is_empty
returns-then-is_empty c =
    let row = c.args.leaves.now in
    let L = bits_of c.args.label.now in
    c.ended.ensures ∙ sym (ap (way_of L) (bare (as_nodes row) (nodes-length row ∙ eqb-true (length row) 0 (sym c.is_empty.ensures ∙ c.if-is_empty.true))) ∙ none-way L)

pub way_below-requires : goal.way_below-requires
way_below-requires c =
    let row = c.args.leaves.now in
    record { some = omega (arith, nodes-length row, eqb-false (length row) 0 (sym c.is_empty.ensures ∙ c.if-is_empty.false)); deep = omega arith; sorted = c.requires.0; range = c.requires.1 }
