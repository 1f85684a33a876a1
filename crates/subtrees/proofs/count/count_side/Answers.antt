-- `subtrees::count_side`: no record, or those below the root.
use native.Mathlib.Omega.{arith}
use mathlib.Core.Path.{sym, ap, ◌∙◌}
use lib.ListN.{length}
use borrow.Author.Tests.{eqb-true, eqb-false}
use Rattle.leaf_row.specs.Row.{as_nodes}
use Rattle.leaf_row.proofs.Rows.{nodes-length}
use Rattle.subtrees.proofs.News.{no-trees}
use Rattle.subtrees.proofs.count.count_side.Goals as goal

pub returns-then-is_empty : goal.returns-then-is_empty
returns-then-is_empty c =
    let row = c.args.leaves.now in
    sym (ap length (no-trees c.args.epoch (as_nodes row) (nodes-length row ∙ eqb-true (length row) 0 (sym c.is_empty.ensures ∙ c.if-is_empty.true))))

pub count_below-requires : goal.count_below-requires
count_below-requires c =
    let row = c.args.leaves.now in
    record { some = omega (arith, nodes-length row, eqb-false (length row) 0 (sym c.is_empty.ensures ∙ c.if-is_empty.false)); deep = omega arith; sorted = c.requires.0; range = c.requires.1 }
