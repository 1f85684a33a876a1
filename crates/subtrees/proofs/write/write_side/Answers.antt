-- `subtrees::write_side`: no record, or those below the root; its slots come before the spare one.
use mathlib.Core.Path.{sym, ◌∙◌}
use lib.ListN.{length}
use borrow.Author.Tests.{eqb-true}
use Rattle.leaf_row.specs.Row.{as_nodes}
use Rattle.leaf_row.proofs.Rows.{nodes-length}
use Rattle.subtrees.proofs.Records.{none-bytes, wrote_none}
use Rattle.subtrees.proofs.write.write_side.Goals as goal

pub returns-then-is_empty : goal.returns-then-is_empty
returns-then-is_empty c =
    let row = c.args.leaves.now in
    wrote_none c.args.out.now _ c.args.at (none-bytes c.args.epoch (as_nodes row) (nodes-length row ∙ eqb-true (length row) 0 (sym c.is_empty.ensures ∙ c.if-is_empty.true)))
