-- `path::root::step_up`: the parts that are read and cut are those of the step's node.
use borrow.Author.Rules.{rules}
use mathlib.Core.Path.{◌≡◌, ◌∙◌}
use lib.ListN.{length}
use Rattle.path.proofs.Climb.{step-digest}
use Rattle.path.proofs.root.step_up.Goals as goal
use Rattle.path.proofs.root.step_up.Goals.{Start}

size : (c : Start) → length c.args.label ≡ 32
size c = search rules

pub returns : goal.returns
returns c =
    c.join.ensures
    ∙ step-digest c.args.label c.args.s.now c.args.at c.args.below.now c.read16-length.result c.prefix_of-prefix.result c.digest_at-sibling.result c.label_bit.result
    (size (goal.at.returns c).Start) c.requires c.read16-length.ensures c.prefix_of-prefix.ensures c.digest_at-sibling.ensures c.label_bit.ensures
