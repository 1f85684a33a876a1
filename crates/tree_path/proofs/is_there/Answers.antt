-- `tree_path::is_there`: the end is this leaf exactly where the label is there.
use mathlib.Core.Path.{sym, ap, ◌∙◌}
use Rattle.leaf_row.specs.Row.{as_nodes}
use Rattle.tree_path.proofs.There.{is_this, label-there, this-not}
use Rattle.tree_path.proofs.is_there.Goals as goal

pub returns-in-This : goal.returns-in-This
returns-in-This c =
    sym (ap is_this c.in-This.is) ∙ ap (λ v. is_this v.kind) c.way_of.ensures ∙ label-there (as_nodes c.args.leaves.now) c.args.label.now (record { sized = c.are_leaves.ensures; rises = c.requires }) c.told-label

pub returns-in_default : goal.returns-in_default
returns-in_default c =
    sym (this-not c.way_of.result.kind c.in_default.not-This) ∙ ap (λ v. is_this v.kind) c.way_of.ensures ∙ label-there (as_nodes c.args.leaves.now) c.args.label.now (record { sized = c.are_leaves.ensures; rises = c.requires }) c.told-label
