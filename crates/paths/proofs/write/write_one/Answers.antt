-- `paths::write::write_one`: the place says which tree.
use mathlib.Core.Path.{sym, ap, ◌∙◌, subst}
use Rattle.leaf_row.specs.Row.{as_nodes}
use Rattle.tree.specs.Stored.{Lent}
use Rattle.paths.specs.Paths.{all_of, old_of}
use Rattle.paths.proofs.Asked.{tree-lent, tree-leaves, wrote-in, room_in}
use Rattle.paths.proofs.write.write_one.Goals as goal

pub write_path-requires : goal.write_path-requires
write_path-requires c =
    let a = c.args in (
      subst Lent (sym c.tree_of.ensures) (tree-lent a.trees.now a.name.now a.asked.place c.requires.0),
      room_in a.name.now (all_of a.trees.now) (old_of a.trees.now) a.asked c.label-label.result _ c.label-label.ensures (ap (λ t. as_nodes t.leaves.now) c.tree_of.ensures ∙ tree-leaves a.trees.now a.name.now a.asked.place) a.out.now a.at c.requires.1,
    )

pub returns : goal.returns
returns c =
    let a = c.args in
    wrote-in a.name.now (all_of a.trees.now) (old_of a.trees.now) a.asked c.label-label.result _ c.label-label.ensures (ap (λ t. as_nodes t.leaves.now) c.tree_of.ensures ∙ tree-leaves a.trees.now a.name.now a.asked.place) _ _ _ _ c.write_path.ensures
