-- `paths::sizes::measure_path`: the place says which tree.
use mathlib.Core.Path.{◌≡◌, sym, ap, ◌∙◌, subst}
use mathlib.Core.Bool.{true}
use Rattle.paper.specs.Level.{rising}
use Rattle.leaf_row.specs.Row.{as_nodes}
use Rattle.paths.specs.Paths.{all_of, old_of}
use Rattle.paths.proofs.Asked.{tree-rises, tree-leaves, measured-in}
use Rattle.paths.proofs.sizes.measure_path.Goals as goal

pub measure_in-requires : goal.measure_in-requires
measure_in-requires c = let a = c.args in subst (λ t. rising (as_nodes t.leaves.now) ≡ true) (sym c.tree_of.ensures) (tree-rises a.trees.now a.name.now a.asked.place c.requires)

pub returns : goal.returns
returns c =
    let a = c.args in
    measured-in a.name.now (all_of a.trees.now) (old_of a.trees.now) a.asked c.label.result _ c.label.ensures (ap (λ t. as_nodes t.leaves.now) c.tree_of.ensures ∙ tree-leaves a.trees.now a.name.now a.asked.place) c.measure_in.result c.measure_in.ensures
