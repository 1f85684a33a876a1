-- `tree_path::leaf_way`: the end is this leaf or another one.
use mathlib.Core.Path.{sym, ◌∙◌}
use mathlib.Core.Bool.{true, false}
use Rattle.paper.specs.Bits.{bits_of}
use Rattle.tree_path.proofs.Ways.{leaf-way}
use Rattle.tree_path.proofs.leaf_way.Goals as goal

pub returns-then-is_label : goal.returns-then-is_label
returns-then-is_label c =
    c.ended.ensures ∙ sym (leaf-way (bits_of c.args.label.now) c.args.leaf.now true (sym c.is_label.ensures ∙ c.if-is_label.true))

pub returns : goal.returns
returns c =
    c.ended-2.ensures ∙ sym (leaf-way (bits_of c.args.label.now) c.args.leaf.now false (sym c.is_label.ensures ∙ c.if-is_label.false))
