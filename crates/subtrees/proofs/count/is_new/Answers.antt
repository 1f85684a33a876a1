-- `subtrees::is_new`: the leaf's epoch tells.
use mathlib.Core.Path.{ap, ◌∙◌, sym}
use Rattle.std.proofs.Common.{nat_eq}
use Rattle.subtrees.proofs.News.{leaf-new}
use Rattle.subtrees.proofs.count.is_new.Goals as goal

pub returns : goal.returns
returns c = ap (λ n. nat_eq n c.args.epoch) c.read32.ensures ∙ sym (leaf-new c.args.epoch c.args.leaf.now)
