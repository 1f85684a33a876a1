-- `subtrees::has_new`: one of the row is new.
use borrow.Author.Rules.{rules}
use borrow.Author.Tests.{tests}
use mathlib.Core.Path.{◌∙◌}
use Rattle.std.proofs.lemmas.Iterator.{YieldsList-from_slice}
use Rattle.std.proofs.lemmas.Iterator.Search.{any_from_yields_List}
use Rattle.paper.specs.Level.{entry_leaf}
use Rattle.subtrees.proofs.News.{new, row-new}
use Rattle.subtrees.proofs.count.has_new.Goals as goal

pub returns : goal.returns
returns c =
    let a = c.args in
    any_from_yields_List (λ e. new a.epoch (entry_leaf e)) _ _ c.any.result c.any.ensures.ran (YieldsList-from_slice a.leaves.now (cc)) (λ x b q k. search (rules, tests)) ∙ row-new a.epoch a.leaves.now
