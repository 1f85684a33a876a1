-- `own::versions_by`: the numbers of the name's records are as many as its versions.
use borrow.Author.Rules.{rules}
use borrow.Author.Tests.{tests}
use native.Mathlib.Omega.{arith}
use mathlib.Core.Path.{◌∙◌}
use Rattle.std.proofs.lemmas.Iterator.{YieldsList-from_range}
use Rattle.std.proofs.lemmas.Iterator.Consumers.{YieldsList-from_filter, count_from_yields_List}
use Rattle.own.specs.Own.{own_by}
use Rattle.own.proofs.Versions.{versions-counted}
use Rattle.own.proofs.versions_by.Goals as goal

pub returns : goal.returns
returns c =
    let a = c.args in
    let n = a.count in
    count_from_yields_List _ c.count.result c.count.ensures.ran
    (YieldsList-from_filter _ (own_by a.records.now a.name.now a.epoch) (YieldsList-from_range 0 n n c.filter.ensures.source (omega arith)) c.filter.ensures.closure (λ x b q k. search (rules, tests)))
    ∙ versions-counted a.records.now a.name.now a.epoch n
