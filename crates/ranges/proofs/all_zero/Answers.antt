-- `ranges::all_zero`: `all` asks each byte.
use Rattle.std.proofs.Common.{eqb, rules, tests, ◌∙◌}
use Rattle.std.proofs.lemmas.Iterator.{YieldsList-from_slice}
use Rattle.std.proofs.lemmas.Iterator.Search.{all_from_yields_List}
use Rattle.ranges.proofs.Compare.{every-list_all}
use Rattle.ranges.proofs.all_zero.Goals as goal

pub returns : goal.returns
returns c =
    let s = c.args.s.now in
    all_from_yields_List (λ b. eqb b 0) _ _ c.all.result c.all.ensures.ran (YieldsList-from_slice s cc) (λ x b q k. search (rules, tests)) ∙ every-list_all (λ b. eqb b 0) s
