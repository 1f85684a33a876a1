-- `names::is_name`: the length's test and each byte's are the definition's.
use Rattle.std.proofs.Common.{◌<◌, ◌≤◌, ◌⊎◌, length, rules, tests, sym, ◌∙◌, arith}
use Rattle.std.proofs.lemmas.Iterator.{YieldsList-from_slice}
use Rattle.std.proofs.lemmas.Iterator.Search.{all_from_yields_List}
use Rattle.ranges.proofs.Compare.{every-list_all}
use Rattle.names.proofs.Named.{printed, name-sized, name-unsized}
use Rattle.names.proofs.is_name.Goals as goal

pub returns-then-contains : goal.returns-then-contains
returns-then-contains c =
    let s = c.args.name.now in
    let low : 1 ≤ length s = grind (arith, tests) in
    let high : length s ≤ 64 = grind (arith, tests) in
    all_from_yields_List printed _ _ c.all.result c.all.ensures.ran (YieldsList-from_slice s cc) (λ x b q k. search (rules, tests)) ∙ every-list_all printed s ∙ sym (name-sized s low high)

pub returns-else-contains : goal.returns-else-contains
returns-else-contains c =
    let s = c.args.name.now in
    let e : (length s < 1) ⊎ (64 < length s) = grind (arith, tests) in
    c.if-contains.false ∙ sym (name-unsized s e)
