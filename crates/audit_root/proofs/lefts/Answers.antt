-- `audit_root::lefts`: the first record that goes right ends those that go left.
use borrow.Author.Rules.{rules}
use borrow.Author.Tests.{tests}
use mathlib.Core.Path.{ap, ◌∙◌}
use lib.ListN.{length}
use Rattle.std.specs.Option.{unwrap_or}
use Rattle.std.proofs.lemmas.Iterator.{YieldsList-from_slice}
use Rattle.std.proofs.lemmas.Iterator.Search.{position_from_yields_List}
use Rattle.audit_root.proofs.Cutting.{lefts-found}
use Rattle.audit_root.specs.Built.{bit_of}
use Rattle.audit_root.proofs.lefts.Goals as goal

pub returns : goal.returns
returns c =
    let a = c.args in
    let p = position_from_yields_List (bit_of a.k) _ _ c.position.result c.position.ensures.ran (YieldsList-from_slice a.rows.now (cc)) (λ x b q k. search (rules, tests)) in
    c.unwrap_or.ensures ∙ ap (λ o. unwrap_or o (length a.rows.now)) p ∙ lefts-found a.k a.rows.now
