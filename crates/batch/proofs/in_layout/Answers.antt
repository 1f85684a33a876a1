-- `batch::in_layout`: each update is in layout.
use borrow.Author.Rules.{rules}
use borrow.Author.Tests.{tests}
use native.Mathlib.Omega.{arith}
use mathlib.Core.Path.{refl, ◌∙◌}
use Rattle.std.proofs.lemmas.Iterator.{YieldsList-from_range}
use Rattle.std.proofs.lemmas.Iterator.Search.{all_from_yields_List}
use Rattle.ranges.proofs.Slices.{bytewise}
use Rattle.batch.proofs.Form.{formed}
use Rattle.batch.proofs.Counted.{all-formed}
use Rattle.batch.proofs.in_layout.Goals as goal

pub returns : goal.returns
returns c =
    let s = c.args.s.now in
    let n = c.args.n in
    all_from_yields_List (formed s) _ _ c.all.result c.all.ensures.ran (YieldsList-from_range 0 n n refl (omega arith)) (λ x b q k. search (rules, tests))
    ∙ all-formed s n (bytewise s c.type_inv.s) c.requires
