-- `batch::no_name_twice`: no update has its name again.
use borrow.Author.Rules.{rules}
use borrow.Author.Tests.{tests}
use native.Mathlib.Omega.{arith}
use mathlib.Core.Path.{refl, ap, ◌∙◌}
use mathlib.Core.Bool.{not}
use Prim.Native.Nat.{suc}
use Rattle.std.proofs.lemmas.Iterator.{YieldsList-from_range}
use Rattle.std.proofs.lemmas.Iterator.Search.{any_from_yields_List}
use Rattle.batch.specs.Places.{bears_from}
use Rattle.batch.proofs.Counted.{once-any}
use Rattle.batch.proofs.no_name_twice.Goals as goal

pub returns : goal.returns
returns c =
    let s = c.args.s.now in
    let n = c.args.n in
    ap not (any_from_yields_List (λ i. bears_from s n i (suc i)) _ _ c.any.result c.any.ensures.ran (YieldsList-from_range 0 n n refl (omega arith)) (λ x b q k. search (rules, tests)))
    ∙ once-any n s n 0 (omega arith)
