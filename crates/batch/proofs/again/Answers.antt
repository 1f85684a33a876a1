-- `batch::again`: whether an update behind it has the name.
use borrow.Author.Rules.{rules}
use borrow.Author.Tests.{tests}
use native.Mathlib.Numerals.{add-one}
use native.Mathlib.Omega.{arith}
use mathlib.Core.Path.{refl, ap, ◌∙◌}
use Prim.Native.Nat.{◌+◌, ◌-◌}
use Rattle.std.proofs.lemmas.Iterator.{YieldsList-from_range}
use Rattle.std.proofs.lemmas.Iterator.Search.{any_from_yields_List}
use Rattle.paper.specs.Bytes.{same}
use Rattle.batch.specs.Places.{update_at, bears_from}
use Rattle.batch.proofs.Counted.{bears-any}
use Rattle.batch.proofs.again.Goals as goal

pub returns : goal.returns
returns c =
    let s = c.args.s.now in
    let n = c.args.n in
    let i = c.args.i in
    any_from_yields_List (λ j. same (update_at s j).name (update_at s i).name) _ _ c.any.result c.any.ensures.ran (YieldsList-from_range (i + 1) n (n - (i + 1)) refl refl) (λ x b q k. search (rules, tests))
    ∙ bears-any n s i (n - (i + 1)) (i + 1) (omega (arith, c.requires.0))
    ∙ ap (bears_from s n i) (add-one i)
