-- `line::refused`: the word and the number of the line.
use native.Mathlib.Omega.{arith}
use mathlib.Core.Path.{ap, ◌∙◌}
use Prim.Native.Nat.{◌≤◌}
use Rattle.paper.specs.Program.{decimal, refused_word}
use Rattle.line.specs.Written.{behind}
use Rattle.line.proofs.Digits.{decimal-short}
use Rattle.line.proofs.Texts.{behind-most, refused-is}
use Rattle.line.proofs.refused.Goals as goal
use Rattle.line.proofs.refused.Goals.{After-word, After-decimal}

first : (c : After-word) → c.word.result.length ≤ 8
first c = behind-most c.new.result c.word.result refused_word 0 8 c.word.ensures (omega (arith, ap (λ t. t.length) c.new.ensures)) (omega arith)

second : (c : After-decimal) → c.decimal.result.length ≤ 18
second c =
    let n = c.number.result in
    behind-most c.word.result c.decimal.result (decimal n) 8 10 c.decimal.ensures (first (goal.at.After-decimal c).After-word) (decimal-short n)

pub decimal-requires : goal.decimal-requires
decimal-requires c = omega (arith, first (goal.at.decimal-requires c).After-word, decimal-short c.number.result)

pub word-requires-2 : goal.word-requires-2
word-requires-2 c = omega (arith, second (goal.at.word-requires-2 c).After-decimal)

pub returns : goal.returns
returns c =
    refused-is c.args.refusal _ _ _ (c.word.ensures ∙ ap (λ t. behind t refused_word) c.new.ensures)
    (c.decimal.ensures ∙ ap (λ n. behind c.word.result (decimal n)) c.number.ensures) c.word-2.ensures
