-- `line::accepted`: the words and numbers of the line, one behind the other, and never over 64 bytes.
use native.Mathlib.Omega.{arith}
use mathlib.Core.Path.{ap, ◌∙◌}
use Prim.Native.Nat.{◌≤◌}
use Rattle.paper.specs.Program.{version_word, decimal, epoch_word, digests_word}
use Rattle.line.specs.Written.{behind}
use Rattle.line.proofs.Digits.{decimal-short}
use Rattle.line.proofs.Texts.{behind-most, accepted-is}
use Rattle.line.proofs.accepted.Goals as goal
use Rattle.line.proofs.accepted.Goals.{After-word, After-decimal, After-word-2, After-decimal-2, After-word-3, After-decimal-3}

first : (c : After-word) → c.word.result.length ≤ 8
first c = behind-most c.new.result c.word.result version_word 0 8 c.word.ensures (omega (arith, ap (λ t. t.length) c.new.ensures)) (omega arith)

second : (c : After-decimal) → c.decimal.result.length ≤ 18
second c =
    let n = c.args.version in
    behind-most c.word.result c.decimal.result (decimal n) 8 10 c.decimal.ensures (first (goal.at.After-decimal c).After-word) (decimal-short n)

third : (c : After-word-2) → c.word-2.result.length ≤ 25
third c = behind-most c.decimal.result c.word-2.result epoch_word 18 7 c.word-2.ensures (second (goal.at.After-word-2 c).After-decimal) (omega arith)

fourth : (c : After-decimal-2) → c.decimal-2.result.length ≤ 35
fourth c =
    let n = c.args.epoch in
    behind-most c.word-2.result c.decimal-2.result (decimal n) 25 10 c.decimal-2.ensures (third (goal.at.After-decimal-2 c).After-word-2) (decimal-short n)

fifth : (c : After-word-3) → c.word-3.result.length ≤ 44
fifth c = behind-most c.decimal-2.result c.word-3.result digests_word 35 9 c.word-3.ensures (fourth (goal.at.After-word-3 c).After-decimal-2) (omega arith)

sixth : (c : After-decimal-3) → c.decimal-3.result.length ≤ 54
sixth c =
    let n = c.args.digests in
    behind-most c.word-3.result c.decimal-3.result (decimal n) 44 10 c.decimal-3.ensures (fifth (goal.at.After-decimal-3 c).After-word-3) (decimal-short n)

pub decimal-requires : goal.decimal-requires
decimal-requires c = omega (arith, first c, decimal-short c.args.version)

pub word-requires-2 : goal.word-requires-2
word-requires-2 c = omega (arith, second (goal.at.word-requires-2 c).After-decimal)

pub decimal-requires-2 : goal.decimal-requires-2
decimal-requires-2 c = omega (arith, third c, decimal-short c.args.epoch)

pub word-requires-3 : goal.word-requires-3
word-requires-3 c = omega (arith, fourth (goal.at.word-requires-3 c).After-decimal-2)

pub decimal-requires-3 : goal.decimal-requires-3
decimal-requires-3 c = omega (arith, fifth c, decimal-short c.args.digests)

pub word-requires-4 : goal.word-requires-4
word-requires-4 c = omega (arith, sixth (goal.at.word-requires-4 c).After-decimal-3)

pub returns : goal.returns
returns c =
    accepted-is c.args.version c.args.epoch c.args.digests _ _ _ _ _ _ _ (c.word.ensures ∙ ap (λ t. behind t version_word) c.new.ensures)
    c.decimal.ensures c.word-2.ensures c.decimal-2.ensures c.word-3.ensures c.decimal-3.ensures c.word-4.ensures
