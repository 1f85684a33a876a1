-- `line::Text::decimal`: the library's digits are those of the number.
use Rattle.std.proofs.Common.{◌≡◌, length, take, ap, ◌∙◌, arith}
use Rattle.paper.specs.Program as P
use Rattle.line.specs.Written.{behind}
use Rattle.line.proofs.Digits.{all-digits}
use Rattle.line.proofs.Text.decimal.Goals as goal
use Rattle.line.proofs.Text.decimal.Goals.{After-decimal-k}

spelt : (c : After-decimal-k) → take c.decimal-k.result c.decimal-k.new.out ≡ P.decimal c.args.n
spelt c = c.decimal-k.ensures.digits ∙ all-digits c.args.n c.decimal-k.result (omega arith) c.decimal-k.ensures.len

pub word-requires : goal.word-requires
word-requires c = omega (arith, ap length (spelt (goal.at.word-requires c).After-decimal-k), c.requires)

pub returns : goal.returns
returns c = c.word.ensures ∙ ap (behind c.args.self) (spelt (goal.at.returns c).After-decimal-k)
