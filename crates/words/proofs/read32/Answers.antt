-- `words::read32`: the bytes are those from the place on.
use Rattle.std.proofs.Common.{◌∙◌, rules}
use Rattle.words.proofs.Number.{number-four}
use Rattle.words.proofs.read32.Goals as goal

pub returns : goal.returns
returns c = c.from_be_bytes.ensures ∙ number-four c.args.s.now c.args.at (search rules)
