-- `heads::head-at`: the parts of the head are hashed as they were read.
use mathlib.Core.Path.{◌∙◌}
use Rattle.heads.proofs.head_at.Goals as goal

pub returns : goal.returns
returns c =
    c.head.ensures ∙ rw (c.read32.ensures, c.digest_at-old.ensures, c.digest_at-all.ensures, c.digest_at-previous.ensures)
