-- `heads::head`: the four parts fill the array behind its first byte.
use native.Mathlib.Omega.{arith}
use mathlib.Core.Path.{ap, ◌∙◌}
use mathlib.Core.List.{[], ◌∷◌}
use Rattle.fips.specs.Sha256.{sha256}
use Rattle.paper.specs.Bytes.{be}
use Rattle.paper.specs.Strings.{head_string, head_bytes}
use Rattle.paper.proofs.Bytes.{be-length}
use Rattle.ranges.proofs.Row.{Parts, row-all}
use Rattle.heads.proofs.head.Goals as goal

pub returns : goal.returns
unfolding head_string head_bytes
returns c =
    let a = c.args in
    let parts : Parts = (1, be 4 a.epoch) ∷ (5, a.previous.now) ∷ (37, a.all.now) ∷ (69, a.old.now) ∷ [] in
    let e = be-length 4 a.epoch in
    c.sha256.ensures ∙ ap sha256 (rw (c.put-3.ensures, c.put-2.ensures, c.put.ensures, c.write32.ensures) (row-all 0x03 parts 101 (omega arith)))
