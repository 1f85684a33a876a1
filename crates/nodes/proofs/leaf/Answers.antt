-- `nodes::leaf`: the three parts fill the array behind its first byte.
use native.Mathlib.Omega.{arith}
use mathlib.Core.Path.{ap, ◌∙◌}
use mathlib.Core.List.{[], ◌∷◌}
use Rattle.fips.specs.Sha256.{sha256}
use Rattle.paper.specs.Bytes.{be}
use Rattle.paper.specs.Strings.{leaf_string}
use Rattle.paper.proofs.Bytes.{be-length}
use Rattle.ranges.proofs.Row.{Parts, row-all}
use Rattle.nodes.proofs.leaf.Goals as goal

pub returns : goal.returns
unfolding leaf_string
returns c =
    let a = c.args in
    let parts : Parts = (1, a.label.now) ∷ (33, a.commitment.now) ∷ (65, be 4 a.epoch) ∷ [] in
    let e = be-length 4 a.epoch in
    c.sha256.ensures ∙ ap sha256 (rw (c.write32.ensures, c.put-2.ensures, c.put.ensures) (row-all 0x00 parts 69 (omega arith)))
