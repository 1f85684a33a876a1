-- `nodes::inner`: the four parts fill the array behind its first byte.
use native.Mathlib.Omega.{arith}
use mathlib.Core.Path.{ap, ◌∙◌}
use mathlib.Core.List.{[], ◌∷◌}
use Rattle.fips.specs.Sha256.{sha256}
use Rattle.paper.specs.Bytes.{be}
use Rattle.paper.specs.Strings.{inner_string}
use Rattle.paper.proofs.Bytes.{be-length}
use Rattle.ranges.proofs.Row.{Parts, row-all}
use Rattle.nodes.proofs.inner.Goals as goal

pub returns : goal.returns
unfolding inner_string
returns c =
    let a = c.args in
    let parts : Parts = (1, be 2 a.length) ∷ (3, a.prefix.now) ∷ (35, a.left.now) ∷ (67, a.right.now) ∷ [] in
    let e = be-length 2 a.length in
    c.sha256.ensures ∙ ap sha256 (rw (c.put-3.ensures, c.put-2.ensures, c.put.ensures, c.write16.ensures) (row-all 0x01 parts 99 (omega arith)))
