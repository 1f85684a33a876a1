-- `labels::label`: the three parts are the front of the array, behind its first byte.
use borrow.Author.Rules.{rules}
use native.Mathlib.Omega.{arith}
use mathlib.Core.Path.{sym, ap, ◌∙◌}
use mathlib.Core.List.{[], ◌∷◌}
use Prim.Native.Nat.{◌+◌}
use lib.ListN.{length}
use lib.Seq.{length-take-le}
use Rattle.fips.specs.Sha256.{sha256}
use Rattle.paper.specs.Bytes.{be}
use Rattle.paper.specs.Strings.{label_string}
use Rattle.paper.proofs.Bytes.{be-length}
use Rattle.ranges.proofs.Row.{Parts, row-front}
use Rattle.labels.proofs.label.Goals as goal

pub slice_bounds-sha256-end : goal.slice_bounds-sha256-end
slice_bounds-sha256-end c = sym (length-take-le _ _ (search rules))

pub returns : goal.returns
unfolding label_string
returns c =
    let a = c.args in
    let parts : Parts = (1, a.kind ∷ []) ∷ (2, be 2 a.number) ∷ (4, a.name.now) ∷ [] in
    let e = be-length 2 a.number in
    c.sha256.ensures ∙ ap sha256 (rw (c.put-2.ensures, c.write16.ensures, c.put.ensures) (row-front 68 0x04 parts (4 + length a.name.now) (search rules) (omega arith)))
