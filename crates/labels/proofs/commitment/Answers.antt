-- `labels::commitment`: the two parts are the front of the array, behind its first byte.
use borrow.Author.Rules.{rules}
use native.Mathlib.Omega.{arith}
use mathlib.Core.Path.{sym, ap, ◌∙◌}
use mathlib.Core.List.{[], ◌∷◌}
use Prim.Native.Nat.{◌+◌}
use lib.ListN.{length}
use lib.Seq.{length-take-le}
use Rattle.fips.specs.Sha256.{sha256}
use Rattle.paper.specs.Strings.{commitment_string}
use Rattle.ranges.proofs.Row.{Parts, row-front}
use Rattle.labels.proofs.commitment.Goals as goal

pub slice_bounds-sha256-end : goal.slice_bounds-sha256-end
slice_bounds-sha256-end c = sym (length-take-le _ _ (search rules))

pub returns : goal.returns
unfolding commitment_string
returns c =
    let a = c.args in
    let parts : Parts = (1, a.opening.now) ∷ (33, a.key.now) ∷ [] in
    c.sha256.ensures ∙ ap sha256 (rw (c.put-2.ensures, c.put.ensures) (row-front 97 0x05 parts (33 + length a.key.now) (search rules) (omega arith)))
