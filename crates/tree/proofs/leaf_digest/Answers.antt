-- `tree::leaf_digest`: the parts of the string are the parts of the 68 bytes.
use native.Mathlib.Omega.{arith}
use mathlib.Core.Path.{◌∙◌}
use Rattle.fips.specs.Sha256.{sha256}
use Rattle.paper.specs.Strings.{leaf_string}
use Rattle.tree.proofs.Leaves.{leaf-string}
use Rattle.tree.proofs.Rising.{all-at}
use Rattle.tree.proofs.leaf_digest.Goals as goal

pub returns : goal.returns
returns c =
    let s = c.args.one.now in
    let x = c.digest_at-label.ensures in
    let y = c.digest_at-commitment.ensures in
    let n = c.read32.ensures in
    c.leaf.ensures ∙ (λ i. sha256 (leaf_string (x i) (y i) (n i))) ∙ leaf-string s (omega (arith, c.told-one)) (all-at _ s 0 (λ i h. c.fits-one i))
