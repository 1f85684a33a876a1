-- `tree::fork_digest`: the prefix is the first k bits of the label, of which there are 256.
use native.Mathlib.Omega.{arith}
use mathlib.Core.Path.{◌≡◌, sym, ap, ◌∙◌}
use lib.ListN.{length, take}
use lib.Seq.{length-take-le}
use Rattle.fips.specs.Sha256.{sha256}
use Rattle.paper.specs.Bits.{bits_of, pack}
use Rattle.paper.specs.Strings.{inner_string}
use Rattle.paper.proofs.Bytes.{bits_of-length}
use Rattle.tree.proofs.fork_digest.Goals as goal

pub returns : goal.returns
returns c =
    let a = c.args in
    let p = take a.k (bits_of (take 32 a.one.now)) in
    let x = c.prefix_of.ensures ∙ ap (λ l. pack 32 (take a.k (bits_of l))) c.label_of.ensures.bytes in
    let n : a.k ≡ length p = sym (length-take-le a.k (bits_of (take 32 a.one.now)) (omega (arith, c.requires, bits_of-length (take 32 a.one.now), length-take-le 32 a.one.now (omega (arith, c.told-one))))) in
    c.inner.ensures ∙ (λ i. sha256 (inner_string (n i) (x i) a.children.now.left a.children.now.right))
