-- `path_fields::write_node`: kind, prefix length, prefix and the two digests, one right behind the other.
use native.Mathlib.Omega.{arith}
use mathlib.Core.Path.{sym, ap, ap₂, ◌∙◌}
use mathlib.Core.List.{◌++◌}
use Prim.Native.Nat.{◌+◌}
use lib.ListN.{length, take, set, length-set, length-append}
use Rattle.paper.specs.Numbers.{wide}
use Rattle.paper.specs.Bytes.{be, pasted}
use Rattle.paper.specs.Bits.{bits_of, pack}
use Rattle.paper.proofs.Bytes.{be-length, pack-length}
use Rattle.paper.proofs.Pasted.{pasted-pasted}
use Rattle.tree_path.proofs.Ways.{prefix-size}
use Rattle.path_fields.proofs.Writing.{record-wrote}
use Rattle.path_fields.proofs.write_node.Goals as goal

pub returns : goal.returns
returns c =
    let a = c.args in
    let x = a.children.now.left in
    let y = a.children.now.right in
    let p = take a.k (bits_of (take 32 a.leaf.now)) in
    let e = c.prefix_of.ensures ∙ ap (λ x. pack 32 (take a.k (bits_of x))) c.label_of.ensures.bytes in
    let n = prefix-size a.leaf.now a.k (omega (arith, c.told-leaf)) (omega (arith, c.requires.0)) in
    let both = c.put-3.ensures ∙ ap₂ (λ o i. pasted o i y) c.put-2.ensures (omega arith) ∙ pasted-pasted c.put.new.dst (a.at + 35) x y (omega (arith, c.put.auto.dst, c.write16.auto.dst, length-set a.out.now a.at a.kind, c.requires.1)) in
    record-wrote a.out.now _ _ _ (be 2 (length p)) (pack wide p) (x ++ y) a.at a.kind (a.at + 35) c.requires.1 (be-length 2 (length p)) (omega (arith, pack-length wide p)) (omega (arith, pack-length wide p, length-append x y))
    (c.write16.ensures ∙ ap (λ i. pasted (set a.out.now a.at a.kind) (a.at + 1) (be 2 i)) (sym n))
    (c.put.ensures ∙ ap (pasted c.write16.new.dst (a.at + 3)) e)
    both
