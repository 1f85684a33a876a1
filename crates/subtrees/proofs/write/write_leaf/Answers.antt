-- `subtrees::write_leaf`: kind, length, the leaf's bytes and the filling, one right behind the other.
use mathlib.Core.Path.{refl}
use Rattle.tree.proofs.Rising.{all-at}
use Rattle.subtrees.proofs.Records.{leaf-wrote}
use Rattle.subtrees.proofs.write.write_leaf.Goals as goal

pub returns : goal.returns
returns c =
    let a = c.args in
    leaf-wrote a.out.now _ _ _ _ a.leaf.now a.at _ a.epoch c.requires c.told-leaf (all-at _ a.leaf.now 0 (λ i h. c.fits-leaf i))
    c.kind_of.ensures refl c.write16.ensures c.put.ensures c.put-2.ensures
