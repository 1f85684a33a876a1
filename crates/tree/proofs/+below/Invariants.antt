use Prim.Native.Nat.{◌-◌}
use Rattle.tree.proofs.+below.Given as goal

abbrev pub decreases-below : goal.decreases-below
decreases-below l = 256 - l.from
