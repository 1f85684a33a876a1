use Prim.Native.Nat.{◌-◌}
use Rattle.subtrees.proofs.write.+write_below.Given as goal

abbrev pub decreases-write_below : goal.decreases-write_below
decreases-write_below l = 256 - l.from
