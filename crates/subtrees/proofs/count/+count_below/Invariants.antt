use Prim.Native.Nat.{◌-◌}
use Rattle.subtrees.proofs.count.+count_below.Given as goal

abbrev pub decreases-count_below : goal.decreases-count_below
decreases-count_below l = 256 - l.from
