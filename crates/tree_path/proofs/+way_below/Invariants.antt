use Prim.Native.Nat.{◌-◌}
use Rattle.tree_path.proofs.+way_below.Given as goal

abbrev pub decreases-way_below : goal.decreases-way_below
decreases-way_below l = 256 - l.from
