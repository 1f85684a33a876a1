use mathlib.Core.Path.{◌≡◌}
use mathlib.Core.Bool.{true}
use Prim.Native.Nat.{◌*◌, ◌≤◌}
use lib.ListN.{length, take}
use Rattle.paper.specs.Lists.{every}
use Rattle.plan.specs.Asked.{asked_of}
use Rattle.paths.specs.Paths.{free_for, path_bytes, all_of, old_of}
use Rattle.paths.proofs.sizes.measure_paths.Given as goal

abbrev pub invariant-loop-i : goal.invariant-loop-i
invariant-loop-i l = record {
  bound : l.sum ≤ l.i * 8805;
  free : every (free_for l.name (all_of l.trees) (old_of l.trees)) (take l.i (asked_of l.plan)) ≡ true;
  sizes : l.sum ≡ length (path_bytes l.name (all_of l.trees) (old_of l.trees) (take l.i (asked_of l.plan)));
}
