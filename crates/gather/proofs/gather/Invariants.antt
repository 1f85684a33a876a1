use mathlib.Core.Path.{◌≡◌}
use Prim.Native.Nat.{◌+◌, ◌-◌, ◌*◌, ◌≤◌}
use lib.ListN.{length}
use Rattle.record.specs.Places.{records_in}
use Rattle.gather.specs.Gathered.{leaves_by, Gained}
use Rattle.gather.proofs.gather.Given as goal

abbrev pub invariant-loop-i : goal.invariant-loop-i
invariant-loop-i l = (l.i ≤ l.count) × (length l.row ≡ length l.initial.row) × (l.m ≤ l.n + 2 * l.i) × Gained l.initial.row l.row l.n l.m (leaves_by l.which l.epoch (records_in l.i l.records))

abbrev pub decreases-loop-i : goal.decreases-loop-i
decreases-loop-i l = l.count - l.i
