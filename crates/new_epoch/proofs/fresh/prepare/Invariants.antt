use mathlib.Core.Path.{◌≡◌}
use Prim.Native.Nat.{◌-◌, ◌≤◌}
use lib.ListN.{length}
use Rattle.new_epoch.proofs.Prepared.{Begun}
use Rattle.new_epoch.proofs.fresh.prepare.Given as goal

abbrev pub invariant-loop-i : goal.invariant-loop-i
invariant-loop-i l = (l.i ≤ l.n) × (length l.fresh ≡ length l.initial.fresh) × Begun l.index.records.now l.index.count l.epoch l.batch l.i l.initial.fresh l.fresh

abbrev pub decreases-loop-i : goal.decreases-loop-i
decreases-loop-i l = l.n - l.i
