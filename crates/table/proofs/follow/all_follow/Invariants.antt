use mathlib.Core.Path.{◌≡◌}
use Prim.Native.Nat.{◌≤◌}
use Rattle.table.specs.Index.{Indexed, Unlinked}
use Rattle.table.proofs.Shapes.{Passed}
use Rattle.table.proofs.follow.all_follow.Given as goal

abbrev pub invariant-loop-i : goal.invariant-loop-i
invariant-loop-i l = (l.i ≤ l.n) × Indexed l.s l.i l.index × Passed l.s l.i l.epoch × Unlinked l.i l.index × (l.index.records.now ≡ l.s) × (l.index.count ≡ l.i)
