use mathlib.Core.Path.{◌≡◌}
use Prim.Native.Nat.{◌-◌, ◌≤◌}
use lib.ListN.{length}
use lib.Seq.{paste}
use Rattle.front.proofs.keys.lay_key.Given as goal

abbrev pub invariant-loop-i : goal.invariant-loop-i
invariant-loop-i l = (l.i ≤ length l.key) × (l.i-end ≡ length l.key) × (length l.out ≡ length l.initial.out) × (l.out ≡ paste l.initial.out l.at l.key l.i)

abbrev pub decreases-loop-i : goal.decreases-loop-i
decreases-loop-i l = length l.key - l.i
