-- Invariants: no loop has gone past an end, and the bits before the place agree. Assumes nothing.
use Prim.Native.Nat.{◌+◌, ◌-◌, ◌*◌, ◌≤◌}
use lib.ListN.{length}
use Rattle.paper.specs.Bits.{bits_of}
use Rattle.bits.proofs.Lcp.{Agree}
use Rattle.bits.proofs.label.first_difference.Given as goal

abbrev pub invariant-loop-k : goal.invariant-loop-k
invariant-loop-k l = (l.k ≤ 8) × Agree (bits_of l.a) (bits_of l.b) (l.i * 8 + l.k)

abbrev pub invariant-bytes : goal.invariant-bytes
invariant-bytes l = (l.i ≤ 32) × (l.i ≤ length l.a) × (l.i ≤ length l.b) × Agree (bits_of l.a) (bits_of l.b) (l.i * 8)

abbrev pub decreases-bytes : goal.decreases-bytes
decreases-bytes l = 32 - l.i
