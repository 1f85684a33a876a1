use Rattle.std.proofs.Common.{◌≡◌, ◌-◌, ◌≤◌, length, take}
use Rattle.fips.specs.Sha256 as S
use Rattle.block.proofs.schedule.schedule.Given as goal

abbrev pub invariant-loop-t : goal.invariant-loop-t
invariant-loop-t l = (16 ≤ l.t) × (l.t ≤ 64) × (length l.w ≡ 64) × (take l.t l.w ≡ S.schedule l.b l.t)

abbrev pub decreases-loop-t : goal.decreases-loop-t
decreases-loop-t l = 64 - l.t
