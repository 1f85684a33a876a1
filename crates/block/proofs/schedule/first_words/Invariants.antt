use Rattle.std.proofs.Common.{◌≡◌, ◌≤◌, length, take}
use Rattle.fips.specs.Sha256 as S
use Rattle.block.proofs.schedule.first_words.Given as goal

abbrev pub invariant-loop-t : goal.invariant-loop-t
invariant-loop-t l = (l.t ≤ 16) × (length l.w ≡ 64) × (take l.t l.w ≡ S.schedule l.b l.t)
