use Rattle.std.proofs.Common.{◌≡◌, ◌*◌, ◌≤◌}
use Rattle.fips.specs.Sha256 as S
use Rattle.block.proofs.rounds.compress.Given as goal

abbrev pub invariant-loop-turn : goal.invariant-loop-turn
invariant-loop-turn l = (l.turn ≤ 8) × (l.r ≡ S.rounds l.w l.s (8 * l.turn))
