use Rattle.std.proofs.Common.{◌≡◌, drop}
use mathlib.Core.List.{foldl}
use Rattle.fips.specs.Sha256 as S
use Rattle.sha256.proofs.blocks.blocks.Given as goal

abbrev pub invariant-loop-block : goal.invariant-loop-block
invariant-loop-block l = foldl S.compress l.r (drop l.block-index l.block-items) ≡ foldl S.compress l.fn.s l.block-items
