-- `sha256::blocks::blocks` meets its contract: the blocks still to come, after those done, are all of them. Assumes nothing.
use Rattle.std.proofs.Common.{refl, ap, ◌∙◌, ◌/◌, length, arith}
use mathlib.Core.List.{foldl}
use Rattle.fips.specs.Sha256 as S
use Rattle.sha256.proofs.Turns.{fold-turn, fold-done, chunks-parse}
use Rattle.sha256.proofs.blocks.blocks.Goals as goal

pub loop-block-init : goal.loop-block-init
loop-block-init c = refl

pub loop-block-preserved : goal.loop-block-preserved
loop-block-preserved c =
    let l = c.loop-block in
    fold-turn _ l.block-index _ l.r _ _ (omega arith) c.compress-r.ensures l.invariant

pub returns : goal.returns
unfolding S.hash
returns c =
    let l = c.loop-block in
    let m = c.args.m.now in
    fold-done _ l.block-index l.r _ (omega arith) l.invariant
    ∙ ap (foldl S.compress c.args.s) (c.as_chunks.ensures.front ∙ chunks-parse (length m / 64) m)
