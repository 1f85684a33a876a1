-- `block::rounds::compress` meets its contract: after so many turns, of eight rounds each, the working variables are those of so many rounds. Assumes nothing.
use Rattle.std.proofs.Common.{◌≡◌, ◌+◌, ◌*◌, refl, ap, ◌∙◌, arith}
use Rattle.fips.specs.Sha256 as S
use Rattle.block.proofs.Turns.{rounds-done}
use Rattle.block.proofs.rounds.compress.Goals as goal

pub loop-turn-init : goal.loop-turn-init
unfolding S.rounds
loop-turn-init c = (omega arith, refl)

pub eight-r-requires : goal.eight-r-requires
eight-r-requires c = (omega arith, c.requires.0)

pub loop-turn-preserved : goal.loop-turn-preserved
loop-turn-preserved c =
    let l = c.loop-turn in
    let e : 8 * l.turn + 8 ≡ 8 * (l.turn + 1) = omega arith in
    (omega arith, c.eight-r.ensures _ l.invariant.1 ∙ ap (S.rounds c.schedule-w.result c.args.s) e)

pub returns : goal.returns
returns c =
    let l = c.loop-turn in
    rounds-done _ _ _ l.r _ (8 * l.turn) (omega arith) c.schedule-w.ensures l.invariant.1 c.add.ensures
