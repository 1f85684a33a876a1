-- `block::schedule::first_words` meets its contract: its first t words are those of the definition. Assumes nothing.
use Rattle.std.proofs.Common.{refl, arith, length-set}
use Rattle.fips.specs.Sha256 as S
use Rattle.block.proofs.Turns.{early, schedule-turn, first_done}
use Rattle.block.proofs.schedule.first_words.Goals as goal

pub loop-t-init : goal.loop-t-init
unfolding S.schedule
loop-t-init c = (omega arith, refl, refl)

pub loop-t-preserved : goal.loop-t-preserved
loop-t-preserved c =
    let l = c.loop-t in
    let v = early c.args.b.now l.w l.t _ (omega arith) c.join.ensures in
    (omega arith, simp length-set (omega arith), schedule-turn _ l.w l.t _ (omega arith) l.invariant.2 v)

pub returns : goal.returns
returns c =
    let l = c.loop-t in
    first_done _ l.w l.t (omega arith) l.invariant.2
