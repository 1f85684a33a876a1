-- `block::schedule::schedule` meets its contract: its first t words are those of the definition. Assumes nothing.
use Rattle.std.proofs.Common.{arith, length-set}
use Rattle.block.proofs.Turns.{late, schedule-turn, schedule-done}
use Rattle.block.proofs.schedule.schedule.Goals as goal

pub loop-t-init : goal.loop-t-init
loop-t-init c = (omega arith, omega arith, omega (arith, c.first_words-w.type_inv), c.first_words-w.ensures)

pub loop-t-preserved : goal.loop-t-preserved
loop-t-preserved c =
    let l = c.loop-t in
    let v = late c.args.b.now l.w l.t _ (omega arith) c.mix.ensures in
    (omega arith, omega arith, simp length-set (omega arith), schedule-turn _ l.w l.t _ (omega arith) l.invariant.3 v)

pub returns : goal.returns
returns c =
    let l = c.loop-t in
    schedule-done _ l.w l.t (omega arith) l.invariant.2 l.invariant.3
