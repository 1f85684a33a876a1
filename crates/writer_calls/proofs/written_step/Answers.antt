-- What the writer says it wrote lies in its output.
use Rattle.writer_calls.proofs.Room.{proof-within, write-within}
use Rattle.writer_calls.proofs.written_step.Goals as goal

pub returns : goal.returns
returns c =
    let t = c.args.t in
    let l = c.write_audit in
    proof-within t.records.now t.heads.now t.state c.args.out.now l.result l.new.out _ l.ensures (write-within _ _ _ _ _ _ _ _) l.auto.out
