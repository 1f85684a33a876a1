-- What a writer says it wrote lies in its output.
use Rattle.writer_calls.proofs.Room.{proof-within, write-within}
use Rattle.writer_calls.proofs.written.Goals as goal

pub returns-in-Lookup : goal.returns-in-Lookup
returns-in-Lookup c =
    let t = c.args.t in
    let l = c.write_lookup in
    proof-within t.records.now t.heads.now t.state c.args.out.now l.result l.new.out _ l.ensures (write-within _ _ _ _ _ _ _ _) l.auto.out

pub returns-in-History : goal.returns-in-History
returns-in-History c =
    let t = c.args.t in
    let l = c.write_history in
    proof-within t.records.now t.heads.now t.state c.args.out.now l.result l.new.out _ l.ensures (write-within _ _ _ _ _ _ _ _) l.auto.out
