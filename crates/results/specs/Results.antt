-- The answers as C has them: document 01's number, 0 where nothing was refused, and the answer's values in their order, 0 where it has none.
use Rattle.paper.specs.Bytes.{Bytes}
use Rattle.paper.specs.Lookup.{key_start, key_length}
use Rattle.paper.specs.Answer.{LookupAnswer, HistoryAnswer, AuditAnswer, StartAnswer, PublishAnswer, WriteAnswer, Reply, value_at, lookup_reply, history_reply, audit_reply, start_reply, publish_reply, write_reply}
use Rattle.results.specs.declared.Lookup.{Lookup}
use Rattle.results.specs.declared.History.{History}
use Rattle.results.specs.declared.Audit.{Audit}
use Rattle.results.specs.declared.Published.{Published}
use Rattle.results.specs.declared.Written.{Written}

-- with the key as that part of the proof
abbrev pub lookup_result : LookupAnswer → Bytes → Lookup
lookup_result a proof =
    let r : Reply = lookup_reply a in
    record { number = r.number; version = value_at 0 r; epoch = value_at 1 r; digests = value_at 2 r; key_start = key_start a; key_length = key_length a proof }

abbrev pub history_result : HistoryAnswer → History
history_result a = let r : Reply = history_reply a in record { number = r.number; versions = value_at 0 r; epoch = value_at 1 r; digests = value_at 2 r }

abbrev pub audit_result : AuditAnswer → Audit
audit_result a = let r : Reply = audit_reply a in record { number = r.number; old_epoch = value_at 0 r; new_epoch = value_at 1 r; digests = value_at 2 r }

-- a number with a state
abbrev pub with_state : Reply → Published
with_state r = record { number = r.number; count = value_at 0 r; epoch = value_at 1 r }

abbrev pub start_result : StartAnswer → Published
start_result a = with_state (start_reply a)

abbrev pub publish_result : PublishAnswer → Published
publish_result a = with_state (publish_reply a)

abbrev pub write_result : WriteAnswer → Written
write_result a = let r : Reply = write_reply a in record { number = r.number; count = value_at 0 r; epoch = value_at 1 r; length = value_at 2 r }
