-- Both writers at once: by their kind, what is answered, and what remains of it as tests pass.
use Rattle.std.specs.Prelude.{Bool, List, ℕ, length}
use Rattle.paper.specs.Bytes.{Bytes}
use Rattle.paper.specs.Labelling.{plain}
use Rattle.paper.specs.Fields.{is_name}
use Rattle.paper.specs.Lookup.{lookup_asked, lookup_field}
use Rattle.paper.specs.History.{history_asked, history_field}
use Rattle.paper.specs.Table.{Record, last_version}
use Rattle.paper.specs.Write.{Written, versions_by, unclashed, lookup_proof, history_proof, write_with}
use Rattle.paper.specs.declared.State.{State}
use Rattle.record.specs.Places.{records_in}
use Rattle.plan.specs.declared.Kind.{Kind}
use Rattle.plan.specs.declared.Kind.TheVariants.{Lookup, History}
use Rattle.tested.specs.Tested.{weighed}

-- "two leaves of a needed tree share a label, or a label to be shown absent is there": not so; and the proof
abbrev pub clear_by : Kind → Bytes → ℕ → List Record → Bool
clear_by History name t rs = unclashed plain name t rs (history_asked (length (versions_by plain name t rs)) t)
clear_by Lookup name t rs = unclashed plain name t rs (lookup_asked (last_version (versions_by plain name t rs)))

abbrev pub proof_by : Kind → Bytes → Bytes → ℕ → List Record → Bytes
proof_by History heads name t rs = history_field.bytes (history_proof plain name t rs heads)
proof_by Lookup heads name t rs = lookup_field.bytes (lookup_proof plain name t rs heads)

-- what either writer leaves
abbrev pub written_by : Kind → Bytes → Bytes → State → Bytes → Bytes → ℕ → Written
written_by kind records heads state out name t = write_with plain records heads state out (is_name name) t (clear_by kind name t) (proof_by kind heads name t)

-- of tables in shape
abbrev pub rest_by : Kind → Bytes → Bytes → State → Bytes → Bytes → ℕ → Written
rest_by kind records heads state out name t = weighed state out (clear_by kind name t (records_in state.count records)) (proof_by kind heads name t (records_in state.count records))
