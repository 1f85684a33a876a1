-- "with the directory's own answer": what the records say of a name at an epoch, whatever a proof says.
use Rattle.std.specs.Prelude.{List, [], map, ℕ, ◌-◌, length}
use Rattle.paper.specs.Bytes.{Bytes}
use Rattle.paper.specs.Labelling.{Labelling}
use Rattle.paper.specs.Layout.{Read, got, bad}
use Rattle.paper.specs.Lookup.{lookup_strings, lookup_gives}
use Rattle.paper.specs.History.{history_strings}
use Rattle.paper.specs.Audit.{audit_strings}
use Rattle.paper.specs.Table.{Record, counted}
use Rattle.paper.specs.Write.{versions_by, lookup_proof, history_proof, audit_proof}
use Rattle.paper.specs.Arrow.{Told, last_told}
use Rattle.paper.specs.Answer.{LookupAnswer, HistoryAnswer, history_accepted, AuditAnswer, audit_accepted}
use Rattle.paper.specs.declared.State.{State}

-- the records that the state counts in the table
abbrev pub records_read : Read (List Record) → List Record
records_read bad = []
records_read (got rs r) = rs

unfoldable pub directory : Bytes → State → List Record
directory records state = records_read (counted records state.count)

-- a record, as a history is to tell it
abbrev pub tells : Record → Told
tells r = record { version = r.version; key = r.key; opening = r.opening; epoch = r.epoch }

module _ (lab : Labelling) (name : Bytes) (t : ℕ) (rs : List Record) where
  -- "a history answers all its versions by then": version, key, opening and epoch of each of the name's records
  unfoldable pub own_history : List Told
  own_history = map tells (versions_by lab name t rs)

  -- "A lookup at epoch t answers the name's last version with epoch at most t, or version 0"; version 0 has the empty key
  unfoldable pub own_lookup : Told
  own_lookup = last_told own_history

  -- what the checkers give, "each with the head's epoch and its digests": the count is that of the strings in the directory's own proof
  abbrev pub lookup_answer : Bytes → LookupAnswer
  lookup_answer heads = lookup_gives lab name own_lookup.version t (length (lookup_strings lab name (lookup_proof lab name t rs heads)))

  abbrev pub history_answer : Bytes → HistoryAnswer
  history_answer heads = history_accepted (length own_history) t (length (history_strings lab name (history_proof lab name t rs heads)))

-- "an audit gives both epochs and its digests"
abbrev pub audit_answer : Labelling → ℕ → List Record → Bytes → AuditAnswer
audit_answer lab t rs heads = audit_accepted (t - 1) t (length (audit_strings (audit_proof lab heads t rs)))
