-- Document 01's number and values for each case of an answer. What is promised of an answer is said of these.
use Rattle.std.specs.Prelude.{List, [], ◌∷◌, ◌++◌, ℕ, Result, Ok, Err, get_or}
use Rattle.paper.specs.Numbers.{refusal_number}
use Rattle.paper.specs.declared.Refusal.{Refusal}
use Rattle.paper.specs.declared.AcceptedLookup.{AcceptedLookup}
use Rattle.paper.specs.declared.AcceptedLookup.TheVariants.{Found, NotRegistered}
use Rattle.paper.specs.declared.AcceptedHistory.{AcceptedHistory}
use Rattle.paper.specs.declared.AcceptedAudit.{AcceptedAudit}
use Rattle.paper.specs.declared.State.{State}
use Rattle.paper.specs.declared.Returned.{Returned}
use Rattle.paper.specs.declared.Written.{Written}

-- what an answer comes to: its number, 0 where nothing is refused, and its values
pub record Reply : Type 0 where
  pub number : ℕ
  pub values : List ℕ

abbrev pub reply : ℕ → List ℕ → Reply
reply n values = record { number = n; values = values }

-- the i-th of the values, from 0; 0 where there is none
abbrev pub value_at : ℕ → Reply → ℕ
value_at i r = get_or r.values i 0

-- ---- the checkers

abbrev pub LookupAnswer : Type 0
LookupAnswer = Result AcceptedLookup Refusal

-- "An accepted lookup gives its version, .. with the head's epoch and its digests". "Each returns its number only"
abbrev pub lookup_reply : LookupAnswer → Reply
lookup_reply (Ok (Found version epoch digests)) = reply 0 (version ∷ epoch ∷ digests ∷ [])
lookup_reply (Ok (NotRegistered epoch digests)) = reply 0 (0 ∷ epoch ∷ digests ∷ [])
lookup_reply (Err r) = reply (refusal_number r) []

abbrev pub lookup_number : LookupAnswer → ℕ
lookup_number a = (lookup_reply a).number

abbrev pub answered_version : LookupAnswer → ℕ
answered_version a = value_at 0 (lookup_reply a)

abbrev pub answered_epoch : LookupAnswer → ℕ
answered_epoch a = value_at 1 (lookup_reply a)

abbrev pub answered_digests : LookupAnswer → ℕ
answered_digests a = value_at 2 (lookup_reply a)

abbrev pub HistoryAnswer : Type 0
HistoryAnswer = Result AcceptedHistory Refusal

abbrev pub history_accepted : ℕ → ℕ → ℕ → HistoryAnswer
history_accepted versions epoch digests = Ok (record { versions = versions; epoch = epoch; digests = digests })

-- "a history its n"
abbrev pub history_reply : HistoryAnswer → Reply
history_reply (Ok a) = reply 0 (a.versions ∷ a.epoch ∷ a.digests ∷ [])
history_reply (Err r) = reply (refusal_number r) []

abbrev pub history_number : HistoryAnswer → ℕ
history_number a = (history_reply a).number

abbrev pub history_epoch : HistoryAnswer → ℕ
history_epoch a = value_at 1 (history_reply a)

abbrev pub AuditAnswer : Type 0
AuditAnswer = Result AcceptedAudit Refusal

abbrev pub audit_accepted : ℕ → ℕ → ℕ → AuditAnswer
audit_accepted old new digests = Ok (record { old_epoch = old; new_epoch = new; digests = digests })

-- "an audit gives both epochs and its digests"
abbrev pub audit_reply : AuditAnswer → Reply
audit_reply (Ok a) = reply 0 (a.old_epoch ∷ a.new_epoch ∷ a.digests ∷ [])
audit_reply (Err r) = reply (refusal_number r) []

abbrev pub audit_number : AuditAnswer → ℕ
audit_number a = (audit_reply a).number

-- ---- the server

-- "The state is the record count and the current epoch."
abbrev pub state_values : State → List ℕ
state_values s = s.count ∷ s.epoch ∷ []

abbrev pub StartAnswer : Type 0
StartAnswer = Result State Refusal

abbrev pub start_reply : StartAnswer → Reply
start_reply (Ok state) = reply 0 (state_values state)
start_reply (Err r) = reply (refusal_number r) []

abbrev pub start_number : StartAnswer → ℕ
start_number a = (start_reply a).number

-- a refusal that hands back the state
abbrev pub returned : {A : Type 0} → State → Refusal → Result A Returned
returned state r = Err (record { refusal = r; state = state })

abbrev pub PublishAnswer : Type 0
PublishAnswer = Result State Returned

-- "Each returns its number only, with the state as given where there is one."
abbrev pub publish_reply : PublishAnswer → Reply
publish_reply (Ok state) = reply 0 (state_values state)
publish_reply (Err e) = reply (refusal_number e.refusal) (state_values e.state)

abbrev pub publish_number : PublishAnswer → ℕ
publish_number a = (publish_reply a).number

abbrev pub WriteAnswer : Type 0
WriteAnswer = Result Written Returned

abbrev pub written : ℕ → State → WriteAnswer
written n state = Ok (record { length = n; state = state })

-- a writer gives its proof's length behind the state
abbrev pub write_reply : WriteAnswer → Reply
write_reply (Ok w) = reply 0 (state_values w.state ++ (w.length ∷ []))
write_reply (Err e) = reply (refusal_number e.refusal) (state_values e.state)

abbrev pub write_number : WriteAnswer → ℕ
write_number a = (write_reply a).number

abbrev pub TreeAnswer : Type 0
TreeAnswer = Result ℕ Refusal

abbrev pub tree_reply : TreeAnswer → Reply
tree_reply (Ok length) = reply 0 (length ∷ [])
tree_reply (Err r) = reply (refusal_number r) []

abbrev pub tree_number : TreeAnswer → ℕ
tree_number a = (tree_reply a).number
