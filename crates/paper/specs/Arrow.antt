-- What the arrow says (demand 3), in terms of the three checkers' own answers: what a history tells, which version was current at an
-- epoch by it, a run of accepted audit steps, the strings that the checks hashed, and a collision among them.
use Rattle.std.specs.Prelude.{◌≡◌, List, [], ◌∷◌, ◌++◌, map, ℕ, ◌+◌, ◌-◌, leb, length, get_or}
use Rattle.fips.specs.Sha256.{sha256}
use Rattle.paper.specs.Lists.{◌∈◌, keep, up_from}
use Rattle.paper.specs.Bytes.{Bytes}
use Rattle.paper.specs.Labelling.{Labelling}
use Rattle.paper.specs.Layout.{Read, got, bad, parse}
use Rattle.paper.specs.Shows.{Item, Proof, epoch_at}
use Rattle.paper.specs.Lookup.{lookup_field, lookup_strings, accepted_key}
use Rattle.paper.specs.History.{history_field, history_strings}
use Rattle.paper.specs.Audit.{Audit, audit_field, audit_strings, check_audit}
use Rattle.paper.specs.Answer.{LookupAnswer, HistoryAnswer, audit_number, answered_version, answered_epoch, history_epoch}

-- a version as a history tells it; version 0 stands for "not registered"
pub record Told : Type 0 where
  pub version : ℕ
  pub key : Bytes
  pub opening : Bytes
  pub epoch : ℕ

abbrev pub unregistered : Told
unregistered = record { version = 0; key = []; opening = []; epoch = 0 }

-- what a history tells: version i has the i-th key and opening, and the epoch of the i-th path's leaf
abbrev pub told_at : Proof → ℕ → Told
told_at p i =
    let x : Item = get_or p.items (i - 1) (record { key = []; opening = [] }) in
    record { version = i; key = x.key; opening = x.opening; epoch = epoch_at p i }

abbrev pub told_by : Read Proof → List Told
told_by bad = []
told_by (got p r) = map (told_at p) (up_from 1 p.number)

unfoldable pub told : Bytes → List Told
told history = told_by (parse history_field history)

-- the last of a list, or "not registered"
unfoldable pub last_told : List Told → Told
last_told [] = unregistered
last_told (v ∷ []) = v
last_told (v ∷ w ∷ vs) = last_told (w ∷ vs)

-- "the version and key that the history says was current at t, or "not registered" if the history has none by then"
unfoldable pub current_at : ℕ → List Told → Told
current_at t vs = last_told (keep (λ v. leb v.epoch t) vs)

-- a step: the head that it leads to, and its audit proof
pub record AuditStep : Type 0 where
  pub head : Bytes
  pub proof : Bytes

-- "each audit step from the head of epoch t up to that head is accepted, .. and one head where they are equal"
abbrev pub Audited : Bytes → List AuditStep → Bytes → Type 0
Audited d [] d' = d ≡ d'
Audited d (s ∷ more) d' = (audit_number (check_audit d s.head s.proof) ≡ 0) × Audited s.head more d'

-- the strings that each check hashed: the lists whose lengths the checkers report
abbrev pub lookup_hashed : Labelling → Bytes → Read Proof → List Bytes
lookup_hashed lab name bad = []
lookup_hashed lab name (got p r) = lookup_strings lab name p

abbrev pub history_hashed : Labelling → Bytes → Read Proof → List Bytes
history_hashed lab name bad = []
history_hashed lab name (got p r) = history_strings lab name p

abbrev pub audit_hashed : Read Audit → List Bytes
audit_hashed bad = []
audit_hashed (got a r) = audit_strings a

unfoldable pub steps_hashed : List AuditStep → List Bytes
steps_hashed [] = []
steps_hashed (s ∷ more) = audit_hashed (parse audit_field s.proof) ++ steps_hashed more

-- "those these checks hashed"
abbrev pub hashed : Labelling → Bytes → Bytes → List AuditStep → Bytes → List Bytes
hashed lab name lookup steps history =
    lookup_hashed lab name (parse lookup_field lookup) ++ (steps_hashed steps ++ history_hashed lab name (parse history_field history))

-- "two different byte strings among those .. have the same digest"
pub record Collision (U : List Bytes) : Type 0 where
  pub one : Bytes
  pub two : Bytes
  pub in_one : one ∈ U
  pub in_two : two ∈ U
  pub differ : ¬ (one ≡ two)
  pub same : sha256 one ≡ sha256 two

-- where there are none, a digest tells its string
abbrev pub OneToOne : List Bytes → Type 0
OneToOne U = (x y : Bytes) → x ∈ U → y ∈ U → sha256 x ≡ sha256 y → x ≡ y

-- what demand 3 says of the lookup: it gave the version and key that the history says was current at its epoch; and the history's
-- epoch is the lookup's and one for each step
pub record Agrees (lookup : LookupAnswer) (lookup_bytes : Bytes) (steps : List AuditStep) (history : HistoryAnswer) (history_bytes : Bytes) : Type 0 where
  pub version : answered_version lookup ≡ (current_at (answered_epoch lookup) (told history_bytes)).version
  pub key : accepted_key lookup lookup_bytes ≡ (current_at (answered_epoch lookup) (told history_bytes)).key
  pub epochs : answered_epoch lookup + length steps ≡ history_epoch history
