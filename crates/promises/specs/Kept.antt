-- Demand 2 as chains of calls: a proof is written and then checked, which gives the writer's refusal or else the directory's own answer.
use Rattle.std.specs.Prelude.{Bool, false, ℕ, Ok, Err}
use Rattle.paper.specs.Bytes.{Bytes, same}
use Rattle.paper.specs.Labelling.{Labelling}
use Rattle.paper.specs.Publish.{Published}
use Rattle.paper.specs.Write.{Written, write_lookup, write_history, write_audit}
use Rattle.paper.specs.declared.State.{State}
use Rattle.directory.specs.Own.{directory, own_lookup, lookup_answer, history_answer, audit_answer}
use Rattle.directory.specs.Begun.{opened}
use Rattle.paper.specs.Answer.{PublishAnswer, WriteAnswer, LookupAnswer, HistoryAnswer, AuditAnswer}
use Rattle.paper.specs.declared.Refusal.{Refusal}

-- an answer, and what is left in the lent output
pub record Kept (A : Type 0) : Type 0 where
  pub answer : A
  pub out : Bytes

-- the writer's refusal, or else this answer
abbrev pub unless_refused : {A : Type 0} → (Refusal → A) → A → WriteAnswer → A
unless_refused refuse own (Ok w) = own
unless_refused refuse own (Err e) = refuse e.refusal

abbrev pub kept_by : {A : Type 0} → (Refusal → A) → A → Written → Kept A
kept_by refuse own w = record { answer = unless_refused refuse own w.answer; out = w.out }

module _ (lab : Labelling) (records heads : Bytes) (state : State) (out : Bytes) where
  unfoldable pub lookup_kept : Bytes → ℕ → Kept LookupAnswer
  lookup_kept name t = kept_by Err (lookup_answer lab name t (directory records state) heads) (write_lookup lab records heads state out name t)

  -- whether the accepted key is this one
  unfoldable pub key_kept : Bytes → ℕ → Bytes → Kept Bool
  key_kept name t key = kept_by (λ n. false) (same (own_lookup lab name t (directory records state)).key key) (write_lookup lab records heads state out name t)

  unfoldable pub history_kept : Bytes → ℕ → Kept HistoryAnswer
  history_kept name t = kept_by Err (history_answer lab name t (directory records state) heads) (write_history lab records heads state out name t)

  unfoldable pub audit_kept : ℕ → Kept AuditAnswer
  audit_kept t = kept_by Err (audit_answer lab t (directory records state) heads) (write_audit lab records heads state out t)

-- ---- from nothing: a directory is opened, and then a proof is written and checked

pub record First (A : Type 0) : Type 0 where
  pub answer : A
  pub records : Bytes
  pub heads : Bytes
  pub out : Bytes

abbrev pub first_by : {A : Type 0} → (Refusal → A) → (Bytes → Bytes → State → Kept A) → Bytes → Bytes → Bytes → PublishAnswer → First A
first_by refuse next out records heads (Ok s) = record { answer = (next records heads s).answer; records = records; heads = heads; out = (next records heads s).out }
first_by refuse next out records heads (Err e) = record { answer = refuse e.refusal; records = records; heads = heads; out = out }

abbrev pub first : {A : Type 0} → (Refusal → A) → (Bytes → Bytes → State → Kept A) → Bytes → Published → First A
first refuse next out x = first_by refuse next out x.records x.heads x.answer

module _ (lab : Labelling) (records heads batch out : Bytes) where
  unfoldable pub first_lookup : Bytes → ℕ → First LookupAnswer
  first_lookup name t = first Err (λ rs hs s. lookup_kept lab rs hs s out name t) out (opened lab records heads batch)

  unfoldable pub first_history : Bytes → ℕ → First HistoryAnswer
  first_history name t = first Err (λ rs hs s. history_kept lab rs hs s out name t) out (opened lab records heads batch)

  unfoldable pub first_audit : ℕ → First AuditAnswer
  first_audit t = first Err (λ rs hs s. audit_kept lab rs hs s out t) out (opened lab records heads batch)
