-- Demand 2, the honest way: every lookup, history and audit proof that the writers' definitions give from a directory that stands is
-- accepted by the checkers' definitions at its epoch's head, with the directory's own answer: number 0, and its values. The heads are those in
-- the head table. Stated once over the labelling. Assumes nothing.
use mathlib.Core.Path.{◌≡◌, sym, ap, ◌∙◌, subst}
use mathlib.Core.Bool.{true}
use mathlib.Core.List.{List, [], ◌∷◌}
use Prim.Native.Nat.{ℕ, suc, ◌≤◌}
use native.Mathlib.Omega.{arith}
use lib.ListN.{length}
use Rattle.paper.specs.Bytes.{Bytes}
use Rattle.paper.specs.Labelling.{Labelling, Sized}
use Rattle.paper.specs.Fields.{is_name}
use Rattle.paper.specs.Shows.{Proof}
use Rattle.paper.specs.Lookup.{lookup_asked, lookup_field, lookup_strings, lookup_gives, check_lookup}
use Rattle.paper.specs.History.{history_asked, history_field, history_strings, check_history}
use Rattle.paper.specs.Audit.{Audit, audit_field, audit_strings, check_audit}
use Rattle.paper.specs.Table.{Record, head_at, head_digest, last_version}
use Rattle.paper.specs.Write.{versions_by, unclashed, lookup_proof, history_proof, audit_proof}
use Rattle.paper.specs.Answer.{reply, lookup_reply, history_reply, audit_reply}
use Rattle.paper.specs.declared.State.{State}
use Rattle.paper.specs.Answer.{history_accepted}
use Rattle.paper.specs.Answer.{audit_accepted}
use Rattle.paper.proofs.Accepted.{gives-reply}
use Rattle.paper.proofs.Complete.{lookup-complete, history-complete}
use Rattle.paper.proofs.AuditComplete.{audit-complete}
use Rattle.paper.proofs.Standing.{Standing}

module _ (lab : Labelling) (sized : Sized lab) {records heads : Bytes} {state : State} {rs : List Record} (stands : Standing lab records heads state rs) where
  module _ (name : Bytes) (t : ℕ) (k : t ≤ state.epoch) (n : is_name name ≡ true) where
    -- ---- lookups

    abbrev version : ℕ
    version = last_version (versions_by lab name t rs)

    abbrev looked : Proof
    looked = lookup_proof lab name t rs heads

    module _ (u : unclashed lab name t rs (lookup_asked version) ≡ true) where
      pub lookup-answered : check_lookup lab (head_at heads t) name (lookup_field.bytes looked) ≡ lookup_gives lab name version t (length (lookup_strings lab name looked))
      lookup-answered =
          subst (λ d. check_lookup lab d name (lookup_field.bytes looked) ≡ lookup_gives lab name version t (length (lookup_strings lab name looked))) (sym (stands.head-is t k))
          (lookup-complete lab sized name t rs stands.fits state.epoch stands.shape heads (omega (arith, stands.epochs)) (stands.previous t k) n u)

      pub lookup-accepted : lookup_reply (check_lookup lab (head_at heads t) name (lookup_field.bytes looked)) ≡ reply 0 (version ∷ t ∷ length (lookup_strings lab name looked) ∷ [])
      lookup-accepted = ap lookup_reply lookup-answered ∙ gives-reply lab name version t (length (lookup_strings lab name looked))

    -- ---- histories

    abbrev versions : ℕ
    versions = length (versions_by lab name t rs)

    abbrev chronicle : Proof
    chronicle = history_proof lab name t rs heads

    module _ (u : unclashed lab name t rs (history_asked versions t) ≡ true) where
      pub history-answered : check_history lab (head_at heads t) name (history_field.bytes chronicle) ≡ history_accepted versions t (length (history_strings lab name chronicle))
      history-answered =
          subst (λ d. check_history lab d name (history_field.bytes chronicle) ≡ history_accepted versions t (length (history_strings lab name chronicle))) (sym (stands.head-is t k))
          (history-complete lab sized name t rs stands.fits state.epoch stands.shape heads (omega (arith, stands.epochs)) (stands.previous t k) n u)

      pub history-accepted : history_reply (check_history lab (head_at heads t) name (history_field.bytes chronicle)) ≡ reply 0 (versions ∷ t ∷ length (history_strings lab name chronicle) ∷ [])
      history-accepted = ap history_reply history-answered

  -- ---- audits

  module _ (t : ℕ) (k : suc t ≤ state.epoch) where
    abbrev step : Audit
    step = audit_proof lab heads (suc t) rs

    pub audit-answered : check_audit (head_at heads t) (head_at heads (suc t)) (audit_field.bytes step) ≡ audit_accepted t (suc t) (length (audit_strings step))
    audit-answered =
        let j : t ≤ state.epoch = omega arith in
        subst (λ d. check_audit d (head_at heads (suc t)) (audit_field.bytes step) ≡ audit_accepted t (suc t) (length (audit_strings step))) (sym (stands.head-is t j))
        (subst (λ d. check_audit (head_digest lab heads t rs) d (audit_field.bytes step) ≡ audit_accepted t (suc t) (length (audit_strings step))) (sym (stands.head-is (suc t) k))
        (audit-complete lab sized state.epoch t rs stands.fits stands.few stands.shape heads (omega (arith, stands.epochs)) (stands.previous t j) (stands.head-is t j)
        (stands.all-distinct (suc t) k) (stands.old-distinct (suc t) k)))

    pub audit-accepted : audit_reply (check_audit (head_at heads t) (head_at heads (suc t)) (audit_field.bytes step)) ≡ reply 0 (t ∷ suc t ∷ length (audit_strings step) ∷ [])
    audit-accepted = ap audit_reply audit-answered
