-- A checker accepts exactly where the bytes have the layout and every test holds: what an accepted answer tells, and the way back.
-- Assumes nothing.
use Rattle.std.specs.Prelude.{Err}
use mathlib.Core.Path.{◌≡◌, refl, sym, ap, ◌∙◌}
use mathlib.Core.List.{List, [], ◌∷◌}
use Prim.Native.Nat.{ℕ, zero, suc}
use native.Mathlib.Omega.{arith}
use lib.ListN.{length}
use Rattle.paper.specs.Bytes.{Bytes}
use Rattle.paper.specs.Strings.{Head}
use Rattle.paper.specs.Labelling.{Labelling}
use Rattle.paper.specs.Path.{Path}
use Rattle.paper.specs.Layout.{Read, got, bad, whole, parse}
use Rattle.paper.specs.Shows.{Asked, Terms, Proof, path_tests, proof_tests, input_tests}
use Rattle.paper.specs.Lookup.{lookup_asked, lookup_field, lookup_terms, lookup_strings, lookup_gives, lookup_read, check_lookup}
use Rattle.paper.specs.History.{history_asked, history_field, history_terms, history_strings, history_read, check_history}
use Rattle.paper.specs.Audit.{Audit, audit_field, audit_tests, audit_strings, audit_input_tests, audit_read, check_audit}
use Rattle.paper.specs.Answer.{reply, lookup_reply, lookup_number, history_accepted, history_number, audit_accepted, audit_number}
use Rattle.paper.proofs.Verdicts.{Hold, accepted, verdict-all}

-- nothing stands behind what is read of the whole bytes
pub whole-behind : {A : Type 0} (m : Read A) (x : A) (b : ℕ) (r : Bytes) → whole m ≡ got x (b ∷ r) → ⊥
whole-behind (got y []) x b r e = let z : ◌≡◌ {A = ℕ} 0 1 = cc in omega arith
whole-behind (got y (c ∷ q)) x b r e = let z : ◌≡◌ {A = ℕ} 0 1 = cc in omega arith
whole-behind bad x b r e = let z : ◌≡◌ {A = ℕ} 0 1 = cc in omega arith

-- found or not registered, a lookup gives version, epoch and count
pub gives-reply : (lab : Labelling) (name : Bytes) (v t c : ℕ) → lookup_reply (lookup_gives lab name v t c) ≡ reply 0 (v ∷ t ∷ c ∷ [])
gives-reply lab name zero t c = refl
gives-reply lab name (suc v) t c = refl

module _ (lab : Labelling) (d name b : Bytes) where
  -- an accepted lookup
  pub record LookupTold : Type 0 where
    pub proof : Proof
    pub found : parse lookup_field b ≡ got proof []
    pub holds : Hold (proof_tests lab name d (lookup_terms proof) (lookup_asked proof.number) proof)
    pub answer : check_lookup lab d name b ≡ lookup_gives lab name proof.number proof.head.epoch (length (lookup_strings lab name proof))

  pub lookup-told : lookup_number (check_lookup lab d name b) ≡ 0 → LookupTold
  unfolding check_lookup
  lookup-told e =
      let (_, q) = accepted Err (lookup_read lab name d (parse lookup_field b)) lookup_number (λ n. refl) (input_tests d name) e in
      read (parse lookup_field b) refl q (ap lookup_number (sym q) ∙ e)
    where
      read : (m : Read Proof) → parse lookup_field b ≡ m → check_lookup lab d name b ≡ lookup_read lab name d m → lookup_number (lookup_read lab name d m) ≡ 0 → LookupTold
      read bad o q z = absurd (omega arith)
      read (got p []) o q z =
          let ts = proof_tests lab name d (lookup_terms p) (lookup_asked p.number) p in
          let (h, r) = accepted Err (lookup_gives lab name p.number p.head.epoch (length (lookup_strings lab name p))) lookup_number (λ n. refl) ts z in
          record { proof = p; found = o; holds = h; answer = q ∙ r }
      read (got p (x ∷ r)) o q z = absurd (whole-behind (lookup_field.read b) p x r o)

  pub lookup-accept : (p : Proof) → parse lookup_field b ≡ got p [] → Hold (input_tests d name) → Hold (proof_tests lab name d (lookup_terms p) (lookup_asked p.number) p)
      → check_lookup lab d name b ≡ lookup_gives lab name p.number p.head.epoch (length (lookup_strings lab name p))
  unfolding check_lookup
  lookup-accept p o h k = verdict-all _ _ (input_tests d name) h ∙ ap (lookup_read lab name d) o ∙ verdict-all _ _ _ k

  -- an accepted history
  pub record HistoryTold : Type 0 where
    pub proof : Proof
    pub found : parse history_field b ≡ got proof []
    pub holds : Hold (proof_tests lab name d (history_terms proof) (history_asked proof.number proof.head.epoch) proof)
    pub answer : check_history lab d name b ≡ history_accepted proof.number proof.head.epoch (length (history_strings lab name proof))

  pub history-told : history_number (check_history lab d name b) ≡ 0 → HistoryTold
  unfolding check_history
  history-told e =
      let (_, q) = accepted Err (history_read lab name d (parse history_field b)) history_number (λ n. refl) (input_tests d name) e in
      read (parse history_field b) refl q (ap history_number (sym q) ∙ e)
    where
      read : (m : Read Proof) → parse history_field b ≡ m → check_history lab d name b ≡ history_read lab name d m → history_number (history_read lab name d m) ≡ 0 → HistoryTold
      read bad o q z = absurd (omega arith)
      read (got p []) o q z =
          let ts = proof_tests lab name d (history_terms p) (history_asked p.number p.head.epoch) p in
          let (h, r) = accepted Err (history_accepted p.number p.head.epoch (length (history_strings lab name p))) history_number (λ n. refl) ts z in
          record { proof = p; found = o; holds = h; answer = q ∙ r }
      read (got p (x ∷ r)) o q z = absurd (whole-behind (history_field.read b) p x r o)

  pub history-accept : (p : Proof) → parse history_field b ≡ got p [] → Hold (input_tests d name)
      → Hold (proof_tests lab name d (history_terms p) (history_asked p.number p.head.epoch) p)
      → check_history lab d name b ≡ history_accepted p.number p.head.epoch (length (history_strings lab name p))
  unfolding check_history
  history-accept p o h k = verdict-all _ _ (input_tests d name) h ∙ ap (history_read lab name d) o ∙ verdict-all _ _ _ k

module _ (d d' b : Bytes) where
  -- an accepted audit
  pub record AuditTold : Type 0 where
    pub audit : Audit
    pub found : parse audit_field b ≡ got audit []
    pub holds : Hold (audit_tests d d' audit)
    pub answer : check_audit d d' b ≡ audit_accepted audit.before.epoch audit.after.epoch (length (audit_strings audit))

  pub audit-told : audit_number (check_audit d d' b) ≡ 0 → AuditTold
  unfolding check_audit
  audit-told e =
      let (_, q) = accepted Err (audit_read d d' (parse audit_field b)) audit_number (λ n. refl) (audit_input_tests d d') e in
      read (parse audit_field b) refl q (ap audit_number (sym q) ∙ e)
    where
      read : (m : Read Audit) → parse audit_field b ≡ m → check_audit d d' b ≡ audit_read d d' m → audit_number (audit_read d d' m) ≡ 0 → AuditTold
      read bad o q z = absurd (omega arith)
      read (got a []) o q z =
          let (h, r) = accepted Err (audit_accepted a.before.epoch a.after.epoch (length (audit_strings a))) audit_number (λ n. refl) (audit_tests d d' a) z in
          record { audit = a; found = o; holds = h; answer = q ∙ r }
      read (got a (x ∷ r)) o q z = absurd (whole-behind (audit_field.read b) a x r o)

  pub audit-accept : (a : Audit) → parse audit_field b ≡ got a [] → Hold (audit_input_tests d d') → Hold (audit_tests d d' a)
      → check_audit d d' b ≡ audit_accepted a.before.epoch a.after.epoch (length (audit_strings a))
  unfolding check_audit
  audit-accept a o h k = verdict-all _ _ (audit_input_tests d d') h ∙ ap (audit_read d d') o ∙ verdict-all _ _ _ k
