-- Demand 3 from the Boolean that a handset computes, for any run of steps. Assumes nothing.
use Rattle.std.specs.Prelude.{Ok, Err, is_ok}
use mathlib.Core.Path.{◌≡◌, refl, sym, ap, ap₂, ◌∙◌}
use mathlib.Core.Logic.{◌⊎◌}
use mathlib.Core.Bool.{Bool, true, false, ◌&&◌, and-true}
use native.Mathlib.Omega.{arith}
use mathlib.Core.List.{List, [], ◌∷◌}
use Prim.Native.Nat.{ℕ}
use lib.Dec.{eqb}
use borrow.Author.Tests.{eqb-true, eq-eqb, ne_eqb}
use Rattle.paper.specs.Lists.{All}
use Rattle.paper.specs.Bytes.{Bytes, Bytewise}
use Rattle.paper.specs.Labelling.{Labelling, Tied}
use Rattle.paper.specs.Lookup.{check_lookup}
use Rattle.paper.specs.History.{check_history}
use Rattle.paper.specs.Audit.{check_audit}
use Rattle.paper.specs.Answer.{LookupAnswer, lookup_number, HistoryAnswer, history_number, AuditAnswer, audit_number}
use Rattle.paper.specs.Arrow.{AuditStep, Audited, hashed, Collision, Agrees}
use Rattle.paper.proofs.Lists.{and_left, and_right}
use Rattle.paper.specs.Numbers.{refusal_number}
use Rattle.paper.specs.declared.Refusal.{Refusal}
use Rattle.paper.specs.declared.AcceptedLookup.TheVariants.{Found, NotRegistered}
use Rattle.paper.proofs.Arrow.{demand-3}
use Rattle.paper.proofs.Verdicts.{refusal-positive}
use Rattle.arrow.specs.Pointed.{last_head, steps_accepted, all_accepted, Pointed}

audited : (d : Bytes) (steps : List AuditStep) → steps_accepted d steps ≡ true → Audited d steps (last_head d steps)
audited d [] e = refl
audited d (s ∷ more) e = (eqb-true (audit_number (check_audit d s.head s.proof)) 0 (and_left _ _ e), audited s.head more (and_right (eqb (audit_number (check_audit d s.head s.proof)) 0) _ e))

module _ (lab : Labelling) (tied : Tied lab) (d name lookup : Bytes) (steps : List AuditStep) (history : Bytes) where
  abbrev L : ℕ
  L = lookup_number (check_lookup lab d name lookup)

  abbrev H : ℕ
  H = history_number (check_history lab (last_head d steps) name history)

  pub accepted-agrees : Bytewise lookup → All (λ s. Bytewise s.proof) steps → Bytewise history → all_accepted lab d name lookup steps history ≡ true
      → Agrees (check_lookup lab d name lookup) lookup steps (check_history lab (last_head d steps) name history) history ⊎ Collision (hashed lab name lookup steps history)
  unfolding all_accepted
  accepted-agrees lb sb hb e =
      let f = and_right (eqb L 0) _ e in
      demand-3 lab tied name d (last_head d steps) lookup history steps lb sb hb
      (eqb-true _ 0 (and_left _ _ e)) (audited d steps (and_left _ _ f)) (eqb-true _ 0 (and_right (steps_accepted d steps) _ f))

  -- so an answer that is the Boolean says it
  pub pointed : (answer : Bool) → Bytewise lookup → All (λ s. Bytewise s.proof) steps → Bytewise history → answer ≡ all_accepted lab d name lookup steps history
      → Pointed lab d name lookup steps history answer
  pointed answer lb sb hb e = record { is = e; says = λ t. accepted-agrees lb sb hb (sym e ∙ t) }

  -- ---- the Boolean, check by check

  pub unlooked : (n : ℕ) → n ≡ L → (n ≡ 0 → ⊥) → false ≡ all_accepted lab d name lookup steps history
  unfolding all_accepted
  unlooked n e h = sym (rw (ne_eqb L 0 (λ z. h (e ∙ z))))

  pub unaudited : (n : ℕ) → n ≡ L → n ≡ 0 → steps_accepted d steps ≡ false → false ≡ all_accepted lab d name lookup steps history
  unfolding all_accepted
  unaudited n e z s = sym (rw (eq-eqb L 0 (sym e ∙ z), s))

  pub reached : (n m : ℕ) → n ≡ L → n ≡ 0 → steps_accepted d steps ≡ true → m ≡ H → eqb m 0 ≡ all_accepted lab d name lookup steps history
  unfolding all_accepted
  reached n m e z s f = sym (rw (eq-eqb L 0 (sym e ∙ z), s, ← f))

-- ---- a checker's number is 0 exactly where it accepts

refused : (r : Refusal) → eqb (refusal_number r) 0 ≡ false
refused r = ne_eqb (refusal_number r) 0 (λ e. omega (arith, e, refusal-positive r))

lookup-ok : (a : LookupAnswer) → eqb (lookup_number a) 0 ≡ is_ok a
lookup-ok (Ok (Found v t c)) = refl
lookup-ok (Ok (NotRegistered t c)) = refl
lookup-ok (Err r) = refused r

history-ok : (a : HistoryAnswer) → eqb (history_number a) 0 ≡ is_ok a
history-ok (Ok a) = refl
history-ok (Err r) = refused r

audit-ok : (a : AuditAnswer) → eqb (audit_number a) 0 ≡ is_ok a
audit-ok (Ok a) = refl
audit-ok (Err r) = refused r

-- so what is computed is whether all accept, for no step and for one
pub now-is : (lab : Labelling) (d name lookup history : Bytes) → all_accepted lab d name lookup [] history ≡ (is_ok (check_lookup lab d name lookup) && is_ok (check_history lab d name history))
unfolding all_accepted
now-is lab d name lookup history = ap₂ (λ x y. x && y) (lookup-ok (check_lookup lab d name lookup)) (history-ok (check_history lab d name history))

pub after-is : (lab : Labelling) (d d' name lookup step history : Bytes) → all_accepted lab d name lookup (record { head = d'; proof = step } ∷ []) history
    ≡ (is_ok (check_lookup lab d name lookup) && (is_ok (check_audit d d' step) && is_ok (check_history lab d' name history)))
unfolding all_accepted
after-is lab d d' name lookup step history =
    ap₂ (λ x y. x && y) (lookup-ok (check_lookup lab d name lookup))
    (ap₂ (λ x y. (x && true) && y) (audit-ok (check_audit d d' step)) (history-ok (check_history lab d' name history))
    ∙ ap (λ x. x && is_ok (check_history lab d' name history)) (and-true (is_ok (check_audit d d' step))))
