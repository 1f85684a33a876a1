-- A writer's answer put to its checker: the writer's refusal, or else the directory's own answer. Assumes nothing.
use Rattle.std.specs.Prelude.{Ok, Err}
use mathlib.Core.Path.{◌≡◌, sym, ap, ap₂, ◌∙◌}
use mathlib.Core.Bool.{Bool, false}
use Prim.Native.Nat.{ℕ, ◌+◌, ◌-◌, ◌*◌, ◌≤◌}
use native.Mathlib.Omega.{arith}
use lib.ListN.{length, take}
use borrow.Author.Tests.{leb-true}
use Rattle.paper.specs.Numbers.{wide}
use Rattle.paper.specs.Bytes.{Bytes, same}
use Rattle.paper.specs.Labelling.{Labelling, Sized}
use Rattle.paper.specs.Lookup.{check_lookup, accepted_key}
use Rattle.paper.specs.History.{check_history}
use Rattle.paper.specs.Audit.{check_audit}
use Rattle.paper.specs.Table.{head_at}
use Rattle.paper.specs.Publish.{Published}
use Rattle.paper.specs.Write.{Written, write_lookup, write_history, write_audit}
use Rattle.paper.specs.Left.{Left}
use Rattle.paper.specs.declared.State.{State}
use Rattle.paper.specs.declared.Refusal.{Refusal}
use Rattle.paper.specs.declared.Returned.{Returned}
use Rattle.paper.specs.declared.Written as W
use Rattle.promises.specs.Kept.{Kept, unless_refused, kept_by, lookup_kept, key_kept, history_kept, audit_kept, first_by, first}
use Rattle.directory.proofs.Standing.{left-stands}
use Rattle.directory.proofs.Lookups.{lookup-wrote, lookup-is, key-kept}
use Rattle.directory.proofs.Histories.{history-wrote, history-is}
use Rattle.directory.proofs.Audits.{audit-wrote, audit-is}
use Rattle.paper.specs.Answer.{LookupAnswer, HistoryAnswer, AuditAnswer}

module _ {A : Type 0} (refuse : Refusal → A) (own : A) (x w : Written) (e : x ≡ w) where
  refused : (r : Returned) → x.answer ≡ Err r → record { answer = refuse r.refusal; out = x.out } ≡ kept_by refuse own w
  refused r q =
      let a : refuse r.refusal ≡ unless_refused refuse own w.answer = ap (unless_refused refuse own) (sym q ∙ ap (λ y. y.answer) e) in
      λ i. record { answer = a i; out = (e i).out }

  checked : (y : W.Written) → x.answer ≡ Ok y → (a : A) → a ≡ own → record { answer = a; out = x.out } ≡ kept_by refuse own w
  checked y q a h =
      let b : a ≡ unless_refused refuse own w.answer = h ∙ ap (unless_refused refuse own) (sym q ∙ ap (λ y. y.answer) e) in
      λ i. record { answer = b i; out = (e i).out }

module _ (lab : Labelling) (sized : Sized lab) {records heads : Bytes} {state : State} (left : Left lab records heads state) where
  -- the head of an epoch that is reached lies in the table
  lies : (t : ℕ) → t ≤ state.epoch → t * wide + wide ≤ length heads
  lies t k = omega (arith, (left-stands lab left).lies)

  -- ---- lookups

  module _ (name : Bytes) (t : ℕ) (out : Bytes) (x : Written) (e : x ≡ write_lookup lab records heads state out name t) where
    pub lookup-refused : (r : Returned) → x.answer ≡ Err r → record { answer = Err r.refusal; out = x.out } ≡ lookup_kept lab records heads state out name t
    unfolding lookup_kept
    lookup-refused = refused Err _ x _ e

    pub key-refused : (key : Bytes) (r : Returned) → x.answer ≡ Err r → record { answer = false; out = x.out } ≡ key_kept lab records heads state out name t key
    unfolding key_kept
    key-refused key = refused (λ r. false) _ x _ e

    module _ (y : W.Written) (q : x.answer ≡ Ok y) where
      written : (write_lookup lab records heads state out name t).answer ≡ Ok y
      written = sym (ap (λ y. y.answer) e) ∙ q

      bytes : take y.length x.out ≡ take y.length (write_lookup lab records heads state out name t).out
      bytes = ap (λ w. take y.length w.out) e

      -- head and proof lie where the check takes them from
      pub lookup-places : (t * wide + wide ≤ length heads) × (y.length ≤ length out)
      lookup-places = let w = lookup-wrote lab sized left name t out y.length y.state written in (lies t w.reached, w.room)

      pub lookup-checked : (d : Bytes) → d ≡ head_at heads t → (a : LookupAnswer) → a ≡ check_lookup lab d name (take y.length x.out) → record { answer = a; out = x.out } ≡ lookup_kept lab records heads state out name t
      unfolding lookup_kept
      lookup-checked d h a c = checked Err _ x _ e y q a (c ∙ ap₂ (λ d b. check_lookup lab d name b) h bytes ∙ lookup-is lab sized left name t out y.length y.state written)

      pub key-checked : (d : Bytes) → d ≡ head_at heads t → (k : Bytes) → k ≡ accepted_key (check_lookup lab d name (take y.length x.out)) (take y.length x.out) → (key : Bytes) (a : Bool) → a ≡ same k key
          → record { answer = a; out = x.out } ≡ key_kept lab records heads state out name t key
      unfolding key_kept
      key-checked d h k g key a c =
          let f = g ∙ ap₂ (λ d b. accepted_key (check_lookup lab d name b) b) h bytes
          ∙ ap (λ a. accepted_key a (take y.length (write_lookup lab records heads state out name t).out)) (lookup-is lab sized left name t out y.length y.state written) ∙ key-kept lab sized left name t out y.length y.state written in
          checked (λ r. false) _ x _ e y q a (c ∙ ap (λ k. same k key) f)

  -- ---- histories

  module _ (name : Bytes) (t : ℕ) (out : Bytes) (x : Written) (e : x ≡ write_history lab records heads state out name t) where
    pub history-refused : (r : Returned) → x.answer ≡ Err r → record { answer = Err r.refusal; out = x.out } ≡ history_kept lab records heads state out name t
    unfolding history_kept
    history-refused = refused Err _ x _ e

    module _ (y : W.Written) (q : x.answer ≡ Ok y) where
      pub history-places : (t * wide + wide ≤ length heads) × (y.length ≤ length out)
      history-places = let w = history-wrote lab sized left name t out y.length y.state (sym (ap (λ y. y.answer) e) ∙ q) in (lies t w.reached, w.room)

      pub history-checked : (d : Bytes) → d ≡ head_at heads t → (a : HistoryAnswer) → a ≡ check_history lab d name (take y.length x.out) → record { answer = a; out = x.out } ≡ history_kept lab records heads state out name t
      unfolding history_kept
      history-checked d h a c =
          checked Err _ x _ e y q a
          (c ∙ ap₂ (λ d b. check_history lab d name b) h (ap (λ w. take y.length w.out) e) ∙ history-is lab sized left name t out y.length y.state (sym (ap (λ y. y.answer) e) ∙ q))

  -- ---- audits

  module _ (t : ℕ) (out : Bytes) (x : Written) (e : x ≡ write_audit lab records heads state out t) where
    pub audit-refused : (r : Returned) → x.answer ≡ Err r → record { answer = Err r.refusal; out = x.out } ≡ audit_kept lab records heads state out t
    unfolding audit_kept
    audit-refused = refused Err _ x _ e

    module _ (y : W.Written) (q : x.answer ≡ Ok y) where
      -- there is an epoch before it, whose head lies in the table too
      pub record AuditPlaces : Type 0 where
        pub first : 1 ≤ t
        pub head : t * wide + wide ≤ length heads
        pub room : y.length ≤ length out

      pub audit-places : AuditPlaces
      audit-places =
          let w = audit-wrote lab sized left t out y.length y.state (sym (ap (λ y. y.answer) e) ∙ q) in
          record { first = leb-true 1 t w.input-good; head = lies t w.reached; room = w.room }

      pub audit-checked : (d d' : Bytes) → d ≡ head_at heads (t - 1) → d' ≡ head_at heads t → (a : AuditAnswer) → a ≡ check_audit d d' (take y.length x.out) → record { answer = a; out = x.out } ≡ audit_kept lab records heads state out t
      unfolding audit_kept
      audit-checked d d' h h' a c =
          checked Err _ x _ e y q a
          (c ∙ ap (λ d. check_audit d d' (take y.length x.out)) h ∙ ap₂ (λ d b. check_audit (head_at heads (t - 1)) d b) h' (ap (λ w. take y.length w.out) e)
          ∙ audit-is lab sized left t out y.length y.state (sym (ap (λ y. y.answer) e) ∙ q))

-- ---- from nothing

module _ {A : Type 0} (refuse : Refusal → A) (next : Bytes → Bytes → State → Kept A) (out : Bytes) (x w : Published) (e : x ≡ w) where
  pub first-refused : (r : Returned) → x.answer ≡ Err r → record { answer = refuse r.refusal; records = x.records; heads = x.heads; out = out } ≡ first refuse next out w
  first-refused r q = ap (first_by refuse next out x.records x.heads) (sym q) ∙ ap (first refuse next out) e

  pub first-kept : (s : State) → x.answer ≡ Ok s → (k : Kept A) → k ≡ next x.records x.heads s
      → record { answer = k.answer; records = x.records; heads = x.heads; out = k.out } ≡ first refuse next out w
  first-kept s q k h =
      let a : record { answer = k.answer; records = x.records; heads = x.heads; out = k.out } ≡ first_by refuse next out x.records x.heads (Ok s) =
      λ i. record { answer = (h i).answer; records = x.records; heads = x.heads; out = (h i).out } in
      a ∙ ap (first_by refuse next out x.records x.heads) (sym q) ∙ ap (first refuse next out) e
