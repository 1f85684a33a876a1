-- Demand 3, down to the bytes: an accepted lookup agrees with an accepted history at the end of a run of accepted audit steps, or two
-- different strings among those that these checks hashed have one digest. For any server, and any labelling. Assumes nothing.
use mathlib.Core.Path.{◌≡◌, refl, sym, ap, ◌∙◌, subst}
use mathlib.Core.Logic.{◌⊎◌, inl, inr, ⊎_elim, by_cases}
use mathlib.Core.Bool.{Bool, true, false, cond}
use mathlib.Core.List.{List, [], ◌∷◌, ◌++◌, map, map-append, append-nil}
use Prim.Native.Nat.{ℕ, zero, suc, ◌+◌, ◌<◌, ◌≤◌}
use native.Mathlib.Omega.{arith}
use native.Mathlib.Decide.{dec_le}
use lib.Dec.{leb}
use lib.ListN.{length}
use borrow.Author.Tests.{le-leb, lt-leb}
use Rattle.paper.specs.Lists.{All, keep, up_from}
use Rattle.paper.specs.Bytes.{Bytes, Bytewise}
use Rattle.paper.specs.Bits.{Bits}
use Rattle.paper.specs.Strings.{Head}
use Rattle.paper.specs.Labelling.{Labelling, Tied, Sized}
use Rattle.paper.specs.Layout.{parse}
use Rattle.paper.specs.Shows.{Proof, Place, label_at}
use Rattle.paper.specs.Lookup.{lookup_field, lookup_asked, lookup_keys, lookup_terms, lookup_strings, check_lookup, accepted_key}
use Rattle.paper.specs.History.{history_asked, history_terms, history_strings, check_history}
use Rattle.paper.specs.Audit.{audit_field, audit_strings}
use Rattle.paper.specs.Answer.{value_at, lookup_reply, lookup_number, history_number, answered_version, answered_epoch, history_epoch}
use Rattle.paper.specs.Answer.{LookupAnswer, HistoryAnswer}
use Rattle.paper.specs.Arrow.{Told, unregistered, told_at, told_by, told, last_told, current_at, AuditStep, Audited, lookup_hashed, history_hashed, audit_hashed, steps_hashed, hashed, Collision, Agrees}
use Rattle.paper.proofs.Lists.{in-all, all_left, all_right, keep_append, keep_one, up_from-snoc}
use Rattle.paper.proofs.Layouts.{bytes-parse}
use Rattle.paper.proofs.Proofs.{lookup-lawful, history-lawful}
use Rattle.paper.proofs.Fits.{proof-fits, head-fits}
use Rattle.paper.proofs.Chain.{Hashed, Chain, here, more, steps_in, chain-epochs}
use Rattle.paper.proofs.Collide.{OneToOne, collide-or-not, hashed_in}
use Rattle.paper.proofs.Labelling.{tied-sized}
use Rattle.paper.proofs.Shown.{Within, label-size}
use Rattle.paper.proofs.Agree.{Current, LookedUp, nobody, somebody, agree}
use Rattle.paper.proofs.Accepted.{gives-reply, lookup-told, history-told, audit-told}
use Rattle.paper.proofs.Facts.{opens, lookup-says, history-says, audit-says}

-- ---- the version that was current

last_snoc : (l : List Told) (v : Told) → last_told (l ++ (v ∷ [])) ≡ v
unfolding last_told
last_snoc [] v = refl
last_snoc (a ∷ []) v = refl
last_snoc (a ∷ b ∷ l) v = last_snoc (b ∷ l) v

-- the version of number v, as a history tells it
version_told : Proof → ℕ → Told
version_told p zero = unregistered
version_told p (suc v) = told_at p (suc v)

-- one version more
current-snoc : (p : Proof) (t n : ℕ)
    → current_at t (map (told_at p) (up_from 1 (suc n))) ≡ cond (leb (told_at p (suc n)).epoch t) (told_at p (suc n)) (current_at t (map (told_at p) (up_from 1 n)))
unfolding current_at
current-snoc p t n =
    let e : 1 + n ≡ suc n = omega arith in
    let B = map (told_at p) (up_from 1 n) in
    let test : Told → Bool = λ v. leb v.epoch t in
    let q : map (told_at p) (up_from 1 (suc n)) ≡ B ++ (told_at p (suc n) ∷ []) =
    ap (map (told_at p)) (up_from-snoc 1 n) ∙ map-append (told_at p) (up_from 1 n) ((1 + n) ∷ []) ∙ ap (λ i. B ++ (told_at p i ∷ [])) e in
    ap (λ l. last_told (keep test l)) q
    ∙ ap last_told (keep_append test B (told_at p (suc n) ∷ []) ∙ ap (λ l. keep test B ++ l) (keep_one test (told_at p (suc n))))
    ∙ by (test (told_at p (suc n))) (keep test B) (told_at p (suc n))
  where
    by : (b : Bool) (l : List Told) (v : Told) → last_told (l ++ cond b (v ∷ []) []) ≡ cond b v (last_told l)
    by true l v = last_snoc l v
    by false l v = ap last_told (append-nil l)

current-told : (p : Proof) (t n v : ℕ) → Current (λ i. (told_at p i).epoch) n t v → current_at t (map (told_at p) (up_from 1 n)) ≡ version_told p v
unfolding current_at keep up_from last_told version_told
current-told p t zero zero c = refl
current-told p t zero (suc v) c = absurd (omega (arith, c.within))
current-told p t (suc n) v c = by_cases (dec_le v n)
    (λ h. current-snoc p t n
    ∙ rw (lt-leb (told_at p (suc n)).epoch t (c.beyond (suc n) (omega arith) (omega arith)))
    (current-told p t n v (record { within = h; reached = c.reached; beyond = λ i l m. c.beyond i l (omega arith) })))
    (λ h.
    let e : v ≡ suc n = omega (arith, c.within) in
    let r : (told_at p (suc n)).epoch ≤ t = subst (λ i. (told_at p i).epoch ≤ t) e (c.reached (omega arith)) in
    current-snoc p t n ∙ rw (le-leb (told_at p (suc n)).epoch t r, e) refl)

-- ---- a run of accepted steps

module _ (U : List Bytes) (f : OneToOne U) where
  chain : (d : Bytes) (steps : List AuditStep) (d' : Bytes) → All (λ s. Bytewise s.proof) steps → Audited d steps d' → Within U (steps_hashed steps)
      → (c : Chain (hashed_in U f) d d') × (steps_in c ≡ length steps)
  unfolding steps_hashed
  chain d [] d' w a i = subst (λ e. (c : Chain (hashed_in U f) d e) × (steps_in c ≡ 0)) a (here, refl)
  chain d (s ∷ more') d' w a i =
      let k = audit-told d s.head s.proof a.0 in
      let (c, n) = chain s.head more' d' w.1 a.1 (all_right _ (audit_hashed (parse audit_field s.proof)) _ i) in
      let own : Within U (audit_strings k.audit) = subst (λ m. Within U (audit_hashed m)) k.found (all_left _ (audit_hashed (parse audit_field s.proof)) _ i) in
      (more (audit-says U f d s.head s.proof w.0 k own) c, ap suc n)

-- ---- demand 3

told-version : (q : Proof) (v : ℕ) → (version_told q v).version ≡ v
unfolding version_told
told-version q zero = refl
told-version q (suc v) = refl

told-key : (F : Hashed) (L : Place → Bits) (o : Head) (q : Proof) (v : ℕ) (key : Bytes) → LookedUp F L o v key → (0 < v → key ≡ (told_at q v).key) → key ≡ (version_told q v).key
unfolding version_told
told-key F L o q zero key (nobody k) h = refl
told-key F L o q zero key (somebody g) h = absurd (omega (arith, g.some))
told-key F L o q (suc v) key l h = h (omega arith)

-- the lookup's version and key, put together with what the history tells
agreed : (a : LookupAnswer) (lookup : Bytes) (steps : List AuditStep) (b : HistoryAnswer) (history : Bytes) (q : Proof) (v t : ℕ)
    → answered_version a ≡ v → answered_epoch a ≡ t → current_at t (told history) ≡ version_told q v → accepted_key a lookup ≡ (version_told q v).key
    → t + length steps ≡ history_epoch b → Agrees a lookup steps b history
agreed a lookup steps b history q v t ev et now k n = record {
  version = ev ∙ sym (told-version q v) ∙ ap (λ c. c.version) (sym now) ∙ ap (λ t. (current_at t (told history)).version) (sym et);
  key = k ∙ ap (λ c. c.key) (sym now) ∙ ap (λ t. (current_at t (told history)).key) (sym et);
  epochs = ap (λ t. t + length steps) et ∙ n;
}

module _ (lab : Labelling) (tied : Tied lab) (name d d' lookup history : Bytes) (steps : List AuditStep)
    (lookup-bytes : Bytewise lookup) (steps-bytes : All (λ s. Bytewise s.proof) steps) (history-bytes : Bytewise history)
    (looked : lookup_number (check_lookup lab d name lookup) ≡ 0) (audited : Audited d steps d') (chronicled : history_number (check_history lab d' name history) ≡ 0) where
  sized : Sized lab
  sized = tied-sized tied

  -- where no two strings of a list that holds all that was hashed collide
  agrees : (U : List Bytes) → OneToOne U → Within U (hashed lab name lookup steps history) → Agrees (check_lookup lab d name lookup) lookup steps (check_history lab d' name history) history
  unfolding told
  agrees U f i =
      let k = lookup-told lab d name lookup looked in
      let m = history-told lab d' name history chronicled in
      let p = k.proof in
      let q = m.proof in
      let A = lookup_hashed lab name (parse lookup_field lookup) in
      let i₁ : Within U (lookup_strings lab name p) = subst (λ r. Within U (lookup_hashed lab name r)) k.found (all_left _ A _ i) in
      let i₂ : Within U (steps_hashed steps) = all_left _ (steps_hashed steps) _ (all_right _ A _ i) in
      let i₃ : Within U (history_strings lab name q) = subst (λ r. Within U (history_hashed lab name r)) m.found (all_right _ (steps_hashed steps) _ (all_right _ A _ i)) in
      let (c, n) = chain U f d steps d' steps-bytes audited i₂ in
      let g = proof-fits 1 lookup_keys (λ v t. lookup_asked v) p (bytes-parse lookup-lawful lookup p [] lookup-bytes k.found).0 in
      let g' = proof-fits 2 (λ n. n) history_asked q (bytes-parse history-lawful history q [] history-bytes m.found).0 in
      let o = opens lab sized name U f d (lookup_terms p) (lookup_asked p.number) p (head-fits p.head g.head) i₁ k.holds in
      let o' = opens lab sized name U f d' (history_terms q) (history_asked q.number q.head.epoch) q (head-fits q.head g'.head) i₃ m.holds in
      let says = lookup-says lab sized name U f d lookup lookup-bytes k i₁ in
      let (cur, key) = agree (hashed_in U f) (λ x. label_at lab name x) (label-size lab sized name U f) p.head q.head c o o'
      q.number _ _ _ (history-says lab sized name U f d' history history-bytes m i₃) p.number _ says in
      let r = ap lookup_reply k.answer ∙ gives-reply lab name p.number p.head.epoch (length (lookup_strings lab name p)) in
      agreed (check_lookup lab d name lookup) lookup steps (check_history lab d' name history) history q p.number p.head.epoch
      (ap (value_at 0) r)
      (ap (value_at 1) r)
      (ap (λ r. current_at p.head.epoch (told_by r)) m.found ∙ current-told q p.head.epoch q.number p.number cur)
      (told-key _ _ _ q p.number _ says key)
      (ap (λ s. p.head.epoch + s) (sym n) ∙ chain-epochs (hashed_in U f) p.head q.head c o o' ∙ sym (ap history_epoch m.answer))

  -- Demand 3. "Suppose an owner's history is accepted at the head of epoch T, each audit step from the head of epoch t up to that head is
  -- accepted, and anyone's lookup of the same name is accepted at the head of epoch t .. Then the lookup gave the version and key that the
  -- history says was current at t, or "not registered" if the history has none by then. The only exception is that two different byte
  -- strings among those these checks hashed have the same digest."
  pub demand-3 : Agrees (check_lookup lab d name lookup) lookup steps (check_history lab d' name history) history ⊎ Collision (hashed lab name lookup steps history)
  demand-3 =
      let U = hashed lab name lookup steps history in
      ⊎_elim inr (λ f. inl (agrees U f (in-all _ U (λ s m. m)))) (collide-or-not U)
