-- A checker accepts exactly where bounds, layout and every rule of specs/Rules.antt hold, and refuses by a number exactly where its cause holds
-- and no earlier test refuses. The proof is taken to be bytes. Assumes nothing.
use mathlib.Core.Path.{◌≡◌, refl, ap, ◌∙◌}
use mathlib.Core.Logic.{◌↔◌}
use mathlib.Core.Bool.{◌&&◌}
use mathlib.Core.List.{List, [], ◌∷◌}
use Prim.Native.Nat.{ℕ, suc}
use lib.Dec.{eqb}
use lib.ListN.{length}
use Rattle.fips.specs.Sha256.{sha256}
use Rattle.paper.specs.Lists.{every}
use Rattle.paper.specs.Numbers.{wide}
use Rattle.paper.specs.Bytes.{Bytes, Bytewise, same}
use Rattle.paper.specs.Strings.{Head, head_string}
use Rattle.paper.specs.Labelling.{Labelling}
use Rattle.paper.specs.Tree.{root_digest}
use Rattle.paper.specs.Fields.{is_name}
use Rattle.paper.specs.Verdict.{Hold}
use Rattle.paper.specs.Shows.{Proof, input_tests}
use Rattle.paper.specs.Lookup.{lookup_asked, lookup_keys, lookup_field, lookup_strings, check_lookup}
use Rattle.paper.specs.History.{history_asked, history_field, history_strings, check_history}
use Rattle.paper.specs.Audit.{AuditRecord, Audit, audit_field, olds, news, in_order, record_rule, list_tests, audit_tests, audit_strings, check_audit}
use Rattle.paper.specs.declared.Which.{Which}
use Rattle.paper.specs.declared.Which.TheVariants.{OfAll, OfOld}
use Rattle.paper.specs.Answer.{reply, lookup_reply, lookup_number, history_reply, history_number, audit_reply, audit_number}
use Rattle.paper.specs.Rules.{Bounds, HeadBounds, LaidOut, LookupRules, HistoryRules, Listed, ListRules, Joined, AuditRules, LookupMeets, HistoryMeets, AuditMeets}
use Rattle.paper.specs.Broken.{lookup_in_order, history_in_order, audit_in_order, LookupRefuses, HistoryRefuses, AuditRefuses}
use Rattle.paper.specs.Refusals.{lookup_tests, history_tests}
use Rattle.paper.proofs.Proofs.{lookup-lawful, history-lawful, audit-lawful}
use Rattle.paper.proofs.Fits.{proof-fits}
use Rattle.paper.proofs.Accepted.{gives-reply, lookup-accept, history-accept, audit-accept}
use Rattle.paper.proofs.Reflect.{Tells, both-tell, eq-tells, same-tells, name-tells, records-tell, order-tells, pairs-tell}
use Rattle.paper.proofs.Refusals.{lookup-decided, history-decided, audit-decided}
use Rattle.paper.proofs.Checked.{Alike, laid-got, checker-holds, checker-refuses}
use Rattle.paper.proofs.PathRules.{lookup-rules, history-rules, lookup-alike, history-alike}

-- ---- audits

listed-tells : (w : Which) (old new : ℕ) (R : List AuditRecord) → Tells (in_order R && every (record_rule w old new) R) (Listed w old new R)
listed-tells w old new R =
    let (to, from) = both-tell (order-tells R) (records-tell w old new R) in
    let (apart, join) = pairs-tell R in (
      λ h. let (b, r) = to h in let (o, a) = apart b in record { order = o; apart = a; each = r },
      λ l. from (join (l.order, l.apart), l.each),
    )

joined-tells : (d : Bytes) (before after : Head) → Tells (eqb after.epoch (suc before.epoch) && same after.previous d) (Joined d before after)
joined-tells d before after =
    let (to, from) = both-tell (eq-tells after.epoch (suc before.epoch)) (same-tells after.previous d) in
    (λ h. let (n, q) = to h in record { next = n; previous = q }, λ j. from (j.next, j.previous))

audit-alike : (d d' : Bytes) (a : Audit) → Alike (audit_tests d d' a) (audit_in_order d d' a)
unfolding audit_tests
audit-alike d d' a = (
  refl,
  same-tells _ _,
  (
    refl,
    same-tells _ _,
    (
      refl,
      joined-tells d a.before a.after,
      (
        refl,
        listed-tells OfAll _ _ a.all,
        (
          refl,
          same-tells _ _,
          (
            refl,
            same-tells _ _,
            (refl, listed-tells OfOld _ _ a.old, (refl, same-tells _ _, (refl, same-tells _ _, tt))),
          ),
        ),
      ),
    ),
  ),
)

list-rules : (w : Which) (old new : ℕ) (R : List AuditRecord) (old_root new_root : Bytes) → Hold (list_tests w old new R old_root new_root) ↔ ListRules w old new R old_root new_root
list-rules w old new R old_root new_root =
    let (to, from) = listed-tells w old new R in
    let s = same-tells (root_digest (olds R)) old_root in
    let t = same-tells (root_digest (news R)) new_root in (
      λ (h, (k, (l, _))). record { listed = to h; builds-old = s.0 k; builds-new = t.0 l },
      λ r. (from r.listed, (s.1 r.builds-old, (t.1 r.builds-new, tt))),
    )

audit-rules : (d d' : Bytes) (a : Audit) → Hold (audit_tests d d' a) ↔ AuditRules d d' a
unfolding audit_tests
audit-rules d d' a =
    let s = same-tells (sha256 (head_string a.before)) d in
    let s' = same-tells (sha256 (head_string a.after)) d' in
    let j = joined-tells d a.before a.after in
    let x = list-rules OfAll a.before.epoch a.after.epoch a.all a.before.all a.after.all in
    let y = list-rules OfOld a.before.epoch a.after.epoch a.old a.before.old a.after.old in (
      λ (h, (h', (k, (r, (o, (n, q)))))). record { opens-old = s.0 h; opens-new = s'.0 h'; joined = j.0 k; all_list = x.0 (r, (o, (n, tt))); old-list = y.0 q },
      λ k.
          let (r, (o, (n, _))) = x.1 k.all_list in
          (s.1 k.opens-old, (s'.1 k.opens-new, (j.1 k.joined, (r, (o, (n, y.1 k.old-list)))))),
    )

-- ---- exactly

bounds-tell : (d name : Bytes) → Tells (eqb (length d) wide && is_name name) (Bounds d name)
bounds-tell d name =
    let (to, from) = both-tell (eq-tells (length d) wide) (name-tells name) in
    (λ h. let (s, n) = to h in record { head-size = s; name-bounds = n }, λ b. from (b.head-size, b.name-bounds))

heads-tell : (d d' : Bytes) → Tells (eqb (length d) wide && eqb (length d') wide) (HeadBounds d d')
heads-tell d d' =
    let (to, from) = both-tell (eq-tells (length d) wide) (eq-tells (length d') wide) in
    (λ h. let (s, t) = to h in record { old-size = s; new-size = t }, λ b. from (b.old-size, b.new-size))

module _ (lab : Labelling) (d name b : Bytes) (w : Bytewise b) where
  lookup-of : (p : Proof) → LaidOut lookup_field p b → Hold (lookup_tests lab d name p) ↔ LookupRules lab d name p
  lookup-of p l = lookup-rules lab d name p (proof-fits 1 lookup_keys (λ v t. lookup_asked v) p l.fits).counted

  history-of : (p : Proof) → LaidOut history_field p b → Hold (history_tests lab d name p) ↔ HistoryRules lab d name p
  history-of p l = let f = proof-fits 2 (λ n. n) history_asked p l.fits in history-rules lab d name p f.small f.counted

  -- "A checker accepts exactly those proofs that meet every rule"
  pub lookup-exact : (lookup_number (check_lookup lab d name b) ≡ 0) ↔ LookupMeets lab d name b
  unfolding input_tests
  lookup-exact =
      let (told, answers) = (lookup-decided lab d name b).answers in
      let (split, join) = checker-holds lookup_field lookup-lawful b w (bounds-tell d name) (lookup_tests lab d name) in (
        λ e. let (k, (p, l, h)) = split (told e) in record { bounds = k; proof = p; laid = l; rules = (lookup-of p l).0 h },
        λ m. answers (join (m.bounds, (m.proof, m.laid, (lookup-of m.proof m.laid).1 m.rules))),
      )

  pub history-exact : (history_number (check_history lab d name b) ≡ 0) ↔ HistoryMeets lab d name b
  unfolding input_tests
  history-exact =
      let (told, answers) = (history-decided lab d name b).answers in
      let (split, join) = checker-holds history_field history-lawful b w (bounds-tell d name) (history_tests lab d name) in (
        λ e. let (k, (p, l, h)) = split (told e) in record { bounds = k; proof = p; laid = l; rules = (history-of p l).0 h },
        λ m. answers (join (m.bounds, (m.proof, m.laid, (history-of m.proof m.laid).1 m.rules))),
      )

  -- "An accepted lookup gives its version, a history its n, each with the head's epoch and its digests"; "the count is its length"
  pub lookup-answers : (m : LookupMeets lab d name b)
      → lookup_reply (check_lookup lab d name b) ≡ reply 0 (m.proof.number ∷ m.proof.head.epoch ∷ length (lookup_strings lab name m.proof) ∷ [])
  unfolding input_tests
  lookup-answers m =
      ap lookup_reply (lookup-accept lab d name b m.proof (laid-got lookup_field lookup-lawful b w m.proof m.laid)
      ((bounds-tell d name).1 m.bounds, tt) ((lookup-of m.proof m.laid).1 m.rules))
      ∙ gives-reply lab name m.proof.number m.proof.head.epoch (length (lookup_strings lab name m.proof))

  pub history-answers : (m : HistoryMeets lab d name b)
      → history_reply (check_history lab d name b) ≡ reply 0 (m.proof.number ∷ m.proof.head.epoch ∷ length (history_strings lab name m.proof) ∷ [])
  unfolding input_tests
  history-answers m =
      ap history_reply (history-accept lab d name b m.proof (laid-got history_field history-lawful b w m.proof m.laid)
      ((bounds-tell d name).1 m.bounds, tt) ((history-of m.proof m.laid).1 m.rules))

  -- "given exactly when"
  pub lookup-refuses : (n : ℕ) → ¬ (n ≡ 0) → (lookup_number (check_lookup lab d name b) ≡ n) ↔ LookupRefuses lab d name b n
  unfolding input_tests
  lookup-refuses n z =
      let (told, refuses) = (lookup-decided lab d name b).refuses n z in
      let (to, from) = checker-refuses lookup_field lookup-lawful b w (bounds-tell d name) (lookup_tests lab d name) (lookup_in_order lab d name) (lookup-alike lab d name) n in
      (λ e. to (told e), λ r. refuses (from r))

  pub history-refuses : (n : ℕ) → ¬ (n ≡ 0) → (history_number (check_history lab d name b) ≡ n) ↔ HistoryRefuses lab d name b n
  unfolding input_tests
  history-refuses n z =
      let (told, refuses) = (history-decided lab d name b).refuses n z in
      let (to, from) = checker-refuses history_field history-lawful b w (bounds-tell d name) (history_tests lab d name) (history_in_order lab d name) (history-alike lab d name) n in
      (λ e. to (told e), λ r. refuses (from r))

module _ (d d' b : Bytes) (w : Bytewise b) where
  pub audit-exact : (audit_number (check_audit d d' b) ≡ 0) ↔ AuditMeets d d' b
  audit-exact =
      let (told, answers) = (audit-decided d d' b).answers in
      let (split, join) = checker-holds audit_field audit-lawful b w (heads-tell d d') (audit_tests d d') in (
        λ e. let (k, (a, l, h)) = split (told e) in record { bounds = k; audit = a; laid = l; rules = (audit-rules d d' a).0 h },
        λ m. answers (join (m.bounds, (m.audit, m.laid, (audit-rules d d' m.audit).1 m.rules))),
      )

  -- "an audit gives both epochs and its digests"
  pub audit-answers : (m : AuditMeets d d' b)
      → audit_reply (check_audit d d' b) ≡ reply 0 (m.audit.before.epoch ∷ m.audit.after.epoch ∷ length (audit_strings m.audit) ∷ [])
  audit-answers m =
      ap audit_reply (audit-accept d d' b m.audit (laid-got audit_field audit-lawful b w m.audit m.laid)
      ((heads-tell d d').1 m.bounds, tt) ((audit-rules d d' m.audit).1 m.rules))

  pub audit-refuses : (n : ℕ) → ¬ (n ≡ 0) → (audit_number (check_audit d d' b) ≡ n) ↔ AuditRefuses d d' b n
  audit-refuses n z =
      let (told, refuses) = (audit-decided d d' b).refuses n z in
      let (to, from) = checker-refuses audit_field audit-lawful b w (heads-tell d d') (audit_tests d d') (audit_in_order d d') (audit-alike d d') n in
      (λ e. to (told e), λ r. refuses (from r))
