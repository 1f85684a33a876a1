-- From accepted bytes to facts: what an accepted lookup, history and run of audits show, where the strings that they hashed do not collide.
-- Assumes nothing.
use mathlib.Core.Path.{◌≡◌, refl, sym, ap₂, subst}
use mathlib.Core.Bool.{true, ◌&&◌}
use mathlib.Core.List.{List, [], ◌∷◌, map}
use Prim.Native.Nat.{ℕ, zero, suc, ◌-◌, ◌<◌, ◌≤◌}
use native.Mathlib.Omega.{arith}
use lib.Dec.{leb, ltb}
use lib.ListN.{length, get_or}
use borrow.Author.Tests.{leb-true, ltb-true, eqb-true}
use Rattle.fips.specs.Sha256.{sha256}
use Rattle.paper.specs.Lists.{◌∈◌, All, every}
use Rattle.paper.specs.Numbers.{wide}
use Rattle.paper.specs.Bytes.{Bytes, Bytewise, zeros}
use Rattle.paper.specs.Bits.{Bits}
use Rattle.paper.specs.Strings.{Head, commitment_string, node_string}
use Rattle.paper.specs.Labelling.{Labelling, Sized}
use Rattle.paper.specs.Tree.{nodes, root, root_digest}
use Rattle.paper.specs.Path.{Path, none, epoch_of}
use Rattle.paper.specs.Layout.{led, times, view, seq}
use Rattle.paper.specs.Fields.{path_field}
use Rattle.paper.specs.Shows.{Place, in_all, in_old, as_marker, Asked, present, missing, Item, Proof, label_at, epoch_at, commitment_at, proof_strings, proof_tests, path_strings, Terms}
use Rattle.paper.specs.Lookup.{lookup_asked, lookup_keys, lookup_field, lookup_terms, lookup_strings, lookup_gives, check_lookup, accepted_key}
use Rattle.paper.specs.History.{history_asked, history_terms, history_strings}
use Rattle.paper.specs.Audit.{AuditRecord, unchanged, opened, fresh, Audit, audit_field, audit_record_field, record_of, olds, news, in_order, record_rule, audit_tests, audit_strings, list_strings}
use Rattle.paper.specs.declared.Which.{Which}
use Rattle.paper.specs.declared.Which.TheVariants.{OfAll, OfOld}
use Rattle.paper.specs.Arrow.{told_at}
use Rattle.paper.proofs.Lists.{and_left, and_right, all_left, all_right, all_map, all_get_d, every-all}
use Rattle.paper.proofs.Bytes.{same-eq}
use Rattle.paper.proofs.Strings.{HeadSized}
use Rattle.paper.proofs.Verdicts.{Hold}
use Rattle.paper.proofs.Layouts.{bytes-parse}
use Rattle.paper.proofs.Proofs.{lookup-lawful, history-lawful, audit-lawful}
use Rattle.paper.proofs.Fits.{ProofFits, proof-fits, head-fits, item-fits, label-fits, prefix-fits}
use Rattle.paper.proofs.Order.{rising-free}
use Rattle.paper.proofs.Step.{RecordOk, Listed, order-rising, olds-all, olds-free, news-size}
use Rattle.paper.proofs.Walk as W
use Rattle.paper.proofs.Chain.{Hashed, Opens, Stepped, root_in}
use Rattle.paper.proofs.Collide.{OneToOne, hashed_in}
use Rattle.paper.proofs.Sizes.{root-sized, news-sized}
use Rattle.paper.proofs.Shown.{Within, inside, AllShow, Shows, paths-show, show-in, show-at}
use Rattle.paper.proofs.Agree.{LookedUp, nobody, somebody, Chronicle}
use Rattle.paper.proofs.Asked.{version-asked, old-asked, last-asked, gap-asked, markers-asked}
use Rattle.paper.proofs.Accepted.{LookupTold, HistoryTold, AuditTold}
use Rattle.paper.proofs.KeyPart.{key-accepted}

-- ---- lookups and histories

module _ (lab : Labelling) (sized : Sized lab) (name : Bytes) (U : List Bytes) (f : OneToOne U) where
  abbrev F : Hashed
  F = hashed_in U f

  abbrev L : Place → Bits
  L x = label_at lab name x

  abbrev commitments : Proof → List Bytes
  commitments p = map (λ i. commitment_string i.opening i.key) p.items

  -- the head opens its digest
  pub opens : (d : Bytes) (terms : Terms) (asked : List Asked) (p : Proof) → HeadSized p.head → Within U (proof_strings lab name asked p) → Hold (proof_tests lab name d terms asked p)
      → Opens F d p.head
  unfolding proof_tests proof_strings
  opens d terms asked p s i h = record { inside = (s, i.0); hash = same-eq _ d h.0 }

  all-show : (d : Bytes) (terms : Terms) (asked : List Asked) (p : Proof) → length p.paths ≡ length asked → All path_field.Fits p.paths
      → Within U (proof_strings lab name asked p) → Hold (proof_tests lab name d terms asked p) → AllShow lab sized name U f p.head terms asked p.paths
  unfolding proof_tests proof_strings
  all-show d terms asked p n k i h =
      paths-show lab sized name U f p.head terms asked p.paths n k (all_right _ (commitments p) (path_strings lab name asked p.paths) i.1) h.1

  -- the commitment of an item was hashed
  item-hashed : (asked : List Asked) (p : Proof) → Within U (proof_strings lab name asked p) → All (λ i. commitment_string i.opening i.key ∈ U) p.items
  unfolding proof_strings
  item-hashed asked p i = all_map (λ s. s ∈ U) _ p.items (all_left _ (commitments p) _ i.1)

  abbrev made : Head → ℕ → List Item → List Path → Proof
  made h v items ps = record { head = h; number = v; items = items; paths = ps }

  lookup-shows : (h : Head) (v : ℕ) (items : List Item) (ps : List Path) → ProofFits lookup_keys (λ v t. lookup_asked v) (made h v items ps)
      → All (λ i. commitment_string i.opening i.key ∈ U) items → AllShow lab sized name U f h (lookup_terms (made h v items ps)) (lookup_asked v) ps → (c : ℕ)
      → LookedUp F L h v (accepted_key (lookup_gives lab name v h.epoch c) (lookup_field.bytes (made h v items ps)))
  unfolding epoch_at commitment_at
  lookup-shows h zero items [] g j s c = absurd s
  lookup-shows h zero items (x ∷ ps) g j s c = nobody s.0
  lookup-shows h (suc v) [] ps g j s c = absurd (omega (arith, g.keyed))
  lookup-shows h (suc v) (i ∷ items) [] g j s c = absurd s
  lookup-shows h (suc v) (i ∷ items) (x ∷ []) g j s c = absurd s.1
  lookup-shows h (suc v) (i ∷ items) (x ∷ y ∷ []) g j s c = absurd s.1.1
  lookup-shows h (suc v) (i ∷ items) (x ∷ y ∷ z ∷ ps) g j s c =
      let k = item-fits i g.items.0 in
      let e = key-accepted (made h (suc v) (i ∷ items) (x ∷ y ∷ z ∷ ps)) i items (head-fits h g.head) k.most refl (suc v) h.epoch c in
      subst (λ t. LookedUp F L h (suc v) t) (sym e) (somebody {v = suc v} {key = i.key} (record {
        some = omega arith;
        small = g.small;
        opening = i.opening;
        hashed = (k.opening.size, j.0);
        epoch = epoch_of x.end;
        there = s.0.0;
        low = leb-true (suc v) _ (and_left _ _ s.0.1);
        high = leb-true _ h.epoch (and_right (leb (suc v) (epoch_of x.end)) _ s.0.1);
        newest = s.1.0;
        mark-epoch = epoch_of z.end;
        marked = s.1.1.0.0;
      }))

  -- an accepted lookup shows its version and key, or that there is none
  pub lookup-says : (d b : Bytes) → Bytewise b → (k : LookupTold lab d name b) → Within U (lookup_strings lab name k.proof)
      → LookedUp F L k.proof.head k.proof.number (accepted_key (check_lookup lab d name b) b)
  lookup-says d b w k i =
      let p = k.proof in
      let c = length (lookup_strings lab name p) in
      let (fit, e) = bytes-parse lookup-lawful b p [] w k.found in
      let g = proof-fits 1 lookup_keys (λ v t. lookup_asked v) p fit in
      let s = all-show d (lookup_terms p) (lookup_asked p.number) p g.counted g.paths i k.holds in
      let q : accepted_key (lookup_gives lab name p.number p.head.epoch c) (lookup_field.bytes p) ≡ accepted_key (check_lookup lab d name b) b = ap₂ accepted_key (sym k.answer) e in
      subst (λ t. LookedUp F L p.head p.number t) q (lookup-shows p.head p.number p.items p.paths g (item-hashed _ p i) s c)

  -- ---- histories

  abbrev no_path : Path
  no_path = record { steps = []; end = none }

  module _ (p : Proof) (g : ProofFits (λ n. n) history_asked p) (hashed : All (λ i. commitment_string i.opening i.key ∈ U) p.items)
      (s : AllShow lab sized name U f p.head (history_terms p) (history_asked p.number p.head.epoch) p.paths) where
    abbrev h : Head
    h = p.head

    abbrev asked : List Asked
    asked = history_asked p.number h.epoch

    version-shown : (j : ℕ) → j < p.number → Shows lab sized name U f true h (history_terms p) (in_all (suc j)) (get_or p.paths j no_path)
    version-shown j l =
        let (e, k) = version-asked p.number h.epoch j l in
        subst (λ a. Shows lab sized name U f a.there h (history_terms p) a.place (get_or p.paths j no_path)) e
        (show-at lab sized name U f h (history_terms p) asked p.paths s (missing (in_all 0)) no_path j k)

    -- the epochs rise from 1 on, up to the head's
    epoch-rule : (j : ℕ) → j < p.number → (epoch_at p j < epoch_at p (suc j)) × (epoch_at p (suc j) ≤ h.epoch)
    unfolding epoch_at
    epoch-rule j l =
        let q = (version-shown j l).1 in
        let e : suc j - 1 ≡ j = omega arith in (
          subst (λ i. epoch_at p i < epoch_at p (suc j)) e (ltb-true _ _ (and_left _ _ q)),
          leb-true _ _ (and_right (ltb (epoch_at p (suc j - 1)) (epoch_at p (suc j))) _ q),
        )

    shown : (a : Asked) → a ∈ asked → (x : Path) × Shows lab sized name U f a.there h (history_terms p) a.place x
    shown a m = show-in lab sized name U f h (history_terms p) asked p.paths s a m

    chronicle : Chronicle F L h p.number (λ i. (told_at p i).key) (λ i. (told_at p i).opening) (λ i. (told_at p i).epoch)
    unfolding epoch_at commitment_at
    chronicle = record {
      small = g.small;
      range = (head-fits h g.head).0;
      hashed = λ i z l.
          let k : i - 1 < length p.items = omega (arith, g.keyed) in
          let no : Item = record { key = []; opening = [] } in
          ((item-fits _ (all_get_d _ p.items no g.items (i - 1) k)).opening.size, all_get_d (λ i. commitment_string i.opening i.key ∈ U) p.items no hashed (i - 1) k);
      there = there;
      replaced = λ i z l.
          let (x, w) = shown (present (in_old i)) (old-asked p.number h.epoch i z l) in
          subst (λ e. W.Walk F.trees (L (in_old i)) h.old (W.present (zeros wide) e)) (eqb-true _ _ w.1) w.0;
      newest = λ z. (shown (missing (in_old p.number)) (last-asked p.number h.epoch z)).1;
      gap = λ z i l k. (shown (missing (in_all i)) (gap-asked p.number h.epoch i z l k)).1;
      markers = λ z j l k. (shown (missing (as_marker j)) (markers-asked p.number h.epoch j z l k)).1;
      rising = λ i z l. (epoch-rule i l).0;
      first = λ z. (epoch-rule 0 z).0;
      reached = reached;
    }
      where
        there : (i : ℕ) → 0 < i → i ≤ p.number → W.Walk F.trees (L (in_all i)) h.all (W.present (sha256 (commitment_string (told_at p i).opening (told_at p i).key)) (told_at p i).epoch)
        there zero z l = absurd (omega arith)
        there (suc j) z l = (version-shown j l).0

        reached : (i : ℕ) → 0 < i → i ≤ p.number → (told_at p i).epoch ≤ h.epoch
        reached zero z l = absurd (omega arith)
        reached (suc j) z l = (epoch-rule j l).1

  -- an accepted history shows what it tells
  pub history-says : (d b : Bytes) → Bytewise b → (k : HistoryTold lab d name b) → Within U (history_strings lab name k.proof)
      → Chronicle F L k.proof.head k.proof.number (λ i. (told_at k.proof i).key) (λ i. (told_at k.proof i).opening) (λ i. (told_at k.proof i).epoch)
  history-says d b w k i =
      let p = k.proof in
      let (fit, e) = bytes-parse history-lawful b p [] w k.found in
      let g = proof-fits 2 (λ n. n) history_asked p fit in
      chronicle p g (item-hashed _ p i) (all-show d (history_terms p) (history_asked p.number p.head.epoch) p g.counted g.paths i k.holds)

-- ---- audits

-- one for *all*, one for *old*
abbrev on : (P : Which → Type 0) → P OfAll → P OfOld → (w : Which) → P w
on P x y OfAll = x
on P x y OfOld = y

-- what the layout and the rules ask of one record
record-ok : (w : Which) (old new : ℕ) (x : AuditRecord) → audit_record_field.Fits x → record_rule w old new x ≡ true → RecordOk new x
unfolding led record_of view seq
record-ok w old new (unchanged m c e) f r = label-fits m f.1.0.0.1.0
record-ok w old new (opened p l r) f q = prefix-fits p f.1.0.0
record-ok w old new (fresh m c e) f r = (label-fits m f.1.0.0.1.0, eqb-true e new (and_left _ _ r))

records-ok : (w : Which) (old new : ℕ) (R : List AuditRecord) → All audit_record_field.Fits R → All (λ x. record_rule w old new x ≡ true) R → All (RecordOk new) R
records-ok w old new [] f r = tt
records-ok w old new (x ∷ R) f r = (record-ok w old new x f.0 r.0, records-ok w old new R f.1 r.1)

module _ (U : List Bytes) (f : OneToOne U) where
  listed : (w : Which) (old new : ℕ) (R : List AuditRecord) → All audit_record_field.Fits R → (in_order R && every (record_rule w old new) R) ≡ true
      → Within U (list_strings R) → Listed (hashed_in U f).trees new R
  listed w old new R k r i =
      let o : in_order R ≡ true = and_left _ _ r in
      let e = records-ok w old new R k (every-all _ R (and_right (in_order R) _ r)) in
      let free = rising-free (news R) (order-rising R o) in
      let short = (news-size new R e).0 in
      let sized = news-sized R k in
      record {
        each = e;
        order = o;
        in-old = inside U f (nodes (root (olds R))) (root-sized (olds R) (olds-free R free) (olds-all _ R short) (olds-all _ R sized)) (all_left _ (map node_string (nodes (root (olds R)))) _ i);
        in-new = inside U f (nodes (root (news R))) (root-sized (news R) free short sized) (all_right _ (map node_string (nodes (root (olds R)))) _ i);
      }

  -- what fits the layout of an audit
  audit-fits : (a : Audit) → audit_field.Fits a → HeadSized a.before × HeadSized a.after × All audit_record_field.Fits a.all × All audit_record_field.Fits a.old
  unfolding view seq led times
  audit-fits a k =
      let g = k.0.1 in
      (head-fits a.before g.0, head-fits a.after g.1.0, g.1.1.0.1.1, g.1.1.1.1.1)

  -- an accepted audit is a step
  pub audit-says : (d d' b : Bytes) → Bytewise b → (k : AuditTold d d' b) → Within U (audit_strings k.audit) → Stepped (hashed_in U f) d d'
  unfolding audit_tests audit_strings
  audit-says d d' b w k i =
      let a = k.audit in
      let (fit, _) = bytes-parse audit-lawful b a [] w k.found in
      let (s, s', ka, ko) = audit-fits a fit in
      let t = k.holds in
      let ia = all_left _ (list_strings a.all) _ i.1.1 in
      let io = all_right _ (list_strings a.all) _ i.1.1 in
      record {
        before = a.before;
        after = a.after;
        opens = record { inside = (s, i.0); hash = same-eq _ d t.0 };
        opens' = record { inside = (s', i.1.0); hash = same-eq _ d' t.1.0 };
        next = eqb-true _ _ (and_left _ _ t.1.1.0);
        lists = on (λ w. List AuditRecord) a.all a.old;
        listed = on (λ w. Listed (hashed_in U f).trees a.after.epoch (on (λ w. List AuditRecord) a.all a.old w))
            (listed OfAll _ _ a.all ka t.1.1.1.0 ia)
            (listed OfOld _ _ a.old ko t.1.1.1.1.1.1.0 io);
        builds-old = on (λ w. root_digest (olds (on (λ w. List AuditRecord) a.all a.old w)) ≡ root_in a.before w)
            (same-eq _ _ t.1.1.1.1.0)
            (same-eq _ _ t.1.1.1.1.1.1.1.0);
        builds-new = on (λ w. root_digest (news (on (λ w. List AuditRecord) a.all a.old w)) ≡ root_in a.after w)
            (same-eq _ _ t.1.1.1.1.1.0)
            (same-eq _ _ t.1.1.1.1.1.1.1.1.0);
      }
