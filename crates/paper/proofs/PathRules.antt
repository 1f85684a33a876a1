-- The tests of a lookup's and a history's paths hold exactly where the rules of specs/Rules.antt do; and they are, in their order, the tests of the rules
-- of specs/Broken.antt. Assumes nothing.
use mathlib.Core.Path.{◌≡◌, refl, sym, ap, ◌∙◌, subst}
use mathlib.Core.Logic.{◌↔◌}
use mathlib.Core.Bool.{Bool, true, false, cond, ◌&&◌}
use mathlib.Core.List.{List, [], ◌∷◌}
use Prim.Native.Nat.{ℕ, zero, suc, ◌+◌, ◌-◌, ◌^◌, ◌≤◌, ◌<◌}
use native.Mathlib.Omega.{arith}
use lib.ListN.{length, get_or}
use lib.Pow.{pow_mono, pow_pos}
use Rattle.fips.specs.Sha256.{sha256}
use Rattle.paper.specs.Numbers.{wide, version_most}
use Rattle.paper.specs.Bytes.{Bytes, zeros}
use Rattle.paper.specs.Bits.{Bits, log2}
use Rattle.paper.specs.Strings.{Head, head_string}
use Rattle.paper.specs.Labelling.{Labelling}
use Rattle.paper.specs.Path.{this, none, Path, path_root, last_length, present_with, epoch_of, absent}
use Rattle.paper.specs.Verdict.{Hold}
use Rattle.paper.specs.Shows.{Place, in_all, in_old, as_marker, Asked, present, missing, Proof, Terms, root_at, epoch_at, commitment_at, label_at, meets, path_tests, proof_tests}
use Rattle.paper.specs.Lookup.{lookup_asked, lookup_terms}
use Rattle.paper.specs.History.{history_asked, history_terms}
use Rattle.paper.specs.Rules.{Present, path_at, Registered, LookupRules, Versions, HistoryRules}
use Rattle.paper.specs.Broken.{ShownEnd, paths_in_order, LookupEpoch, HistoryEpoch, lookup_in_order, history_in_order}
use Rattle.paper.specs.Refusals.{lookup_tests, history_tests}
use Rattle.paper.proofs.Marker.{log2-spec}
use Rattle.paper.proofs.Reflect.{Tells, both-tell, le-tells, lt-tells, eq-tells, same-tells, present-tells, absent-tells}
use Rattle.paper.proofs.Each.{Each, each-lookup, HistoryEach, each-history}
use Rattle.paper.proofs.Checked.{Alike}

module _ (lab : Labelling) (name : Bytes) (h : Head) (terms : Terms) (E : Place → ℕ → Type 0) (epochs : (x : Place) (e : ℕ) → Tells (terms.epoch x e) (E x e)) where
  -- the two rules of a path: it gives the root, and its end shows what is asked
  abbrev PathRule : Asked → Path → Type 0
  PathRule a x =
      (path_root (label_at lab name a.place) x ≡ root_at h a.place)
      × ShownEnd a.there (label_at lab name a.place) (terms.commitment a.place) (E a.place) x

  meets-tells : (a : Asked) (x : Path) → Tells (meets lab name terms a x) (ShownEnd a.there (label_at lab name a.place) (terms.commitment a.place) (E a.place) x)
  unfolding meets
  meets-tells a x = by a.there
    where
      L : Bits
      L = label_at lab name a.place

      c : Bytes
      c = terms.commitment a.place

      by : (t : Bool) → Tells (cond t (present_with c x.end && terms.epoch a.place (epoch_of x.end)) (absent L (last_length x.steps) x.end)) (ShownEnd t L c (E a.place) x)
      by true =
          let (to, from) = both-tell (present-tells c x.end) (epochs a.place (epoch_of x.end)) in (
            λ m. let (q, t) = to m in (epoch_of x.end, q, t),
            λ (e, q, t).
                let n : epoch_of x.end ≡ e = ap epoch_of q in
                from (q ∙ ap (this c) (sym n), subst (E a.place) (sym n) t),
          )
      by false = absent-tells L (last_length x.steps) x.end

  tests-alike : (asked : List Asked) (ps : List Path) → Alike (path_tests lab name h terms asked ps) (paths_in_order lab name h terms.commitment E asked ps)
  unfolding path_tests
  tests-alike [] ps = tt
  tests-alike (a ∷ more) [] = tt
  tests-alike (a ∷ more) (x ∷ ps) = (refl, same-tells _ _, (refl, meets-tells a x, tests-alike more ps))

  -- the tests of paths, place by place
  tests-each : (asked : List Asked) (ps : List Path) (f : ℕ → Path) (k : ℕ) → length ps ≡ length asked → ((i : ℕ) → f (k + i) ≡ get_or ps i (record { steps = []; end = none }))
      → Hold (path_tests lab name h terms asked ps) ↔ Each (λ k a. PathRule a (f k)) k asked
  unfolding path_tests
  tests-each [] ps f k n g = (λ _. tt, λ _. tt)
  tests-each (a ∷ more) [] f k n g = absurd (omega arith)
  tests-each (a ∷ more) (x ∷ ps) f k n g =
      let z : k ≡ k + 0 = omega arith in
      let e : f k ≡ x = ap f z ∙ g 0 in
      let (to, from) = tests-each more ps f (suc k) (omega arith) (λ i. let s : suc k + i ≡ k + suc i = omega arith in ap f s ∙ g (suc i)) in
      let (s, t) = same-tells (path_root (label_at lab name a.place) x) (root_at h a.place) in
      let (m, u) = meets-tells a x in (
        λ (r, (y, q)). (subst (PathRule a) (sym e) (s r, m y), to q),
        λ (r, q). let (y, v) = subst (PathRule a) e r in (t y, (u v, from q)),
      )

epoch-at : (p : Proof) (i : ℕ) → epoch_at p i ≡ epoch_of (path_at p i).end
unfolding epoch_at
epoch-at p zero = refl
epoch-at p (suc i) = refl

module _ (lab : Labelling) (d name : Bytes) (p : Proof) where
  -- the tests of a proof: its head's, and its paths', place by place
  proof-each : (terms : Terms) (E : Place → ℕ → Type 0) (epochs : (x : Place) (e : ℕ) → Tells (terms.epoch x e) (E x e)) (asked : List Asked) → length p.paths ≡ length asked
      → Hold (proof_tests lab name d terms asked p) ↔ ((sha256 (head_string p.head) ≡ d) × Each (λ k a. PathRule lab name p.head terms E epochs a (path_at p k)) 1 asked)
  unfolding proof_tests
  proof-each terms E epochs asked n =
      let (to, from) = tests-each lab name p.head terms E epochs asked p.paths (path_at p) 1 n (λ i. let e : 1 + i ≡ suc i = omega arith in ap (path_at p) e) in
      let (s, t) = same-tells (sha256 (head_string p.head)) d in
      (λ (h, q). (s h, to q), λ (h, q). (t h, from q))

  -- ---- lookups

  lookup-epochs : (x : Place) (e : ℕ) → Tells ((lookup_terms p).epoch x e) (LookupEpoch p x e)
  lookup-epochs (in_all v) e = both-tell (le-tells v e) (le-tells e p.head.epoch)
  lookup-epochs (in_old v) e = (λ _. tt, λ _. refl)
  lookup-epochs (as_marker j) e = both-tell (le-tells (2 ^ j) e) (le-tells e (epoch_at p 1))

  abbrev LookupRule : ℕ → Asked → Type 0
  LookupRule k a = PathRule lab name p.head (lookup_terms p) (LookupEpoch p) lookup-epochs a (path_at p k)

  registered : (v : ℕ) → LookupRule 1 (present (in_all v)) × LookupRule 2 (missing (in_old v)) × LookupRule 3 (present (as_marker (log2 v))) → Registered lab d name p v
  registered v ((g, (e, q, (low, high))), (g', a), (g'', (m, r, (least, most)))) = record {
    e = e;
    version-there = record { gives = g; ends = q };
    epoch-least = low;
    epoch-most = high;
    not-replaced = record { gives = g'; ends = a };
    marker-epoch = m;
    marker-there = record { gives = g''; ends = r };
    marker-least = least;
    marker-most = omega (arith, epoch-at p 1, ap epoch_of q);
  }

  registered-back : (v : ℕ) → Registered lab d name p v → LookupRule 1 (present (in_all v)) × LookupRule 2 (missing (in_old v)) × LookupRule 3 (present (as_marker (log2 v)))
  registered-back v g = (
    (g.version-there.gives, (g.e, g.version-there.ends, (g.epoch-least, g.epoch-most))),
    (g.not-replaced.gives, g.not-replaced.ends),
    (g.marker-there.gives, (g.marker-epoch, g.marker-there.ends, (g.marker-least, omega (arith, epoch-at p 1, ap epoch_of g.version-there.ends, g.marker-most)))),
  )

  pub lookup-rules : length p.paths ≡ length (lookup_asked p.number) → Hold (lookup_tests lab d name p) ↔ LookupRules lab d name p
  lookup-rules n =
      let (to, from) = proof-each (lookup_terms p) (LookupEpoch p) lookup-epochs (lookup_asked p.number) n in
      let (each, back) = each-lookup LookupRule p.number in (
        λ h.
            let (o, q) = to h in
            let (z, s) = each q in
            record { opens = o; unregistered = λ e. let (g, a) = z e in record { gives = g; ends = a }; registered = λ l. registered p.number (s l) },
        λ r. from (r.opens, back (λ e. ((r.unregistered e).gives, (r.unregistered e).ends), λ l. registered-back p.number (r.registered l))),
      )

  pub lookup-alike : Alike (lookup_tests lab d name p) (lookup_in_order lab d name p)
  unfolding proof_tests
  lookup-alike = (refl, same-tells _ _, tests-alike lab name p.head (lookup_terms p) (LookupEpoch p) lookup-epochs (lookup_asked p.number) p.paths)

  -- ---- histories

  history-epochs : (x : Place) (e : ℕ) → Tells ((history_terms p).epoch x e) (HistoryEpoch p x e)
  history-epochs (in_all i) e = both-tell (lt-tells (epoch_at p (i - 1)) e) (le-tells e p.head.epoch)
  history-epochs (in_old i) e = eq-tells e (epoch_at p (suc i))
  history-epochs (as_marker j) e = eq-tells e (epoch_at p (2 ^ j))

  abbrev HistoryRule : ℕ → Asked → Type 0
  HistoryRule k a = PathRule lab name p.head (history_terms p) (HistoryEpoch p) history-epochs a (path_at p k)

  -- the epoch of the i-th path's leaf is the version's
  version-told : (i : ℕ) → HistoryRule i (present (in_all i))
      → Present (label_at lab name (in_all i)) p.head.all (path_at p i) (commitment_at p i) (epoch_at p i) × (epoch_at p (i - 1) < epoch_at p i) × (epoch_at p i ≤ p.head.epoch)
  version-told i (g, (e, q, (low, high))) =
      let z : e ≡ epoch_at p i = sym (epoch-at p i ∙ ap epoch_of q) in
      (record { gives = g; ends = q ∙ ap (this (commitment_at p i)) z }, omega arith, omega arith)

  history-versions : (n : ℕ) → HistoryEach HistoryRule n p.head.epoch → Versions lab d name p n p.head.epoch (epoch_at p)
  history-versions n s = record {
    there = λ i l u. (version-told i (s.there i l u)).0;
    first = λ l. omega (arith, (version-told 1 (s.there 1 (omega arith) l)).1);
    rise = λ i l u.
        let z : suc i - 1 ≡ i = omega arith in
        omega (arith, subst (λ j. epoch_at p j < epoch_at p (suc i)) z (version-told (suc i) (s.there (suc i) (omega arith) u)).1);
    reach = λ i l u. (version-told i (s.there i l u)).2;
    replaced = λ i l u. let (g, (e, q, t)) = s.replaced i l u in record { gives = g; ends = q ∙ ap (this (zeros wide)) t };
    not-replaced = λ l. let (g, a) = s.not-replaced l in record { gives = g; ends = a };
    none_after = λ z i l u. let (g, a) = s.none_after z i l u in record { gives = g; ends = a };
    marked = λ z j u. let (g, (e, q, t)) = s.marked z j u in record { gives = g; ends = q ∙ ap (this (zeros wide)) t };
    unmarked = λ z t j l u. let (g, a) = s.unmarked z t j l u in record { gives = g; ends = a };
    no-version = λ z t j u. let (g, a) = s.no-version z t j u in record { gives = g; ends = a };
  }

  module _ (n : ℕ) (small : n ≤ version_most) (e : ℕ → ℕ) (v : Versions lab d name p n p.head.epoch e) where
    -- the epoch at a version's place is the version's
    epoch-told : (i : ℕ) → 1 ≤ i → i ≤ n → epoch_at p i ≡ e i
    epoch-told i l u = epoch-at p i ∙ ap epoch_of (v.there i l u).ends

    epoch-before : (i : ℕ) → 1 ≤ i → i ≤ n → epoch_at p (i - 1) < e i
    epoch-before zero l u = absurd (omega arith)
    epoch-before (suc zero) l u = omega (arith, v.first (omega arith), epoch-at p 0)
    epoch-before (suc (suc j)) l u =
        let z : suc (suc j) - 1 ≡ suc j = omega arith in
        subst (λ i. epoch_at p i < e (suc (suc j))) (sym z) (omega (arith, epoch-told (suc j) (omega arith) (omega arith), v.rise (suc j) (omega arith) (omega arith)))

    -- "the epoch of version 2^j", of a version that there is
    marker-told : (j : ℕ) → 1 ≤ n → j ≤ log2 n → e (2 ^ j) ≡ epoch_at p (2 ^ j)
    marker-told j z u = sym (epoch-told (2 ^ j) (pow_pos j) (omega (arith, log2-spec n z (omega arith), pow_mono {i = j} {j = log2 n} u)))

    versions-back : HistoryEach HistoryRule n p.head.epoch
    versions-back = record {
      there = λ i l u. let q = v.there i l u in (q.gives, (e i, q.ends, (epoch-before i l u, v.reach i l u)));
      replaced = λ i l u. let q = v.replaced i l u in (q.gives, (e (suc i), q.ends, sym (epoch-told (suc i) (omega arith) u)));
      not-replaced = λ l. let q = v.not-replaced l in (q.gives, q.ends);
      none_after = λ z i l u. let q = v.none_after z i l u in (q.gives, q.ends);
      marked = λ z j u. let q = v.marked z j u in (q.gives, (e (2 ^ j), q.ends, marker-told j z u));
      unmarked = λ z t j l u. let q = v.unmarked z t j l u in (q.gives, q.ends);
      no-version = λ z t j u. let q = v.no-version z t j u in (q.gives, q.ends);
    }

  pub history-rules : p.number ≤ version_most → length p.paths ≡ length (history_asked p.number p.head.epoch) → Hold (history_tests lab d name p) ↔ HistoryRules lab d name p
  history-rules small n =
      let (to, from) = proof-each (history_terms p) (HistoryEpoch p) history-epochs (history_asked p.number p.head.epoch) n in
      let (each, back) = each-history HistoryRule p.number p.head.epoch small in (
        λ h. let (o, q) = to h in record { opens = o; e = epoch_at p; versions = history-versions p.number (each q) },
        λ r. from (r.opens, back (versions-back p.number small r.e r.versions)),
      )

  pub history-alike : Alike (history_tests lab d name p) (history_in_order lab d name p)
  unfolding proof_tests
  history-alike =
      (refl, same-tells _ _, tests-alike lab name p.head (history_terms p) (HistoryEpoch p) history-epochs (history_asked p.number p.head.epoch) p.paths)
