-- A path is taken by its two tests, and a walk over paths by the tests of each in order. Assumes nothing.
use mathlib.Core.Path.{◌≡◌, refl, sym, ap, ◌∙◌, subst}
use mathlib.Core.Bool.{Bool, true, false, cond, ◌&&◌}
use mathlib.Core.List.{List, [], ◌∷◌, map}
use Prim.Native.Nat.{ℕ, ◌+◌, ◌-◌, ◌≤◌}
use native.Mathlib.Omega.{arith}
use lib.Dec.{leb}
use lib.ListN.{length, drop, length-append, length-map, length-drop}
use denote.Ref.{Bor}
use Rattle.std.specs.Prelude.{Option, Some, None, is_some, ok_or, Result, Ok, Err}
use Rattle.paper.specs.Lists.{All}
use Rattle.paper.specs.Numbers.{FORM, ROOT, RULE}
use Rattle.paper.specs.Bytes.{Bytes, Bytewise, same}
use Rattle.paper.specs.Bits.{Bits, bits_of}
use Rattle.paper.specs.Strings.{node_string}
use Rattle.paper.specs.Labelling.{plain}
use Rattle.paper.specs.Layout.{Read, got, bad, times}
use Rattle.paper.specs.Fields.{path_field}
use Rattle.paper.specs.Path.{End, this, other, off, none, path_nodes, path_root, last_length, present_with, epoch_of, absent}
use Rattle.paper.specs.Path as P
use Rattle.paper.specs.Verdict.{verdict}
use Rattle.paper.specs.Shows.{Place, label_at, root_at, meets, path_tests, path_strings}
use Rattle.paper.specs.Shows as S
use Rattle.paper.specs.declared.Refusal.{Refusal}
use Rattle.paper.proofs.Lists.{all_drop}
use Rattle.paper.proofs.Proofs.{path-lawful}
use Rattle.paper.proofs.Fits.{path-fits}
use Rattle.paper.proofs.Counts.{nodes-length}
use Rattle.path.specs.Taken.{absent_by, shown_at, taken_of, taken}
use Rattle.path.specs.declared.Taken.{Taken}
use Rattle.plan.specs.Asked.{place_of, label_of}
use Rattle.shown.specs.Form.{head_in}
use Rattle.shown.specs.Terms.{asked_of, terms_by, terms_of, shown_for, met_by}
use Rattle.shown.specs.declared.Asked.{Asked}
use Rattle.shown.specs.declared.Terms.{Terms}
use Rattle.walks.specs.Walk.{stepped_of, stepped, walks}
use Rattle.walks.specs.declared.Reader.{Reader}
use Rattle.fields.proofs.Behind.{first_of}

-- ---- an option, where there is a refusal for none

pub or-there : {A E : Type 0} (o : Option A) (e : E) (x : A) → ok_or o e ≡ Ok x → o ≡ Some x
or-there None e x h = let z : ◌≡◌ {A = ℕ} 0 1 = cc in absurd (omega arith)
or-there (Some y) e x h = let u : y ≡ x = cc in ap Some u

pub or-none : {A E : Type 0} (o : Option A) (e f : E) → ok_or o e ≡ Err f → (o ≡ None) × (f ≡ e)
or-none None e f h = (refl, cc)
or-none (Some y) e f h = let z : ◌≡◌ {A = ℕ} 0 1 = cc in absurd (omega arith)

-- ---- one path

-- where no leaf of the label is shown, its absence is all that can be met
shut_out : (o : Option Terms) (b : Bool) → cond (is_some o) false b ≡ shown_for o (absent_by b)
shut_out None true = refl
shut_out None false = refl
shut_out (Some t) true = refl
shut_out (Some t) false = refl

-- what a path's end shows is what is asked, or not
met-end : (o : Option Terms) (x : Place) (L : Bits) (k : ℕ) (e : End)
    → cond (is_some o) (present_with ((terms_by o).commitment x) e && (terms_by o).epoch x (epoch_of e)) (absent L k e) ≡ shown_for o (shown_at L k e)
unfolding present_with absent
met-end None x L k (this c e) = refl
met-end (Some t) x L k (this c e) = refl
met-end o x L k (other m c e) = shut_out o (absent L k (other m c e))
met-end o x L k (off p l r) = shut_out o (absent L k (off p l r))
met-end o x L k none = shut_out o true

-- a reader that goes on from a path as it was taken: "4 before 5"
abbrev stepped_by : Asked → Reader → Option Taken → Result Reader Refusal
stepped_by a r None = Err FORM
stepped_by a r (Some t) =
    cond t.matches
    (cond (met_by a t.shows) (Ok (record { proof = r.proof; name = r.name; at = t.next; digests = r.digests + t.nodes + 2 })) (Err RULE))
    (Err ROOT)

module _ (a : Asked) (r : Reader) (label root : Bytes) (o : Option Taken)
    (own : label ≡ label_of r.name.now a.place) (tree : root ≡ root_at (head_in r.proof.now) (place_of a.place)) (took : o ≡ taken r.proof.now r.at label root) where
  by-taken : stepped a r ≡ stepped_by a r o
  unfolding stepped taken path_tests meets verdict
  by-taken = rw (took, own, tree) (by (path_field.read (drop r.at r.proof.now)))
    where
      by : (x : Read P.Path) → stepped_of a r x
          ≡ stepped_by a r (taken_of (length r.proof.now) (label_of r.name.now a.place) (root_at (head_in r.proof.now) (place_of a.place)) x)
      by bad = refl
      by (got x q) = rw (met-end a.terms (place_of a.place) (bits_of (label_of r.name.now a.place)) (last_length x.steps) x.end)

  pub step-bad : o ≡ None → stepped a r ≡ Err FORM
  step-bad g = by-taken ∙ rw g

  module _ (t : Taken) (g : o ≡ Some t) where
    pub step-root : t.matches ≡ false → stepped a r ≡ Err ROOT
    step-root m = by-taken ∙ rw (g, m)

    pub step-rule : t.matches ≡ true → met_by a t.shows ≡ false → stepped a r ≡ Err RULE
    step-rule m h = by-taken ∙ rw (g, m, h)

    pub step-on : t.matches ≡ true → met_by a t.shows ≡ true → stepped a r ≡ Ok (record { proof = r.proof; name = r.name; at = t.next; digests = r.digests + t.nodes + 2 })
    step-on m h = by-taken ∙ rw (g, m, h)

-- ---- path after path

-- the terms of a proof are those that are asked of a place; where it is to be absent there are none
abbrev pub SuitsAt : S.Terms → Place → Option Terms → Type 0
SuitsAt terms x None = Unit {0}
SuitsAt terms x (Some t) = (terms.commitment x ≡ t.commitment) × ((e : ℕ) → terms.epoch x e ≡ (leb t.low e && leb e t.high))

abbrev pub Suits : S.Terms → Asked → Type 0
Suits terms a = SuitsAt terms (place_of a.place) a.terms

-- what a walk comes to, where a refusal is made one way and the count another
abbrev pub over : {A : Type 0} → (Refusal → A) → (ℕ → A) → Result Reader Refusal → A
over refuse answer (Err e) = refuse e
over refuse answer (Ok r) = answer r.digests

-- where a path that stands there passes, it is counted, and the reader stands behind it
pub record Passed (r q : Reader) : Type 0 where
  pub path : P.Path
  pub behind : Bytes
  pub reads : path_field.read (drop r.at r.proof.now) ≡ got path behind
  pub count : q.digests ≡ r.digests + length path.steps + 2
  pub place : q.at ≡ length r.proof.now - length behind
  pub proof : q.proof ≡ r.proof
  pub name : q.name ≡ r.name

-- whether a path gives the root of what it is asked for
abbrev rooted : Bytes → Bytes → Asked → P.Path → Bool
rooted s name a x = same (path_root (label_at plain name (place_of a.place)) x) (root_at (head_in s) (place_of a.place))

pub step-passed : (a : Asked) (r q : Reader) → stepped a r ≡ Ok q → Passed r q
unfolding stepped path_tests verdict
step-passed a r q h = by (path_field.read (drop r.at r.proof.now)) refl h
  where
    on : (x : P.Path) (rest : Bytes) → path_field.read (drop r.at r.proof.now) ≡ got x rest → (b c : Bool)
        → cond b (cond c (Ok (record { proof = r.proof; name = r.name; at = length r.proof.now - length rest; digests = r.digests + length x.steps + 2 })) (Err RULE)) (Err ROOT) ≡ Ok q → Passed r q
    on x rest e true true h =
        let u : ◌≡◌ {A = Reader} (record { proof = r.proof; name = r.name; at = length r.proof.now - length rest; digests = r.digests + length x.steps + 2 }) q = cc in
        record {
          path = x;
          behind = rest;
          reads = e;
          count = sym (ap (λ (q : Reader). q.digests) u);
          place = sym (ap (λ (q : Reader). q.at) u);
          proof = sym (ap (λ (q : Reader). q.proof) u);
          name = sym (ap (λ (q : Reader). q.name) u);
        }
    on x rest e true false h = let z : ◌≡◌ {A = ℕ} 0 1 = cc in absurd (omega arith)
    on x rest e false c h = let z : ◌≡◌ {A = ℕ} 0 1 = cc in absurd (omega arith)

    by : (x : Read P.Path) → path_field.read (drop r.at r.proof.now) ≡ x → stepped_of a r x ≡ Ok q → Passed r q
    by bad e h = let z : ◌≡◌ {A = ℕ} 0 1 = cc in absurd (omega arith)
    by (got x rest) e h = on x rest e (rooted r.proof.now r.name.now a x) (meets plain r.name.now (terms_of a) (asked_of a) x) h

-- a path counts at most 258 digests
pub step-counted : (a : Asked) (r q : Reader) → Bytewise r.proof.now → stepped a r ≡ Ok q → q.digests ≤ r.digests + 258
step-counted a r q w h =
    let p = step-passed a r q h in
    let f = (path-lawful.tells (drop r.at r.proof.now) p.path p.behind (all_drop _ r.at r.proof.now w) p.reads).0 in
    omega (arith, p.count, (path-fits p.path f).most)

pub walks-refused : (l : List Asked) (e : Refusal) → walks l (Err e) ≡ Err e
unfolding walks
walks-refused [] e = refl
walks-refused (a ∷ l) e = walks-refused l e

module _ (p n : Bor Bytes) where
  -- the proof and the name, read up to a place
  abbrev pub reader : ℕ → ℕ → Reader
  reader at d = record { proof = p; name = n; at = at; digests = d }

  module _ (terms : S.Terms) where
    meets-same : (a : Asked) (x : P.Path) → Suits terms a → meets plain n.now (terms_of a) (asked_of a) x ≡ meets plain n.now terms (asked_of a) x
    unfolding meets
    meets-same a x u = by a.terms u
      where
        by : (o : Option Terms) → SuitsAt terms (place_of a.place) o
            → cond (is_some o) (present_with ((terms_by o).commitment (place_of a.place)) x.end && (terms_by o).epoch (place_of a.place) (epoch_of x.end)) (absent (label_at plain n.now (place_of a.place)) (last_length x.steps) x.end)
            ≡ cond (is_some o) (present_with (terms.commitment (place_of a.place)) x.end && terms.epoch (place_of a.place) (epoch_of x.end)) (absent (label_at plain n.now (place_of a.place)) (last_length x.steps) x.end)
        by None u = refl
        by (Some t) u = rw (u.0, u.1 (epoch_of x.end))

    -- "m+2 for each path"
    count-step : (a : Asked) (l : List Asked) (x : P.Path) (ps : List P.Path) (d : ℕ)
        → d + length x.steps + 2 + length (path_strings plain n.now (map asked_of l) ps) ≡ d + length (path_strings plain n.now (map asked_of (a ∷ l)) (x ∷ ps))
    unfolding path_strings
    count-step a l x ps d =
        let N = path_nodes (label_at plain n.now (place_of a.place)) x.steps x.end in
        omega (arith, length-append (map node_string N) (path_strings plain n.now (map asked_of l) ps), length-map N node_string, nodes-length (label_at plain n.now (place_of a.place)) x.steps x.end)

    -- a path that stands there is taken by its two tests
    stepped-at : (a : Asked) (x : P.Path) (at next d : ℕ) → next ≤ length p.now → Suits terms a → path_field.read (drop at p.now) ≡ got x (drop next p.now)
        → stepped a (reader at d)
        ≡ cond (rooted p.now n.now a x) (cond (meets plain n.now terms (asked_of a) x) (Ok (reader next (d + length x.steps + 2))) (Err RULE)) (Err ROOT)
    unfolding stepped path_tests verdict
    stepped-at a x at next d l u e =
        let k : length p.now - length (drop next p.now) ≡ next = omega (arith, length-drop next p.now) in
        rw (e, meets-same a x u, k)

    -- the tests of all paths in order, and the count of all the strings that they hash
    module _ (w : Bytewise p.now) {A : Type 0} (refuse : Refusal → A) (answer : ℕ → A) where
      pub walks-tests : (l : List Asked) (ps : List P.Path) (at d : ℕ) → at ≤ length p.now → (times (length l) path_field).read (drop at p.now) ≡ got ps [] → All (Suits terms) l
          → over refuse answer (walks l (Ok (reader at d)))
          ≡ verdict refuse (answer (d + length (path_strings plain n.now (map asked_of l) ps))) (path_tests plain n.now (head_in p.now) terms (map asked_of l) ps)
      unfolding walks path_tests verdict path_strings
      walks-tests [] ps at d r h u = let z : d ≡ d + 0 = omega arith in ap answer z
      walks-tests (a ∷ l) ps at d r h u =
          let f = first_of path-lawful p.now w at (length l) ps [] r h in
          let x = f.value in
          let again = walks-tests l f.others f.next (d + length x.steps + 2) f.room f.rest u.1 in
          subst
          (λ ps. over refuse answer (walks l (stepped a (reader at d)))
          ≡ verdict refuse (answer (d + length (path_strings plain n.now (map asked_of (a ∷ l)) ps))) (path_tests plain n.now (head_in p.now) terms (map asked_of (a ∷ l)) ps))
          f.is
          (subst
          (λ k. over refuse answer (walks l (stepped a (reader at d))) ≡ verdict refuse (answer k) (path_tests plain n.now (head_in p.now) terms (map asked_of (a ∷ l)) (x ∷ f.others)))
          (count-step a l x f.others d)
          (rw (stepped-at a x at f.next d f.room u.0 f.reads) (by x f.next _ again (rooted p.now n.now a x) (meets plain n.now terms (asked_of a) x))))
        where
          by : (x : P.Path) (next : ℕ) (v : A) → over refuse answer (walks l (Ok (reader next (d + length x.steps + 2)))) ≡ v → (b c : Bool)
              → over refuse answer (walks l (cond b (cond c (Ok (reader next (d + length x.steps + 2))) (Err RULE)) (Err ROOT))) ≡ cond b (cond c v (refuse RULE)) (refuse ROOT)
          by x next v e true true = e
          by x next v e true false = rw (walks-refused l RULE)
          by x next v e false c = rw (walks-refused l ROOT)
