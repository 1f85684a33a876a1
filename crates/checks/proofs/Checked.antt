-- What the check answers, test by test in its order. Assumes nothing.
use mathlib.Core.Path.{◌≡◌, refl, sym, ap, ◌∙◌}
use mathlib.Core.Bool.{true, false, and-false}
use mathlib.Core.Logic.{◌⊎◌, inl, inr}
use mathlib.Core.List.{List, [], map}
use Prim.Native.Nat.{ℕ, zero, suc, ◌+◌, ◌≤◌}
use native.Mathlib.Omega.{arith}
use lib.ListN.{length, length-append, length-map}
use denote.Ref.{Bor}
use borrow.Author.Tests.{eq-eqb, ne_eqb}
use Rattle.std.specs.Prelude.{Some, None, Result, Ok, Err}
use Rattle.fips.specs.Sha256.{sha256}
use Rattle.paper.specs.Lists.{All}
use Rattle.paper.specs.Numbers.{INPUT, FORM, HEAD}
use Rattle.paper.specs.Bytes.{Bytes, Bytewise, same}
use Rattle.paper.specs.Strings.{head_string, commitment_string}
use Rattle.paper.specs.Labelling.{plain}
use Rattle.paper.specs.Layout.{parse}
use Rattle.paper.specs.Fields.{is_name}
use Rattle.paper.specs.Verdict.{verdict}
use Rattle.paper.specs.Shows.{Proof, path_tests, path_strings, proof_tests, proof_strings, input_tests}
use Rattle.paper.specs.Shows as S
use Rattle.paper.specs.declared.Refusal.{Refusal}
use Rattle.paper.specs.Path.{Path}
use Rattle.paper.proofs.Layouts.{bytes-parse}
use Rattle.paper.proofs.Proofs.{proof-lawful}
use Rattle.paper.proofs.Fits.{proof-fits}
use Rattle.plan.specs.Asked.{asked_by}
use Rattle.plan.specs.Kinds.{kind_number, keys_in}
use Rattle.plan.specs.declared.Kind.{Kind}
use Rattle.plan.specs.declared.Kind.TheVariants.{Lookup, History}
use Rattle.shown.specs.Form.{front_at, head_in, first_path}
use Rattle.shown.specs.Terms.{asked_of}
use Rattle.shown.specs.declared.Asked.{Asked}
use Rattle.shown.proofs.Fronts.{front-told}
use Rattle.shown.proofs.Formed.{front-refused, body_refused, Formed}
use Rattle.walks.specs.Walk.{walks}
use Rattle.walks.proofs.Walked.{Suits, over, reader, walks-tests}
use Rattle.runs.specs.Runs.{ItemsStand}
use Rattle.rows.specs.Rows.{rows_ask}
use Rattle.checks.specs.Checked.{field_of, terms_in, checked_of, checked}
use Rattle.checks.specs.declared.Accepted.{Accepted}
use Rattle.checks.proofs.Lookup as L
use Rattle.checks.proofs.History as H

-- a lookup has one key at most
pub keys-few : (k : Kind) (n : ℕ) → n ≤ 1023 → keys_in k n ≤ 1023
keys-few Lookup zero h = omega arith
keys-few Lookup (suc v) h = omega arith
keys-few History n h = h

-- ---- by the kind: what the rows are asked, on which terms, and the keys

-- the proof that is read, and all that its rows are asked
abbrev read_as : Bytes → ℕ → List S.Item → List Path → Proof
read_as s n items paths = record { head = head_in s; number = n; items = items; paths = paths }

abbrev asks_of : Kind → Bytes → ℕ → ℕ → ℕ → List Asked
asks_of k s n t start = rows_ask s start (record { kind = k; number = n; epoch = t })

-- where a front stands, and the proof behind it is in layout
abbrev FrontStands : Kind → Bytes → ℕ → ℕ → Type 0
FrontStands k s n t = front_at (kind_number k) s ≡ Some (record { number = n; epoch = t })

module _ (s : Bytes) (w : Bytewise s) (n t start : ℕ) where
  abbrev InForm : (k : Kind) → FrontStands k s n t → Type 0
  InForm k front = Formed (kind_number k) (keys_in k) (asked_by k) s w n t front start

  asks-by : (k : Kind) (front : FrontStands k s n t) → InForm k front → map asked_of (asks_of k s n t start) ≡ asked_by k n t
  asks-by Lookup front f = L.asks-are s w n t front start f n
  asks-by History front f = H.asks-are s start t n

  suit-by : (k : Kind) (front : FrontStands k s n t) (f : InForm k front) → All (Suits (terms_in k (read_as s n f.items f.paths))) (asks_of k s n t start)
  suit-by Lookup front f = L.asks-suit s w n t front start f n (λ h. h)
  suit-by History front f = H.asks-suit s w n t front start f n refl

  keys-by : (k : Kind) (front : FrontStands k s n t) → InForm k front → ItemsStand s (keys_in k n)
  keys-by Lookup front f = L.keys-stand s w n t front start f
  keys-by History front f = H.keys-stand s w n t front start f

-- ---- what the check answers

-- the answer with so many digests
abbrev pub accepted : ℕ → ℕ → ℕ → Result Accepted Refusal
accepted n t d = Ok (record { number = n; epoch = t; digests = d })

module _ (k : Kind) (d : Bytes) (nm p : Bor Bytes) where
  pub input-refused : ((length d ≡ 32) → ⊥) ⊎ (is_name nm.now ≡ false) → checked k d nm.now p.now ≡ Err INPUT
  unfolding checked input_tests verdict
  input-refused (inl h) = rw (ne_eqb (length d) 32 h)
  input-refused (inr h) = rw (h, and-false)

  module _ (sized : length d ≡ 32) (named : is_name nm.now ≡ true) (w : Bytewise p.now) where
    past-input : checked k d nm.now p.now ≡ checked_of k d nm.now (parse (field_of k) p.now)
    unfolding checked input_tests verdict
    past-input = rw (eq-eqb (length d) 32 sized, named)

    pub no_front : front_at (kind_number k) p.now ≡ None → checked k d nm.now p.now ≡ Err FORM
    no_front e = past-input ∙ ap (checked_of k d nm.now) (front-refused (kind_number k) (keys_in k) (asked_by k) p.now w e)

    module _ (n t : ℕ) (front : FrontStands k p.now n t) where
      pub no_body : first_path (keys_in k n) (length (asked_by k n t)) p.now ≡ None → checked k d nm.now p.now ≡ Err FORM
      no_body e = past-input ∙ ap (checked_of k d nm.now) (body_refused (kind_number k) (keys_in k) (asked_by k) p.now w n t front e)

      module _ (start : ℕ) (f : InForm p.now w n t start k front) where
        abbrev read : Proof
        read = read_as p.now n f.items f.paths

        pub keys-stand : ItemsStand p.now (keys_in k n)
        keys-stand = keys-by p.now w n t start k front f

        past-form : checked k d nm.now p.now
            ≡ verdict Err (accepted n (head_in p.now).epoch (length (proof_strings plain nm.now (asked_by k n (head_in p.now).epoch) read)))
            (proof_tests plain nm.now d (terms_in k read) (asked_by k n (head_in p.now).epoch) read)
        past-form = past-input ∙ ap (checked_of k d nm.now) f.found

        pub head-refused : same (sha256 (head_string (head_in p.now))) d ≡ false → checked k d nm.now p.now ≡ Err HEAD
        unfolding verdict proof_tests
        head-refused e = past-form ∙ rw e

        -- "1 for the head, 1 for each key"
        strings-count : (l : List S.Asked) → 1 + keys_in k n + length (path_strings plain nm.now l f.paths) ≡ length (proof_strings plain nm.now l read)
        unfolding proof_strings
        strings-count l =
            let g = proof-fits (kind_number k) (keys_in k) (asked_by k) read (bytes-parse (proof-lawful (kind_number k) (keys_in k) (asked_by k)) p.now read [] w f.found).0 in
            omega (
              arith,
              g.keyed,
              length-append (map (λ i. commitment_string i.opening i.key) f.items) (path_strings plain nm.now l f.paths),
              length-map f.items (λ i. commitment_string i.opening i.key),
            )

        asks-length : length (asks_of k p.now n t start) ≡ length (asked_by k n t)
        asks-length = sym (length-map (asks_of k p.now n t start) asked_of) ∙ ap length (asks-by p.now w n t start k front f)

        abbrev verdict_at : ℕ → Result Accepted Refusal
        verdict_at u =
            verdict Err (accepted n u (length (proof_strings plain nm.now (asked_by k n u) read))) (path_tests plain nm.now (head_in p.now) (terms_in k read) (asked_by k n u) f.paths)

        tested : over Err (accepted n t) (walks (asks_of k p.now n t start) (Ok (reader p nm start (1 + keys_in k n)))) ≡ verdict_at (head_in p.now).epoch
        tested =
            walks-tests p nm (terms_in k read) w Err (accepted n t) (asks_of k p.now n t start) f.paths start (1 + keys_in k n) f.room (rw asks-length f.walks) (suit-by p.now w n t start k front f)
            ∙ rw (asks-by p.now w n t start k front f, strings-count (asked_by k n t))
            (ap verdict_at (front-told (kind_number k) p.now w n t front).epoch)

        pub answered : same (sha256 (head_string (head_in p.now))) d ≡ true
            → checked k d nm.now p.now ≡ over Err (accepted n t) (walks (asks_of k p.now n t start) (Ok (reader p nm start (1 + keys_in k n))))
        unfolding verdict proof_tests
        answered e = past-form ∙ rw e (sym tested)
