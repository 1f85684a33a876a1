-- What an audit's layout reads at the place of records, of a list, of a head, and in the whole proof. Assumes nothing.
use mathlib.Core.Path.{◌≡◌, refl, sym, ap, ap₂, ◌∙◌}
use mathlib.Core.Logic.{by_cases}
use mathlib.Core.Bool.{Bool, true, false, cond, ◌&&◌, and-true, and-false}
use mathlib.Core.List.{List, [], ◌∷◌, ◌++◌}
use Prim.Native.Nat.{ℕ, zero, suc, ◌+◌, ◌-◌, ◌*◌, ◌≤◌, ◌<◌}
use native.Mathlib.Omega.{arith}
use native.Mathlib.Decide.{dec_le}
use lib.Dec.{leb, eqb, eqb-zero-suc, eqb-suc-suc}
use lib.ListN.{length, take, drop, length-drop}
use lib.Seq.{drop-drop}
use borrow.Author.Tests.{le-leb, lt-leb, leb-true}
use Rattle.paper.specs.Numbers.{audit_most}
use Rattle.paper.specs.Bytes.{Bytes, Bytewise, be, number, same}
use Rattle.paper.specs.Layout.{Read, got, bad, and_then, times, times_read, whole, parse, in_layout}
use Rattle.paper.specs.Fields.{head_field}
use Rattle.paper.specs.Audit.{AuditRecord, audit_record_field, list_field, Audit, audit_field}
use Rattle.paper.proofs.Lists.{not-both, and_left, and_right}
use Rattle.fields.specs.After.{after_of, after_at}
use Rattle.fields.specs.Head.{head_at}
use Rattle.std.specs.Prelude.{Some, None}
use Rattle.fields.proofs.Flat.{head-flat}
use Rattle.audit_form.specs.Places.{record_at, records_at, rows_at, count_at, behind_at, audit_at, Formed, Listed, Laid}
use Rattle.audit_form.proofs.At.{ReadAt, flat-at, fixed-at, within-at, seq-at, led-at, view-at, then-cond, over-cond}
use Rattle.audit_form.proofs.Chunks.{row}
use Rattle.audit_form.proofs.Record.{in-layout-at, formed, formed-row, record-at, record-short, record-tells}
use Rattle.std.specs.List.{list_all}
use Rattle.std.specs.Bool.{then_some}

-- ---- records

all_formed : Bytes → ℕ → ℕ → Bool
all_formed s at zero = true
all_formed s at (suc n) = formed s at && all_formed s (at + 99) n

records-at : (s : Bytes) (at n : ℕ) → ReadAt (times n audit_record_field) s at (all_formed s at n) (records_at s at n) (at + n * 99)
unfolding times times_read all_formed records_at
records-at s at zero = let e : at + 0 * 99 ≡ at = omega arith in record { reads = rw e }
records-at s at (suc n) =
    let e : at + 99 + n * 99 ≡ at + suc n * 99 = omega arith in
    let behind = records-at s (at + 99) n in
    record {
      reads = ap (λ z. and_then z (λ x r. and_then (times_read audit_record_field.read n r) (λ l q. got (x ∷ l) q))) (record-at s at).reads
          ∙ then-cond (formed s at) (all_formed s (at + 99) n) (record_at s at) (drop (at + 99) s) _ (record_at s at ∷ records_at s (at + 99) n) (drop (at + suc n * 99) s)
          (ap (λ z. and_then z (λ l q. got (record_at s at ∷ l) q)) (rw e at behind.reads) ∙ over-cond (all_formed s (at + 99) n) (records_at s (at + 99) n) (drop (at + suc n * 99) s) (λ l. record_at s at ∷ l));
    }

formed-reach : (s : Bytes) (at : ℕ) → formed s at ≡ true → at + 99 ≤ length s
formed-reach s at e = by_cases (dec_le (at + 99) (length s)) (λ h. h) (λ n. not-both (in-layout-at (record-at s at) ∙ e) (record-short s at (omega arith)))

all-reach : (s : Bytes) (at n : ℕ) → at ≤ length s → all_formed s at n ≡ true → at + n * 99 ≤ length s
unfolding all_formed
all-reach s at zero h e = omega arith
all-reach s at (suc n) h e =
    let r = formed-reach s at (and_left _ _ e) in
    omega (arith, all-reach s (at + 99) n r (and_right (formed s at) _ e))

all-each : (s : Bytes) (at n : ℕ) → Bytewise s → all_formed s at n ≡ true → (i : ℕ) → i < n → Formed s (at + i * 99)
unfolding all_formed
all-each s at zero w e i h = absurd (omega arith)
all-each s at (suc n) w e zero h = let z : at + 0 * 99 ≡ at = omega arith in rw z (record-tells s at w (and_left _ _ e))
all-each s at (suc n) w e (suc i) h =
    let z : at + 99 + i * 99 ≡ at + suc i * 99 = omega arith in
    rw z at (all-each s (at + 99) n w (and_right (formed s at) _ e) i (omega arith))

-- ---- the walk over records

-- the place behind what was read, and whether nothing follows
after-cond : {A : Type 0} (s : Bytes) (t : Bool) (x : A) (e : ℕ) → (t ≡ true → e ≤ length s) → after_of (length s) (cond t (got x (drop e s)) bad) ≡ cond t (Some e) None
after-cond s true x e h = let q : length s - length (drop e s) ≡ e = omega (arith, h refl, length-drop e s) in ap Some q
after-cond s false x e h = refl

walked : (s : Bytes) (at n : ℕ) → at ≤ length s → after_at (times n audit_record_field) s at ≡ cond (all_formed s at n) (Some (at + n * 99)) None
walked s at n h = ap (after_of (length s)) (records-at s at n).reads ∙ after-cond s (all_formed s at n) (records_at s at n) (at + n * 99) (all-reach s at n h)

-- by rows: too few bytes for n of them, or the place behind them where each is in layout
pub records-short : (s : Bytes) (at n : ℕ) → at ≤ length s → length s < at + n * 99 → after_at (times n audit_record_field) s at ≡ None
records-short s at n h l = walked s at n h ∙ by (all_formed s at n) refl
  where
    by : (b : Bool) → all_formed s at n ≡ b → cond b (Some (at + n * 99)) None ≡ None
    by true e = absurd (omega (arith, all-reach s at n h e))
    by false e = refl

rows-formed : (s : Bytes) (at n : ℕ) → at + n * 99 ≤ length s → list_all (λ r. in_layout (audit_record_field.read r)) (rows_at s at n) ≡ all_formed s at n
unfolding rows_at all_formed
rows-formed s at zero h = refl
rows-formed s at (suc n) h =
    ap₂ (λ a b. a && b) (in-layout-at (record-at (row s at) 0) ∙ formed-row s at (omega arith)) (rows-formed s (at + 99) n (omega arith))

pub records-behind : (s : Bytes) (at n : ℕ) → at + n * 99 ≤ length s
    → then_some (list_all (λ r. in_layout (audit_record_field.read r)) (rows_at s at n)) (at + n * 99) ≡ after_at (times n audit_record_field) s at
records-behind s at n h = rw (rows-formed s at n h) (by (all_formed s at n)) ∙ sym (walked s at n (omega arith))
  where
    by : (b : Bool) → then_some b (at + n * 99) ≡ cond b (Some (at + n * 99)) None
    by true = refl
    by false = refl

-- ---- a list

module _ (s : Bytes) (at : ℕ) where
  list_test : Bool
  list_test = (leb (at + 4) (length s) && (leb 0 (count_at s at) && leb (count_at s at) audit_most)) && all_formed s (at + 4) (count_at s at)

  list_at : ReadAt list_field s at list_test (records_at s (at + 4) (count_at s at)) (behind_at s at)
  unfolding list_test count_at behind_at
  list_at = led-at length (λ n. times n audit_record_field) (within-at 4 0 audit_most s at (at + 4) (omega arith) (omega arith)) (records-at s (at + 4) (number (take 4 (drop at s))))

  list-reach : list_test ≡ true → behind_at s at ≤ length s
  unfolding list_test behind_at
  list-reach e = all-reach s (at + 4) (count_at s at) (leb-true (at + 4) (length s) (and_left _ _ (and_left _ _ e))) (and_right (leb (at + 4) (length s) && (leb 0 (count_at s at) && leb (count_at s at) audit_most)) _ e)

  list_tells : Bytewise s → list_test ≡ true → Listed s (at + 4) (count_at s at)
  unfolding list_test behind_at
  list_tells w e =
      let a = and_right (leb (at + 4) (length s) && (leb 0 (count_at s at) && leb (count_at s at) audit_most)) _ e in
      let f = and_right (leb (at + 4) (length s)) _ (and_left _ _ e) in
      record { reach = list-reach e; few = leb-true (count_at s at) audit_most (and_right (leb 0 (count_at s at)) _ f); each = all-each s (at + 4) (count_at s at) w a }

  list-after : after_at list_field s at ≡ cond list_test (Some (behind_at s at)) None
  list-after = ap (after_of (length s)) list_at.reads ∙ after-cond s list_test (records_at s (at + 4) (count_at s at)) (behind_at s at) list-reach

  -- too short for a count, too large a count, and the walk over the records
  pub list-short : length s < at + 4 → after_at list_field s at ≡ None
  unfolding list_test
  list-short h = list-after ∙ rw (lt-leb (at + 4) (length s) h)

  pub list-many : audit_most < count_at s at → after_at list_field s at ≡ None
  unfolding list_test
  list-many h = list-after ∙ rw (lt-leb (count_at s at) audit_most h) (simp and-false)

  pub list-walk : at + 4 ≤ length s → count_at s at ≤ audit_most → after_at list_field s at ≡ after_at (times (count_at s at) audit_record_field) s (at + 4)
  unfolding list_test behind_at
  list-walk h l = list-after ∙ rw (le-leb (at + 4) (length s) h, le-leb 0 (count_at s at) (omega arith), le-leb (count_at s at) audit_most l) (sym (walked s (at + 4) (count_at s at) h))

-- ---- the whole proof

-- "Nothing may follow the last field."
ended : {A : Type 0} → List A → Bool
ended [] = true
ended (x ∷ l) = false

whole-cond : {A : Type 0} (t : Bool) (x : A) (r : Bytes) → in_layout (whole (cond t (got x r) bad)) ≡ (t && ended r)
unfolding ended
whole-cond true x [] = refl
whole-cond true x (b ∷ r) = refl
whole-cond false x r = refl

whole-got : {A : Type 0} (t : Bool) (x : A) (r : Bytes) → in_layout (whole (cond t (got x r) bad)) ≡ true → whole (cond t (got x r) bad) ≡ got x []
whole-got true x [] e = refl
whole-got true x (b ∷ r) e = not-both e refl
whole-got false x r e = not-both e refl

ended-at : (s : Bytes) (e : ℕ) → e ≤ length s → ended (drop e s) ≡ eqb e (length s)
unfolding ended
ended-at [] zero h = refl
ended-at [] (suc e) h = absurd (omega arith)
ended-at (b ∷ s) zero h = sym (eqb-zero-suc (length s))
ended-at (b ∷ s) (suc e) h = ended-at s e (omega arith) ∙ sym (eqb-suc-suc e (length s))

-- what the place behind a list tells
no_place : (t : Bool) (e : ℕ) → cond t (Some e) None ≡ None → t ≡ false
no_place true e q = let z : ◌≡◌ {A = ℕ} 0 1 = cc in absurd (omega arith)
no_place false e q = refl

one_place : (t : Bool) (e f : ℕ) → cond t (Some e) None ≡ Some f → (t ≡ true) × (e ≡ f)
one_place true e f q = (refl, cc)
one_place false e f q = let z : ◌≡◌ {A = ℕ} 0 1 = cc in absurd (omega arith)

module _ (s : Bytes) (at : ℕ) where
  no-list : after_at list_field s at ≡ None → list_test s at ≡ false
  no-list q = no_place (list_test s at) (behind_at s at) (sym (list-after s at) ∙ q)

  one_list : (e : ℕ) → after_at list_field s at ≡ Some e → (list_test s at ≡ true) × (behind_at s at ≡ e)
  one_list e q = one_place (list_test s at) (behind_at s at) e (sym (list-after s at) ∙ q)

  list-whole : in_layout (parse list_field (drop at s)) ≡ (list_test s at && ended (drop (behind_at s at) s))
  list-whole = ap (λ m. in_layout (whole m)) (list_at s at).reads ∙ whole-cond (list_test s at) _ (drop (behind_at s at) s)

  -- no list ends the bytes, and a list does
  pub list-none : after_at list_field s at ≡ None → in_layout (parse list_field (drop at s)) ≡ false
  list-none q = list-whole ∙ rw (no-list q)

  pub list-end : (e : ℕ) → after_at list_field s at ≡ Some e → in_layout (parse list_field (drop at s)) ≡ eqb e (length s)
  list-end e q =
      let (t, b) = one_list e q in
      list-whole ∙ rw t (ended-at s (behind_at s at) (list-reach s at t) ∙ ap (λ n. eqb n (length s)) b)

  pub list-place : (e : ℕ) → after_at list_field s at ≡ Some e → e ≤ length s
  list-place e q = let (t, b) = one_list e q in rw b at (list-reach s at t)

-- what a list reads as, stands at its place
read-got : {A : Type 0} (t : Bool) (x y : A) (q r : Bytes) → cond t (got x q) bad ≡ got y r → (t ≡ true) × (x ≡ y)
read-got true x y q r e = (refl, cc)
read-got false x y q r e = let z : ◌≡◌ {A = ℕ} 0 1 = cc in absurd (omega arith)

pub record ListStands (s : Bytes) (at : ℕ) (R : List AuditRecord) : Type 0 where
  pub listed : Listed s (at + 4) (count_at s at)
  pub records : records_at s (at + 4) (count_at s at) ≡ R

pub list-stands : (s : Bytes) (at : ℕ) (R : List AuditRecord) (r : Bytes) → Bytewise s → list_field.read (drop at s) ≡ got R r → ListStands s at R
list-stands s at R r w e =
    let (t, q) = read-got (list_test s at) _ R _ r (sym (list_at s at).reads ∙ e) in
    record { listed = list_tells s at w t; records = q }

head-at : (s : Bytes) → Bytewise s → (at : ℕ) → ReadAt head_field s at (leb (at + 100) (length s)) (head_at s at) (at + 100)
head-at s w at = rw (and-true, drop-drop 4 at s, drop-drop 36 at s, drop-drop 68 at s) at (flat-at head_field head-flat s w at (at + 100) (omega arith) refl)

opens_test : Bytes → Bool
opens_test s = same (take 6 s) (0x56 ∷ 0x4B ∷ 0x44 ∷ (be 2 1 ++ (3 ∷ [])))

module _ (s : Bytes) where
  audit_test : Bool
  audit_test = opens_test s && (leb 106 (length s) && (leb 206 (length s) && (list_test s 206 && list_test s (behind_at s 206))))

  module _ (w : Bytewise s) where
    audit-at : ReadAt audit_field s 0 audit_test (audit_at s) (behind_at s (behind_at s 206))
    unfolding audit_test opens_test audit_at be
    audit-at = view-at _ _
        (seq-at (fixed-at (0x56 ∷ 0x4B ∷ 0x44 ∷ (be 2 1 ++ (3 ∷ []))) s 0 6 (omega arith))
        (seq-at (head-at s w 6)
        (seq-at (head-at s w 106)
        (seq-at (list_at s 206)
        (list_at s (behind_at s 206))))))

    audit-whole : in_layout (parse audit_field s) ≡ (audit_test && ended (drop (behind_at s (behind_at s 206)) s))
    audit-whole = ap (λ m. in_layout (whole m)) audit-at.reads ∙ whole-cond audit_test (audit_at s) (drop (behind_at s (behind_at s 206)) s)

    -- the tests that the code makes of the whole
    pub audit-short : length s < 206 → in_layout (parse audit_field s) ≡ false
    unfolding audit_test
    audit-short h = audit-whole ∙ rw (lt-leb 206 (length s) h) (simp and-false)

    pub audit-closed : same (take 6 s) (0x56 ∷ 0x4B ∷ 0x44 ∷ 0 ∷ 1 ∷ 3 ∷ []) ≡ false → in_layout (parse audit_field s) ≡ false
    unfolding audit_test opens_test be
    audit-closed e = audit-whole ∙ rw e

    pub audit-none : after_at list_field s 206 ≡ None → in_layout (parse audit_field s) ≡ false
    unfolding audit_test
    audit-none q = audit-whole ∙ rw (no-list s 206 q) (simp and-false)

    pub audit-ends : 206 ≤ length s → same (take 6 s) (0x56 ∷ 0x4B ∷ 0x44 ∷ 0 ∷ 1 ∷ 3 ∷ []) ≡ true
        → (e : ℕ) → after_at list_field s 206 ≡ Some e → in_layout (parse audit_field s) ≡ in_layout (parse list_field (drop e s))
    unfolding audit_test opens_test be
    audit-ends h o e q =
        let (t, b) = one_list s 206 e q in
        audit-whole ∙ rw (o, le-leb 106 (length s) (omega arith), le-leb 206 (length s) h, t, b) (sym (list-whole s e))

    -- what an audit in layout says of its bytes
    pub audit-reads : in_layout (parse audit_field s) ≡ true → parse audit_field s ≡ got (audit_at s) []
    audit-reads e = ap whole audit-at.reads ∙ whole-got audit_test (audit_at s) _ (sym (ap (λ m. in_layout (whole m)) audit-at.reads) ∙ e)

    pub audit-laid : in_layout (parse audit_field s) ≡ true → Laid s
    unfolding audit_test
    audit-laid e =
        let heads = and_right (leb 106 (length s)) _ (and_right (opens_test s) _ (and_left audit_test _ (sym audit-whole ∙ e))) in
        let lists = and_right (leb 206 (length s)) _ heads in
        record {
          long = leb-true 206 (length s) (and_left _ _ heads);
          all = list_tells s 206 w (and_left _ _ lists);
          old = list_tells s (behind_at s 206) w (and_right (list_test s 206) _ lists);
        }

pub audit-bad : (s : Bytes) → in_layout (parse audit_field s) ≡ false → parse audit_field s ≡ bad
audit-bad s e = by (parse audit_field s) e
  where
    by : (m : Read Audit) → in_layout m ≡ false → m ≡ bad
    by (got a r) e = not-both refl e
    by bad e = refl
