-- What an audit's layout reads at the place of a record, and what that says of the record's bytes. Assumes nothing.
use mathlib.Core.Path.{◌≡◌, refl, sym, ap, ap₂, ◌∙◌}
use mathlib.Core.Logic.{◌⊎◌, inl, inr, ⊎_elim, by_cases}
use mathlib.Core.Bool.{Bool, true, false, cond, not, ◌&&◌, and-true, and-false}
use Prim.Native.Nat.{ℕ, zero, suc, ◌+◌, ◌^◌, ◌≤◌, ◌<◌}
use native.Mathlib.Omega.{arith}
use native.Mathlib.Decide.{dec_le}
use lib.Dec.{leb, eqb}
use lib.ListN.{length, take, drop, get_or, length-take, length-drop}
use lib.Seq.{take_all}
use borrow.Author.Tests.{le-leb, lt-leb, leb-true, eq-eqb, ne_eqb}
use Rattle.paper.specs.Lists.{every}
use Rattle.paper.specs.Numbers.{wide, epoch_most}
use Rattle.paper.specs.Bytes.{Bytes, Bytewise, be, number, same, zeros}
use Rattle.paper.specs.Bits.{bits_of, pack}
use Rattle.paper.specs.Layout.{got, bad, Layout, never, in_layout}
use Rattle.paper.specs.Fields.{prefix_body, prefix_field}
use Rattle.paper.specs.Audit.{unchanged, fresh, record_kind, record_of, leaf_fields, unchanged_fields, opened_fields, fresh_fields, audit_record_field}
use Rattle.paper.proofs.Lists.{true-or-false, not-both, and_left, and_right, all_take, all_drop}
use Rattle.paper.proofs.Bytes.{same-eq, eq-same, number-be, be-number, number_lt, bits_of-length, pack-bits_of}
use Rattle.words.proofs.Number.{number-one}
use Rattle.ranges.proofs.Compare.{not_same, zeros-same}
use Rattle.ranges.proofs.Slices.{length_part}
use Rattle.fields.proofs.Prefix.{zero_bits}
use Rattle.audit_form.specs.Places.{label_at, key_at, record_by, record_at, Formed}
use Rattle.audit_form.proofs.Chunks.{row, field, label, kind}
use Rattle.audit_form.proofs.At.{ReadAt, block_at, fixed-at, within-at, seq-at, led-at, view-at, such-at}

-- the value matters where the test holds alone, and a value was read where it does
other-value : {A : Type 0} {a : Layout A} {s : Bytes} {at : ℕ} {t : Bool} {x : A} (y : A) {next : ℕ} → ReadAt a s at t x next → (t ≡ true → x ≡ y) → ReadAt a s at t y next
other-value {s = s} {t = t} {x = x} y {next = next} h f = record { reads = h.reads ∙ by t f }
  where
    by : (t : Bool) → (t ≡ true → x ≡ y) → cond t (got x (drop next s)) bad ≡ cond t (got y (drop next s)) bad
    by true f = ap (λ z. got z (drop next s)) (f refl)
    by false f = refl

pub in-layout-at : {A : Type 0} {a : Layout A} {s : Bytes} {at : ℕ} {t : Bool} {x : A} {next : ℕ} → ReadAt a s at t x next → in_layout (a.read (drop at s)) ≡ t
in-layout-at {s = s} {t = t} {x = x} {next = next} h = ap in_layout h.reads ∙ by t
  where
    by : (t : Bool) → in_layout (cond t (got x (drop next s)) bad) ≡ t
    by true = refl
    by false = refl

-- bytes that hold a number are the bytes of that number
number_same : (x : Bytes) (n : ℕ) → Bytewise x → n < 256 ^ length x → eqb (number x) n ≡ same x (be (length x) n)
number_same x n w h = ⊎_elim
    (λ e. eq-eqb (number x) n (ap number (same-eq x _ e) ∙ number-be (length x) n h) ∙ sym e)
    (λ e. ne_eqb (number x) n (λ q. not-both (eq-same (sym (be-number x w) ∙ ap (be (length x)) q)) e) ∙ sym e)
    (true-or-false (same x (be (length x) n)))

-- ---- a record at a place

module _ (s : Bytes) (at : ℕ) where
  -- the record's length, and the layout's own tests: of a leaf's fields, of a prefix, and of what stands behind each kind
  size_at : ℕ
  size_at = number (take 2 (drop (at + 1) s))

  leaf_test : Bool
  leaf_test =
      same (take 2 (drop (at + 1) s)) (be 2 256)
      && (leb (at + 35) (length s)
      && (leb (at + 67) (length s)
      && ((leb (at + 71) (length s) && (leb 0 (number (take 4 (drop (at + 67) s))) && leb (number (take 4 (drop (at + 67) s))) epoch_most))
      && same (take 28 (drop (at + 71) s)) (zeros 28))))

  leaf-at : ReadAt leaf_fields s (at + 1) leaf_test (bits_of (label_at s at), (take wide (drop (at + 35) s), number (take 4 (drop (at + 67) s)))) (at + 99)
  unfolding leaf_test label_at be
  leaf-at = view-at _ _
      (seq-at (fixed-at (be 2 256) s (at + 1) (at + 3) (omega arith))
      (seq-at (view-at bits_of (pack wide) (block_at wide s (at + 3) (at + 35) (omega arith) (omega arith)))
      (seq-at (block_at wide s (at + 35) (at + 67) (omega arith) (omega arith))
      (seq-at (within-at 4 0 epoch_most s (at + 67) (at + 71) (omega arith) (omega arith))
      (fixed-at (zeros 28) s (at + 71) (at + 99) (omega arith))))))

  prefix_test : Bool
  prefix_test = (leb (at + 3) (length s) && (leb 1 size_at && leb size_at 255)) && (leb (at + 35) (length s) && every not (drop size_at (bits_of (label_at s at))))

  prefix-at : ReadAt prefix_field s (at + 1) prefix_test (key_at s at) (at + 35)
  unfolding prefix_test size_at key_at label_at
  prefix-at = led-at length prefix_body (within-at 2 1 255 s (at + 1) (at + 3) (omega arith) (omega arith))
      (view-at _ _ (such-at _ (block_at wide s (at + 3) (at + 35) (omega arith) (omega arith))))

  formed_by : ℕ → Bool
  formed_by zero = leaf_test
  formed_by (suc zero) = prefix_test && (leb (at + 67) (length s) && leb (at + 99) (length s))
  formed_by (suc (suc zero)) = leaf_test
  formed_by (suc (suc (suc k))) = false

  -- a leaf's length is all of its label, which is then its key
  leaf-size : leaf_test ≡ true → size_at ≡ 256
  unfolding leaf_test size_at be number
  leaf-size e = ap number (same-eq (take 2 (drop (at + 1) s)) (be 2 256) (and_left _ _ e))

  leaf-key : leaf_test ≡ true → bits_of (label_at s at) ≡ key_at s at
  unfolding key_at label_at size_at
  leaf-key e =
      let l = bits_of-length (label_at s at) in
      let m = length-take wide (drop (at + 3) s) in
      sym (take_all size_at (bits_of (label_at s at)) (omega (arith, leaf-size e)))

  -- what is read behind a kind, and then the record
  kind-at : (k : ℕ) → ReadAt (record_of k) s (at + 1) (formed_by k) (record_by k s at) (at + 99)
  unfolding record_of record_by formed_by never
  kind-at zero = other-value _ (view-at _ unchanged_fields leaf-at) (λ e. ap (λ m. unchanged m (take wide (drop (at + 35) s)) (number (take 4 (drop (at + 67) s)))) (leaf-key e))
  kind-at (suc zero) = view-at _ opened_fields
      (seq-at prefix-at (seq-at (block_at wide s (at + 35) (at + 67) (omega arith) (omega arith)) (block_at wide s (at + 67) (at + 99) (omega arith) (omega arith))))
  kind-at (suc (suc zero)) = other-value _ (view-at _ fresh_fields leaf-at) (λ e. ap (λ m. fresh m (take wide (drop (at + 35) s)) (number (take 4 (drop (at + 67) s)))) (leaf-key e))
  kind-at (suc (suc (suc k))) = record { reads = refl }

  kind_at : ℕ
  kind_at = number (take 1 (drop at s))

  pub formed : Bool
  formed = (leb (at + 1) (length s) && (leb 0 kind_at && leb kind_at 2)) && formed_by kind_at

  kind-byte : at < length s → kind_at ≡ get_or s at 0
  unfolding kind_at
  kind-byte h = number-one s at h

  pub record-at : ReadAt audit_record_field s at formed (record_at s at) (at + 99)
  unfolding formed kind_at record_at
  record-at = other-value _
      (led-at record_kind record_of (within-at 1 0 2 s at (at + 1) (omega arith) (omega arith)) (kind-at kind_at))
      (λ e. ap (λ k. record_by k s at) (kind-byte (omega (arith, leb-true (at + 1) (length s) (and_left _ _ (and_left _ _ e))))))

  -- ---- the tests that the code makes

  -- too short for a record
  leaf-short : length s < at + 99 → leaf_test ≡ false
  unfolding leaf_test
  leaf-short h =
      let e : same (take 28 (drop (at + 71) s)) (zeros 28) ≡ false = not_same _ _ (λ e. omega (arith, ap length e, length-take 28 (drop (at + 71) s), length-drop (at + 71) s)) in
      simp (e, and-false)

  by-short : length s < at + 99 → (k : ℕ) → formed_by k ≡ false
  unfolding formed_by
  by-short h zero = leaf-short h
  by-short h (suc zero) = simp (lt-leb (at + 99) (length s) h, and-false)
  by-short h (suc (suc zero)) = leaf-short h
  by-short h (suc (suc (suc k))) = refl

  pub record-short : length s < at + 99 → in_layout (audit_record_field.read (drop at s)) ≡ false
  unfolding formed
  record-short h = in-layout-at record-at ∙ simp (by-short h kind_at, and-false)

  -- long enough: the kind decides
  record-by : at + 99 ≤ length s → (k : ℕ) → get_or s at 0 ≡ k → k ≤ 2 → in_layout (audit_record_field.read (drop at s)) ≡ formed_by k
  unfolding formed
  record-by h k e l =
      let q : kind_at ≡ k = kind-byte (omega arith) ∙ e in
      in-layout-at record-at ∙ rw (q, le-leb (at + 1) (length s) (omega arith), le-leb 0 k (omega arith), le-leb k 2 l)

  pub record-leaf : at + 99 ≤ length s → (get_or s at 0 ≡ 0) ⊎ (get_or s at 0 ≡ 2) → in_layout (audit_record_field.read (drop at s)) ≡ in_layout (leaf_fields.read (drop (at + 1) s))
  unfolding formed_by
  record-leaf h k = ⊎_elim (λ e. record-by h 0 e (omega arith)) (λ e. record-by h 2 e (omega arith)) k ∙ sym (in-layout-at leaf-at)

  pub record-opened : at + 99 ≤ length s → get_or s at 0 ≡ 1 → in_layout (audit_record_field.read (drop at s)) ≡ in_layout (prefix_field.read (drop (at + 1) s))
  unfolding formed_by
  record-opened h e =
      record-by h 1 e (omega arith) ∙ rw (le-leb (at + 67) (length s) (omega arith), le-leb (at + 99) (length s) h) (and-true prefix_test ∙ sym (in-layout-at prefix-at))

  pub record-other : at + 99 ≤ length s → ((get_or s at 0 ≡ 0) ⊎ (get_or s at 0 ≡ 2) → ⊥) → (get_or s at 0 ≡ 1 → ⊥) → in_layout (audit_record_field.read (drop at s)) ≡ false
  unfolding formed
  record-other h n m =
      let q : kind_at ≡ get_or s at 0 = kind-byte (omega arith) in
      in-layout-at record-at ∙ rw (q, lt-leb (get_or s at 0) 2 (more (get_or s at 0) n m)) (simp and-false)
    where
      more : (k : ℕ) → ((k ≡ 0) ⊎ (k ≡ 2) → ⊥) → (k ≡ 1 → ⊥) → 2 < k
      more zero n m = absurd (n (inl refl))
      more (suc zero) n m = absurd (m refl)
      more (suc (suc zero)) n m = absurd (n (inr refl))
      more (suc (suc (suc k))) n m = omega arith

  -- "leaves have length 256", "28 zero bytes"; and each epoch in four bytes is one of 32 bits
  pub leaf-test : Bytewise s → at + 99 ≤ length s
      → in_layout (leaf_fields.read (drop (at + 1) s)) ≡ (eqb (number (take 2 (drop (at + 1) s))) 256 && every (λ b. eqb b 0) (take 28 (drop (at + 71) s)))
  unfolding leaf_test
  leaf-test w h =
      let n : length (take 2 (drop (at + 1) s)) ≡ 2 = length_part s (at + 1) 2 (omega arith) in
      let z : length (take 28 (drop (at + 71) s)) ≡ 28 = length_part s (at + 71) 28 (omega arith) in
      let c : length (take 4 (drop (at + 67) s)) ≡ 4 = length_part s (at + 67) 4 (omega arith) in
      let e = number_lt (take 4 (drop (at + 67) s)) (all_take _ 4 (drop (at + 67) s) (all_drop _ (at + 67) s w)) in
      let f = number_same (take 2 (drop (at + 1) s)) 256 (all_take _ 2 (drop (at + 1) s) (all_drop _ (at + 1) s w)) (rw n (omega arith)) in
      in-layout-at leaf-at
      ∙ rw (
        le-leb (at + 35) (length s) (omega arith),
        le-leb (at + 67) (length s) (omega arith),
        le-leb (at + 71) (length s) (omega arith),
        le-leb 0 (number (take 4 (drop (at + 67) s))) (omega arith),
        le-leb (number (take 4 (drop (at + 67) s))) epoch_most (omega (arith, rw c at e)),
      )
      (ap₂ (λ x y. x && y) (sym (rw n at f)) (sym (rw z at (zeros-same (take 28 (drop (at + 71) s))))))

  -- "length 1 to 255", "zero bits past a prefix"
  pub prefix-out : (number (take 2 (drop (at + 1) s)) < 1) ⊎ (255 < number (take 2 (drop (at + 1) s))) → in_layout (prefix_field.read (drop (at + 1) s)) ≡ false
  unfolding prefix_test size_at
  prefix-out o = in-layout-at prefix-at ∙ ⊎_elim (λ h. rw (lt-leb 1 size_at h) (simp and-false)) (λ h. rw (lt-leb size_at 255 h) (simp and-false)) o

  label-wide : at + 99 ≤ length s → length (label_at s at) ≡ wide
  unfolding label_at
  label-wide h = length_part s (at + 3) wide (omega arith)

  label-bytes : Bytewise s → Bytewise (label_at s at)
  unfolding label_at
  label-bytes w = all_take _ wide (drop (at + 3) s) (all_drop _ (at + 3) s w)

  zeros-past : Bytewise s → at + 99 ≤ length s → size_at ≤ 256 → every not (drop size_at (bits_of (label_at s at))) ≡ same (pack wide (key_at s at)) (label_at s at)
  unfolding key_at size_at
  zeros-past w h l =
      let n = label-wide h in
      rw n at (zero_bits (label_at s at) size_at (label-bytes w) (omega arith))

  pub prefix-in : Bytewise s → at + 99 ≤ length s → 1 ≤ number (take 2 (drop (at + 1) s)) → number (take 2 (drop (at + 1) s)) ≤ 255
      → in_layout (prefix_field.read (drop (at + 1) s)) ≡ same (pack wide (key_at s at)) (label_at s at)
  unfolding prefix_test size_at
  prefix-in w h l m =
      in-layout-at prefix-at
      ∙ rw (le-leb (at + 3) (length s) (omega arith), le-leb 1 size_at l, le-leb size_at 255 m, le-leb (at + 35) (length s) (omega arith)) (zeros-past w h (omega arith))

  -- ---- what a record in layout says of its bytes

  Key : Type 0
  Key = (1 ≤ size_at) × (size_at ≤ 256) × (pack wide (key_at s at) ≡ label_at s at)

  leaf-tells : Bytewise s → at + 99 ≤ length s → leaf_test ≡ true → Key
  unfolding Key
  leaf-tells w h e =
      let n = leaf-size e in
      (omega arith, omega arith, ap (pack wide) (sym (leaf-key e)) ∙ ap (λ k. pack k (bits_of (label_at s at))) (sym (label-wide h)) ∙ pack-bits_of (label_at s at) (label-bytes w))

  by_tells : Bytewise s → at + 99 ≤ length s → (k : ℕ) → formed_by k ≡ true → Key
  unfolding formed_by Key prefix_test
  by_tells w h zero e = leaf-tells w h e
  by_tells w h (suc zero) e =
      let p = and_left prefix_test _ e in
      let sizes = and_right (leb (at + 3) (length s)) _ (and_left _ _ p) in
      let least = leb-true 1 size_at (and_left _ _ sizes) in
      let most = leb-true size_at 255 (and_right (leb 1 size_at) _ sizes) in
      let z = and_right (leb (at + 35) (length s)) _ (and_right (leb (at + 3) (length s) && (leb 1 size_at && leb size_at 255)) _ p) in
      (least, omega arith, same-eq _ _ (sym (zeros-past w h (omega arith)) ∙ z))
  by_tells w h (suc (suc zero)) e = leaf-tells w h e
  by_tells w h (suc (suc (suc k))) e = not-both e refl

  pub record-tells : Bytewise s → formed ≡ true → Formed s at
  unfolding formed Key size_at
  record-tells w e =
      let front : (leb (at + 1) (length s) && (leb 0 kind_at && leb kind_at 2)) ≡ true = and_left _ _ e in
      let by = and_right (leb (at + 1) (length s) && (leb 0 kind_at && leb kind_at 2)) _ e in
      let h : at + 99 ≤ length s = by_cases (dec_le (at + 99) (length s)) (λ h. h) (λ n. not-both by (by-short (omega arith) kind_at)) in
      let kinds = and_right (leb (at + 1) (length s)) _ front in
      let (least, most, packed) = by_tells w h kind_at by in
      record {
        reach = h;
        kind = omega (arith, leb-true kind_at 2 (and_right (leb 0 kind_at) _ kinds), kind-byte (omega arith));
        least = least;
        most = most;
        packed = packed;
      }

-- ---- a record in its own 99 bytes is in layout where it is in layout at its place

module _ (s : Bytes) (at : ℕ) (h : at + 99 ≤ length s) where
  row-size : length (row s at) ≡ 99
  row-size = length_part s at 99 h

  leaf-row : leaf_test (row s at) 0 ≡ leaf_test s at
  unfolding leaf_test
  leaf-row =
      let m = row-size in
      rw (
        field s at 1 2 (omega arith),
        field s at 67 4 (omega arith),
        field s at 71 28 (omega arith),
        le-leb 35 (length (row s at)) (omega arith),
        le-leb 67 (length (row s at)) (omega arith),
        le-leb 71 (length (row s at)) (omega arith),
        le-leb (at + 35) (length s) (omega arith),
        le-leb (at + 67) (length s) (omega arith),
        le-leb (at + 71) (length s) (omega arith),
      )

  prefix-row : prefix_test (row s at) 0 ≡ prefix_test s at
  unfolding prefix_test size_at
  prefix-row =
      let m = row-size in
      rw (
        field s at 1 2 (omega arith),
        label s at,
        le-leb 3 (length (row s at)) (omega arith),
        le-leb 35 (length (row s at)) (omega arith),
        le-leb (at + 3) (length s) (omega arith),
        le-leb (at + 35) (length s) (omega arith),
      )

  by-row : (k : ℕ) → formed_by (row s at) 0 k ≡ formed_by s at k
  unfolding formed_by
  by-row zero = leaf-row
  by-row (suc zero) =
      let m = row-size in
      rw (
        prefix-row,
        le-leb 67 (length (row s at)) (omega arith),
        le-leb 99 (length (row s at)) (omega arith),
        le-leb (at + 67) (length s) (omega arith),
        le-leb (at + 99) (length s) h,
      )
  by-row (suc (suc zero)) = leaf-row
  by-row (suc (suc (suc k))) = refl

  pub formed-row : formed (row s at) 0 ≡ formed s at
  unfolding formed
  formed-row =
      let m = row-size in
      let e : kind_at (row s at) 0 ≡ kind_at s at = kind-byte (row s at) 0 (omega arith) ∙ kind s at ∙ sym (kind-byte s at (omega arith)) in
      rw (le-leb 1 (length (row s at)) (omega arith), le-leb (at + 1) (length s) (omega arith), e, by-row (kind_at s at))
