-- Records in their own 99 bytes: what stands in them is what stands at their places. Assumes nothing.
use mathlib.Core.Path.{◌≡◌, refl, ap, ap₂, ◌∙◌}
use mathlib.Core.List.{◌∷◌}
use Prim.Native.Nat.{ℕ, zero, suc, ◌+◌, ◌-◌, ◌*◌, ◌≤◌, ◌<◌}
use native.Mathlib.Omega.{arith}
use lib.ListN.{length, take, drop, get_or}
use lib.Seq.{take-take}
use Rattle.std.specs.Simd.{first_chunks}
use Rattle.std.proofs.lemmas.List.{get_or-take, get_or-drop, drop-take, drop-drop}
use Rattle.paper.specs.Lists.{All}
use Rattle.paper.specs.Numbers.{wide}
use Rattle.paper.specs.Bytes.{Bytes, number}
use Rattle.paper.specs.Bits.{bits_of}
use Rattle.ranges.proofs.Slices.{length_part}
use Rattle.audit_form.specs.Places.{label_at, key_at, record_by, record_at, records_at, rows_at, records_of, Formed, Listed, Rows}

module _ (s : Bytes) (at : ℕ) where
  abbrev pub row : Bytes
  row = take 99 (drop at s)

  -- a field of the row
  pub field : (j k : ℕ) → j + k ≤ 99 → take k (drop j row) ≡ take k (drop (at + j) s)
  field j k h =
      let e : 99 ≡ j + (99 - j) = omega arith in
      ap (λ n. take k (drop j (take n (drop at s)))) e
      ∙ ap (take k) (drop-take j (99 - j) (drop at s))
      ∙ take-take k (99 - j) (drop j (drop at s)) (omega arith)
      ∙ ap (take k) (drop-drop j at s)

  pub kind : get_or row 0 0 ≡ get_or s at 0
  kind = let z : at + 0 ≡ at = omega arith in get_or-take 99 (drop at s) 0 0 (omega arith) ∙ get_or-drop at s 0 0 ∙ ap (λ i. get_or s i 0) z

  pub label : label_at row 0 ≡ label_at s at
  unfolding label_at
  label = field 3 wide (omega arith)

  size : number (take 2 (drop 1 row)) ≡ number (take 2 (drop (at + 1) s))
  size = ap number (field 1 2 (omega arith))

  key : key_at row 0 ≡ key_at s at
  unfolding key_at
  key = ap₂ (λ n x. take n (bits_of x)) size label

  pub row-record : record_at row 0 ≡ record_at s at
  unfolding record_at record_by
  row-record = ap (λ k. record_by k row 0) kind ∙ by (get_or s at 0)
    where
      by : (k : ℕ) → record_by k row 0 ≡ record_by k s at
      by zero = rw (key, field 35 wide (omega arith), field 67 4 (omega arith))
      by (suc zero) = rw (key, field 35 wide (omega arith), field 67 wide (omega arith))
      by (suc (suc k)) = rw (key, field 35 wide (omega arith), field 67 4 (omega arith))

  row-formed : Formed s at → Formed row 0
  row-formed f = record {
    reach = omega (arith, length_part s at 99 f.reach);
    kind = rw kind f.kind;
    least = rw size f.least;
    most = rw size f.most;
    packed = rw (key, label) f.packed;
  }

-- the chunks of a list are its rows
pub chunks-rows : (s : Bytes) (at n : ℕ) → first_chunks 99 n (take (n * 99) (drop at s)) ≡ rows_at s at n
unfolding rows_at
chunks-rows s at zero = refl
chunks-rows s at (suc n) =
    let e : suc n * 99 ≡ 99 + n * 99 = omega arith in
    ap₂ (λ r q. r ∷ first_chunks 99 n q)
    (take-take 99 (suc n * 99) (drop at s) (omega arith))
    (ap (λ k. drop 99 (take k (drop at s))) e ∙ drop-take 99 (n * 99) (drop at s) ∙ ap (take (n * 99)) (drop-drop 99 at s))
    ∙ ap (λ q. row s at ∷ q) (chunks-rows s (at + 99) n)

pub rows-length : (s : Bytes) (at n : ℕ) → length (rows_at s at n) ≡ n
unfolding rows_at
rows-length s at zero = refl
rows-length s at (suc n) = ap suc (rows-length s (at + 99) n)

pub rows-records : (s : Bytes) (at n : ℕ) → records_of (rows_at s at n) ≡ records_at s at n
unfolding rows_at records_at
rows-records s at zero = refl
rows-records s at (suc n) = ap₂ (λ r q. r ∷ q) (row-record s at) (rows-records s (at + 99) n)

rows-each : (s : Bytes) (at n : ℕ) → ((i : ℕ) → i < n → Formed s (at + i * 99)) → All (λ r. Formed r 0) (rows_at s at n)
unfolding rows_at
rows-each s at zero h = tt
rows-each s at (suc n) h =
    let e : at + 0 * 99 ≡ at = omega arith in (
      row-formed s at (rw e at (h 0 (omega arith))),
      rows-each s (at + 99) n (λ i l. let f : at + suc i * 99 ≡ at + 99 + i * 99 = omega arith in rw f at (h (suc i) (omega arith))),
    )

pub rows-listed : (s : Bytes) (at n : ℕ) → Listed s at n → Rows (rows_at s at n)
rows-listed s at n l = record { few = omega (arith, rows-length s at n, l.few); each = rows-each s at n l.each }
