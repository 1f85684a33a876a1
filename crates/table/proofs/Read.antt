-- The counted records: they are read just where they lie in the table and each is in layout, and are those that stand there. Assumes
-- nothing.
use mathlib.Core.Path.{◌≡◌, refl, sym, ap, ap₂, ◌∙◌}
use mathlib.Core.Logic.{⊎_elim}
use mathlib.Core.Bool.{true, false}
use mathlib.Core.List.{List, [], ◌∷◌, append-nil}
use Prim.Native.Nat.{ℕ, ◌+◌, ◌-◌, ◌*◌, ◌≤◌, ◌<◌}
use native.Mathlib.Omega.{arith}
use lib.ListN.{length, take, drop, get_or, length-take, length-drop, drop_of_length-le}
use lib.Seq.{get_or-take, take-take, length-take-le}
use Rattle.paper.specs.Lists.{All}
use Rattle.paper.specs.Numbers.{record_size}
use Rattle.paper.specs.Bytes.{Bytes, Bytewise}
use Rattle.paper.specs.Layout.{Read, got, bad, times, whole}
use Rattle.paper.specs.Table.{Record, record_field, counted}
use Rattle.paper.proofs.Lists.{all_take, all_drop, drop-take, true-or-false}
use Rattle.paper.proofs.Layouts.{times-lawful, bytes-parse}
use Rattle.paper.proofs.Proofs.{record-lawful}
use Rattle.paper.proofs.Kept.{records-length}
use Rattle.fields.proofs.Flat.{flat_in}
use Rattle.fields.proofs.Many.{many-yes, many-no}
use Rattle.record.specs.Places.{record_at, records_in, Stands}
use Rattle.record.proofs.Places.{records-take}
use Rattle.record.proofs.Form.{filled_test, filled_in, record_test, record-flat, records-back}
use Rattle.record_form.proofs.Formed.{formed, formed-stands}

-- ---- a record is in layout or not by its own 168 bytes

filled-front : (k : ℕ) (s : Bytes) → 65 ≤ k → filled_test (take k s) ≡ filled_test s
filled-front k s h =
    let n = get_or s 0 0 in
    rw (get_or-take k s 0 0 (omega arith), drop-take (1 + n) k s, take-take (64 - n) (k - (1 + n)) (drop (1 + n) s) (omega arith))

inside-front : (s : Bytes) → filled_in (take record_size s) ≡ filled_in s
inside-front s = rw (get_or-take record_size s 0 0 (omega arith), drop-take 1 record_size s, take-take 64 167 (drop 1 s) (omega arith))

test-front : (s : Bytes) → record_test (take record_size s) ≡ record_test s
test-front s =
    rw (
      filled-front record_size s (omega arith),
      inside-front s,
      drop-take 65 record_size s,
      drop-take 71 record_size s,
      take-take 2 103 (drop 65 s) (omega arith),
      filled-front 97 (drop 71 s) (omega arith),
    )

module _ (s : Bytes) (w : Bytewise s) (n : ℕ) (room : n * record_size ≤ length s) where
  abbrev front : Bytes
  front = take (n * record_size) s

  front-size : length front ≡ n * record_size
  front-size = length-take-le (n * record_size) s room

  test-take : (k : ℕ) → k < n → record_test (drop (k * record_size) front) ≡ record_test (drop (k * record_size) s)
  test-take k h =
      let x = drop (k * record_size) s in
      let m = n * record_size - k * record_size in
      ap record_test (drop-take (k * record_size) (n * record_size) s)
      ∙ sym (test-front (take m x))
      ∙ ap record_test (take-take record_size m x (omega arith))
      ∙ test-front x

  front-formed : (k : ℕ) → k < n → formed front k ≡ formed s k
  front-formed k h =
      flat_in record-flat (drop (k * record_size) front) (all_drop _ (k * record_size) front (all_take _ (n * record_size) s w)) (omega (arith, length-drop (k * record_size) front, front-size))
      ∙ test-take k h
      ∙ sym (flat_in record-flat (drop (k * record_size) s) (all_drop _ (k * record_size) s w) (omega (arith, length-drop (k * record_size) s)))

-- ---- the counted records

module _ (s : Bytes) (w : Bytewise s) (n : ℕ) where
  -- what is read lies there, fits, and is what stands there
  pub record Told (rs : List Record) (r : Bytes) : Type 0 where
    pub room : n * record_size ≤ length s
    pub is : rs ≡ records_in n s
    pub fits : All record_field.Fits rs
    pub all : r ≡ []

  pub counted-told : (rs : List Record) (r : Bytes) → counted s n ≡ got rs r → Told rs r
  unfolding counted times
  counted-told rs r e =
      let t = take (n * record_size) s in
      let (f, b) = bytes-parse (times-lawful n record-lawful) t rs r (all_take _ (n * record_size) s w) e in
      let l = records-length rs f.1 in
      let k : n * record_size ≤ length s = omega (arith, ap length b, l, f.0, length-take (n * record_size) s) in
      record {
        room = k;
        is = sym (ap₂ records_in (sym f.0) (sym b ∙ sym (append-nil _)) ∙ records-back rs [] f.1) ∙ records-take n s (n * record_size) (omega arith);
        fits = f.1;
        all = ends ((times n record_field).read t) e;
      }
    where
      ends : (m : Read (List Record)) → whole m ≡ got rs r → r ≡ []
      ends (got x []) e = cc
      ends (got x (b ∷ q)) e = let z : ◌≡◌ {A = ℕ} 0 1 = cc in absurd (omega arith)
      ends bad e = let z : ◌≡◌ {A = ℕ} 0 1 = cc in absurd (omega arith)

  pub counted-short : length s < n * record_size → counted s n ≡ bad
  counted-short h = by (counted s n) refl
    where
      by : (m : Read (List Record)) → counted s n ≡ m → m ≡ bad
      by bad e = refl
      by (got rs r) e = absurd (omega (arith, (counted-told rs r e).room))

  module _ (room : n * record_size ≤ length s) where
    pub counted-got : ((k : ℕ) → k < n → formed s k ≡ true) → counted s n ≡ got (records_in n s) []
    unfolding counted times records_in record_at
    counted-got f =
        let t = front s w n room in
        let h : length t ≤ n * record_size = omega (arith, front-size s w n room) in
        let g = many-yes record-flat t (all_take _ (n * record_size) s w) n (omega (arith, front-size s w n room)) (λ k l. front-formed s w n room k l ∙ f k l) in
        ap whole (g ∙ ap₂ got (records-take n s (n * record_size) (omega arith)) (drop_of_length-le t h))

    pub counted-bad : (k : ℕ) → k < n → formed s k ≡ false → counted s n ≡ bad
    unfolding counted times
    counted-bad k h f =
        ap whole (many-no record-flat (front s w n room) (all_take _ (n * record_size) s w) n (omega (arith, front-size s w n room)) k h (front-formed s w n room k h ∙ f))

  -- so each that was read stands
  pub counted-stands : (rs : List Record) (r : Bytes) → counted s n ≡ got rs r → (k : ℕ) → k < n → Stands s k
  counted-stands rs r e k h =
      let room = (counted-told rs r e).room in
      formed-stands s k w (omega arith) (⊎_elim (λ f. f) (λ f. let q = counted-bad room k h f in let z : ◌≡◌ {A = ℕ} 0 1 = cc in absurd (omega arith)) (true-or-false (formed s k)))
