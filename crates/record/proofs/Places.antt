-- Records by their numbers: each is in its own 168 bytes, and tables put one behind the other are lists put one behind the other.
-- Assumes nothing.
use mathlib.Core.Path.{◌≡◌, refl, sym, ap, ◌∙◌}
use mathlib.Core.List.{[], ◌∷◌, ◌++◌, map, map-append, append_assoc, append-nil}
use Prim.Native.Nat.{ℕ, zero, suc, ◌+◌, ◌-◌, ◌*◌, ◌≤◌, ◌<◌}
use native.Mathlib.Nat.{zero-add}
use native.Mathlib.Omega.{arith}
use lib.ListN.{length, take, drop, get_or, length-drop, length-map, take-append-drop}
use lib.Seq.{get_or-take, get_or-drop, take-take, take-append-le, drop-append-le, drop-drop, drop_at, length-take-le}
use Rattle.paper.specs.Lists.{◌∈◌, All, up_from}
use Rattle.paper.specs.Numbers.{record_size, wide}
use Rattle.paper.specs.Bytes.{Bytes, number}
use Rattle.paper.specs.Table.{Record}
use Rattle.paper.proofs.Lists.{all_in, in-all, drop-take, up_from-length, up_from-snoc, up_from-in, in-up_from, in_map, map-in, get_or-up_from}
use Rattle.ranges.proofs.Slices.{part-is}
use Rattle.record.specs.Places.{record_in, record_at, records_in, Stands}

-- ---- one record

-- its 168 bytes are all that is read of it
pub record-front : (s : Bytes) → record_in (take record_size s) ≡ record_in s
unfolding record_in
record-front s =
    rw (
      get_or-take record_size s 0 0 (omega arith),
      get_or-take record_size s 71 0 (omega arith),
      drop-take 1 record_size s,
      drop-take 65 record_size s,
      drop-take 67 record_size s,
      drop-take 72 record_size s,
      drop-take 136 record_size s,
      take-take 64 167 (drop 1 s) (omega arith),
      take-take 2 103 (drop 65 s) (omega arith),
      take-take 4 101 (drop 67 s) (omega arith),
      take-take 64 96 (drop 72 s) (omega arith),
      take-take 32 32 (drop 136 s) (omega arith),
    )

pub record-append : (a b : Bytes) → record_size ≤ length a → record_in (a ++ b) ≡ record_in a
record-append a b h = sym (record-front (a ++ b)) ∙ ap record_in (take-append-le record_size a b h) ∙ record-front a

-- a length and behind it so many of 64 bytes
pub filled-part : (s : Bytes) (at : ℕ) → get_or s at 0 ≤ 64 → take (at + 1 + get_or s at 0 - (at + 1)) (drop (at + 1) s) ≡ take (get_or s at 0) (take 64 (drop (at + 1) s))
filled-part s at h = part-is s (at + 1) (get_or s at 0) ∙ sym (take-take (get_or s at 0) 64 (drop (at + 1) s) h)

-- at the start of what lies from `at` on
pub filled-first : (s : Bytes) (at : ℕ) → take (get_or s at 0) (take 64 (drop (at + 1) s)) ≡ take (get_or (drop at s) 0 0) (take 64 (drop 1 (drop at s)))
filled-first s at = let e : at + 0 ≡ at = omega arith in sym (rw (get_or-drop at s 0 0, drop-drop 1 at s, e))

-- the fields of record i, as they are read from the table
pub name-part : (s : Bytes) (i : ℕ) → take (get_or s (i * record_size) 0) (take 64 (drop (i * record_size + 1) s)) ≡ (record_at s i).name
unfolding record_at record_in
name-part s i = filled-first s (i * record_size)

pub key-part : (s : Bytes) (i : ℕ) → take (get_or s (i * record_size + 71) 0) (take 64 (drop (i * record_size + 71 + 1) s)) ≡ (record_at s i).key
unfolding record_at record_in
key-part s i = let e : i * record_size + 71 + 1 ≡ i * record_size + 72 = omega arith in rw (get_or-drop (i * record_size) s 71 0, drop-drop 72 (i * record_size) s, e)

pub version-part : (s : Bytes) (i : ℕ) → number (take 2 (drop (i * record_size + 65) s)) ≡ (record_at s i).version
unfolding record_at record_in
version-part s i = rw (drop-drop 65 (i * record_size) s)

pub epoch-part : (s : Bytes) (i : ℕ) → number (take 4 (drop (i * record_size + 67) s)) ≡ (record_at s i).epoch
unfolding record_at record_in
epoch-part s i = rw (drop-drop 67 (i * record_size) s)

pub opening-part : (s : Bytes) (i : ℕ) → take wide (drop (i * record_size + 136) s) ≡ (record_at s i).opening
unfolding record_at record_in
opening-part s i = rw (drop-drop 136 (i * record_size) s)

-- ---- records by number

pub at_zero : (s : Bytes) → record_at s 0 ≡ record_in s
unfolding record_at
at_zero s = refl

-- record i of what stands behind n records, and of what stands in front
pub at_drop : (s : Bytes) (n i : ℕ) → record_at (drop (n * record_size) s) i ≡ record_at s (n + i)
unfolding record_at
at_drop s n i = let e : n * record_size + i * record_size ≡ (n + i) * record_size = omega arith in ap record_in (drop-drop (i * record_size) (n * record_size) s ∙ ap (λ k. drop k s) e)

pub at_take : (s : Bytes) (k i : ℕ) → suc i * record_size ≤ k → record_at (take k s) i ≡ record_at s i
unfolding record_at
at_take s k i h =
    ap record_in (drop-take (i * record_size) k s)
    ∙ sym (record-front (take (k - i * record_size) (drop (i * record_size) s)))
    ∙ ap record_in (take-take record_size (k - i * record_size) (drop (i * record_size) s) (omega arith))
    ∙ record-front (drop (i * record_size) s)

pub at_same : (s t : Bytes) (k i : ℕ) → suc i * record_size ≤ k → take k s ≡ take k t → record_at s i ≡ record_at t i
at_same s t k i h e = sym (at_take s k i h) ∙ ap (λ x. record_at x i) e ∙ at_take t k i h

pub stands_same : (s t : Bytes) (k i : ℕ) → suc i * record_size ≤ k → k ≤ length t → take k s ≡ take k t → Stands s i → Stands t i
stands_same s t k i h l e x =
    let byte : (j : ℕ) → j < k → get_or s j 0 ≡ get_or t j 0 = λ j m. sym (get_or-take k s j 0 m) ∙ ap (λ u. get_or u j 0) e ∙ get_or-take k t j 0 m in
    record {
      reach = omega arith;
      name-short = omega (arith, byte (i * record_size) (omega arith), x.name-short);
      key-short = omega (arith, byte (i * record_size + 71) (omega arith), x.key-short);
    }

pub at_left : (a b : Bytes) (i : ℕ) → suc i * record_size ≤ length a → record_at (a ++ b) i ≡ record_at a i
unfolding record_at
at_left a b i h =
    ap record_in (drop-append-le (i * record_size) a b (omega arith))
    ∙ record-append (drop (i * record_size) a) b (omega (arith, length-drop (i * record_size) a))

pub at_right : (a b : Bytes) (n i : ℕ) → length a ≡ n * record_size → record_at (a ++ b) (n + i) ≡ record_at b i
at_right a b n i h = sym (at_drop (a ++ b) n i) ∙ ap (λ s. record_at s i) (drop_at a b (n * record_size) h)

-- ---- the first n records

pub records-length : (n : ℕ) (s : Bytes) → length (records_in n s) ≡ n
unfolding records_in
records-length n s = length-map (up_from 0 n) (record_at s) ∙ up_from-length 0 n

pub records-none : (s : Bytes) → records_in 0 s ≡ []
unfolding records_in up_from
records-none s = refl

pub records-snoc : (n : ℕ) (s : Bytes) → records_in (suc n) s ≡ records_in n s ++ (record_at s n ∷ [])
unfolding records_in
records-snoc n s = rw (zero-add n) at (ap (map (record_at s)) (up_from-snoc 0 n) ∙ map-append (record_at s) (up_from 0 n) ((0 + n) ∷ []))

pub records-get_or : (n : ℕ) (s : Bytes) (i : ℕ) (d : Record) → i < n → get_or (records_in n s) i d ≡ record_at s i
unfolding records_in
records-get_or n s i d h = rw (zero-add i) at (get_or-up_from (record_at s) d 0 n i h)

pub records-in : (n : ℕ) (s : Bytes) (i : ℕ) → i < n → record_at s i ∈ records_in n s
unfolding records_in
records-in n s i h = in_map (record_at s) (up_from 0 n) i (in-up_from 0 n i (omega arith) (omega arith))

pub in-records : (n : ℕ) (s : Bytes) (r : Record) → r ∈ records_in n s → (i : ℕ) × (i < n) × (r ≡ record_at s i)
unfolding records_in
in-records n s r m =
    let (i, k, e) = map-in (record_at s) (up_from 0 n) r m in
    (i, omega (arith, (up_from-in 0 n i k).1), e)

-- what holds of each holds of all, and back
pub records-all : (P : Record → Type 0) (n : ℕ) (s : Bytes) → ((i : ℕ) → i < n → P (record_at s i)) → All P (records_in n s)
records-all P n s h = in-all P (records_in n s) (λ r m. let (i, k, e) = in-records n s r m in rw e (h i k))

pub records-each : (P : Record → Type 0) (n : ℕ) (s : Bytes) → All P (records_in n s) → (i : ℕ) → i < n → P (record_at s i)
records-each P n s h i k = all_in P (records_in n s) h (record_at s i) (records-in n s i k)

-- the same records one by one
pub records-eq : (n : ℕ) (s t : Bytes) → ((i : ℕ) → i < n → record_at s i ≡ record_at t i) → records_in n s ≡ records_in n t
records-eq zero s t h = records-none s ∙ sym (records-none t)
records-eq (suc n) s t h =
    records-snoc n s
    ∙ ap (λ l. l ++ (record_at s n ∷ [])) (records-eq n s t (λ i k. h i (omega arith)))
    ∙ ap (λ r. records_in n t ++ (r ∷ [])) (h n (omega arith))
    ∙ sym (records-snoc n t)

-- they are in the first n * 168 bytes
pub records-same : (n : ℕ) (s t : Bytes) → take (n * record_size) s ≡ take (n * record_size) t → records_in n s ≡ records_in n t
records-same n s t e = records-eq n s t (λ i k. at_same s t (n * record_size) i (omega arith) e)

pub records-take : (n : ℕ) (s : Bytes) (k : ℕ) → n * record_size ≤ k → records_in n (take k s) ≡ records_in n s
records-take n s k h = records-eq n (take k s) s (λ i l. at_take s k i (omega arith))

-- tables one behind the other
pub records-append : (n m : ℕ) (a b : Bytes) → length a ≡ n * record_size → records_in (n + m) (a ++ b) ≡ records_in n a ++ records_in m b
records-append n zero a b h =
    let e : n + 0 ≡ n = omega arith in
    rw (e, records-none b) (records-eq n (a ++ b) a (λ i k. at_left a b i (omega arith)) ∙ sym (append-nil (records_in n a)))
records-append n (suc m) a b h =
    let e : n + suc m ≡ suc (n + m) = omega arith in
    rw e
    (records-snoc (n + m) (a ++ b)
    ∙ ap (λ l. l ++ (record_at (a ++ b) (n + m) ∷ [])) (records-append n m a b h)
    ∙ ap (λ r. records_in n a ++ records_in m b ++ (r ∷ [])) (at_right a b n m h)
    ∙ append_assoc (records_in n a) (records_in m b) (record_at b m ∷ [])
    ∙ ap (λ l. records_in n a ++ l) (sym (records-snoc m b)))

-- the first n records, and those behind them
pub records-split : (n m : ℕ) (s : Bytes) → n * record_size ≤ length s → records_in (n + m) s ≡ records_in n s ++ records_in m (drop (n * record_size) s)
records-split n m s h =
    ap (records_in (n + m)) (sym (take-append-drop (n * record_size) s))
    ∙ records-append n m (take (n * record_size) s) (drop (n * record_size) s) (length-take-le (n * record_size) s h)
    ∙ ap (λ l. l ++ records_in m (drop (n * record_size) s)) (records-take n s (n * record_size) (omega arith))
