-- The rules of a list: the order of neighbours, and the rule of each record. Assumes nothing.
use mathlib.Core.Path.{◌≡◌, refl, sym, ap, ◌∙◌}
use mathlib.Core.Bool.{Bool, true, false, ◌&&◌, and-true, and-false}
use mathlib.Core.List.{List, [], ◌∷◌}
use Prim.Native.Nat.{ℕ, zero, suc, ◌+◌, ◌≤◌, ◌<◌, min}
use native.Mathlib.Omega.{arith}
use native.Mathlib.Decide.{dec_le}
use mathlib.Core.Logic.{by_cases}
use borrow.Author.Tests.{lt-ltb, le-ltb}
use lib.Dec.{ltb, leb, eqb}
use lib.ListN.{length, take, drop, get_or}
use Rattle.std.specs.List.{AllAdjacentBelow, IsAllAdjacentAnswer, list_all}
use Rattle.paper.specs.Lists.{every}
use Rattle.paper.specs.Numbers.{wide}
use Rattle.paper.specs.Bytes.{Bytes, number}
use Rattle.paper.specs.Bits.{bits_of, first_difference}
use Rattle.paper.specs.Audit.{AuditRecord, before?, in_order, record_rule, commitment_in}
use Rattle.paper.specs.declared.Which.{Which}
use Rattle.paper.specs.declared.Which.TheVariants.{OfOld}
use Rattle.ranges.proofs.Slices.{length_part}
use Rattle.ranges.proofs.Compare.{zeros-same}
use Rattle.bit_order.proofs.Cut.{before-cut}
use Rattle.audit_form.specs.Places.{label_at, key_at, record_by, record_at, records_of}
use Rattle.audit_form.proofs.Places.{record-key, label-bits, labels-differ}

-- two records in order: each key goes on past what the labels share, and there the second has a 1
order-test : (s t : Bytes) (k : ℕ) → length s ≡ 99 → length t ≡ 99 → k ≡ first_difference (take 32 (label_at s 0)) (take 32 (label_at t 0))
    → (ltb k (number (take 2 (drop 1 s))) && (ltb k (number (take 2 (drop 1 t))) && get_or (bits_of (label_at t 0)) k false)) ≡ before? (key_at s 0) (key_at t 0)
unfolding key_at
order-test s t k hs ht e = rw (e, labels-differ s t 0 0) (before-cut (bits_of (label_at s 0)) (bits_of (label_at t 0)) _ _ (label-bits s 0 (omega (arith, hs)) ∙ sym (label-bits t 0 (omega (arith, ht)))))

module _ (s t : Bytes) (k : ℕ) (hs : length s ≡ 99) (ht : length t ≡ 99) (e : k ≡ first_difference (take 32 (label_at s 0)) (take 32 (label_at t 0))) where
  pub order-bit : k < min (number (take 2 (drop 1 s))) (number (take 2 (drop 1 t))) → get_or (bits_of (label_at t 0)) k false ≡ before? (key_at s 0) (key_at t 0)
  order-bit h =
      let a : k < number (take 2 (drop 1 s)) = omega arith in
      let b : k < number (take 2 (drop 1 t)) = omega arith in
      rw (lt-ltb _ _ a, lt-ltb _ _ b) at (order-test s t k hs ht e)

  pub order-ends : min (number (take 2 (drop 1 s))) (number (take 2 (drop 1 t))) ≤ k → false ≡ before? (key_at s 0) (key_at t 0)
  order-ends h = by_cases (dec_le (number (take 2 (drop 1 s))) k)
      (λ l. rw (le-ltb _ _ l) at (order-test s t k hs ht e))
      (λ l. let b : number (take 2 (drop 1 t)) ≤ k = omega arith in simp and-false at (rw (le-ltb _ _ b) at (order-test s t k hs ht e)))

-- a list is in order if neighbours are
abbrev pub before_rows : Bytes → Bytes → Bool
before_rows x y = before? (key_at x 0) (key_at y 0)

order-cons : (x y : Bytes) (rows : List Bytes) → in_order (records_of (x ∷ y ∷ rows)) ≡ (before_rows x y && in_order (records_of (y ∷ rows)))
unfolding in_order
order-cons x y rows = rw (record-key x 0, record-key y 0)

order-all : (rows : List Bytes) → AllAdjacentBelow (λ x y. true ≡ before_rows x y) rows (length rows) → in_order (records_of rows) ≡ true
unfolding in_order
order-all [] h = refl
order-all (x ∷ []) h = refl
order-all (x ∷ y ∷ rows) h =
    let first : true ≡ before_rows x y = h 0 [] (omega arith) in
    let rest = order-all (y ∷ rows) (λ k d l. let e : suc k + 1 ≡ suc (k + 1) = omega arith in rw e at (h (suc k) d (omega arith))) in
    order-cons x y rows ∙ rw (← first) rest

order-not : (rows : List Bytes) (k : ℕ) → k + 1 < length rows → false ≡ before_rows (get_or rows k []) (get_or rows (k + 1) []) → in_order (records_of rows) ≡ false
order-not [] k l e = absurd (omega arith)
order-not (x ∷ []) k l e = absurd (omega arith)
order-not (x ∷ y ∷ rows) zero l e = order-cons x y rows ∙ rw (← e)
order-not (x ∷ y ∷ rows) (suc k) l e =
    let f : suc k + 1 ≡ suc (k + 1) = omega arith in
    order-cons x y rows ∙ rw (order-not (y ∷ rows) k (omega arith) (rw f at e)) (and-false _)

pub order-is : (rows : List Bytes) (r : Bool) → IsAllAdjacentAnswer (λ x y b. b ≡ before_rows x y) rows r → r ≡ in_order (records_of rows)
order-is rows true h = sym (order-all rows h)
order-is rows false (k, l, e) = sym (order-not rows k l (e []))

-- each of a list obeys if all of it does
pub each-is : (t : AuditRecord → Bool) (rows : List Bytes) → list_all (λ r. t (record_at r 0)) rows ≡ every t (records_of rows)
unfolding every
each-is t [] = refl
each-is t (r ∷ rows) = ap (λ b. t (record_at r 0) && b) (each-is t rows)

-- the rule of a record, by its kind
module _ (w : Which) (old new : ℕ) (s : Bytes) where
  pub rule-opened : get_or s 0 0 ≡ 1 → record_rule w old new (record_at s 0) ≡ true
  unfolding record_at record_by
  rule-opened e = rw e

  pub rule-unchanged : get_or s 0 0 ≡ 0 → commitment_in w (take wide (drop 35 s)) ≡ true
      → record_rule w old new (record_at s 0) ≡ (leb 1 (number (take 4 (drop 67 s))) && leb (number (take 4 (drop 67 s))) old)
  unfolding record_at record_by
  rule-unchanged e c = rw (e, c, and-true (leb (number (take 4 (drop 67 s))) old))

  pub rule-fresh : (get_or s 0 0 ≡ 0 → ⊥) → (get_or s 0 0 ≡ 1 → ⊥) → commitment_in w (take wide (drop 35 s)) ≡ true
      → record_rule w old new (record_at s 0) ≡ eqb (number (take 4 (drop 67 s))) new
  unfolding record_at record_by
  rule-fresh n m c = by (get_or s 0 0) n m
    where
      by : (k : ℕ) → (k ≡ 0 → ⊥) → (k ≡ 1 → ⊥) → record_rule w old new (record_by k s 0) ≡ eqb (number (take 4 (drop 67 s))) new
      by zero n m = absurd (n refl)
      by (suc zero) n m = absurd (m refl)
      by (suc (suc k)) n m = rw c (and-true _)

  pub rule-commitment : (get_or s 0 0 ≡ 1 → ⊥) → commitment_in w (take wide (drop 35 s)) ≡ false → record_rule w old new (record_at s 0) ≡ false
  unfolding record_at record_by
  rule-commitment m c = by (get_or s 0 0) m
    where
      by : (k : ℕ) → (k ≡ 1 → ⊥) → record_rule w old new (record_by k s 0) ≡ false
      by zero m = rw c (simp and-false)
      by (suc zero) m = absurd (m refl)
      by (suc (suc k)) m = rw c (and-false (eqb (number (take 4 (drop 67 s))) new))

-- "Leaves of *old* have a zero commitment."
pub commitment-old : (s : Bytes) → length s ≡ 99 → every (λ b. eqb b 0) (take wide (drop 35 s)) ≡ commitment_in OfOld (take wide (drop 35 s))
commitment-old s h =
    let n : length (take wide (drop 35 s)) ≡ wide = length_part s 35 wide (omega (arith, h)) in
    rw n at (zeros-same (take wide (drop 35 s)))
