-- The rules of absence by the first difference: what stands at the end leaves the label behind bit k and before its own end. Assumes nothing.
use mathlib.Core.Path.{◌≡◌, refl, sym, ap, ◌∙◌}
use mathlib.Core.Logic.{◌⊎◌, inl, inr, ⊎_elim, by_cases}
use mathlib.Core.Bool.{false, not, ◌&&◌}
use Prim.Native.Nat.{ℕ, suc, ◌+◌, ◌-◌, ◌≤◌, ◌<◌}
use native.Mathlib.Omega.{arith}
use native.Mathlib.Decide.{dec_le}
use lib.Dec.{leb, ltb}
use lib.ListN.{length, take, drop}
use lib.Seq.{length-take-le, take_all}
use borrow.Author.Tests.{le-leb, lt-leb, leb-true, leb-false, ltb-true, lt-ltb, le-ltb, eq-eqb}
use Rattle.paper.specs.Bytes.{Bytes, number}
use Rattle.paper.specs.Bits.{Bits, bits_of, starts, lcp, first_difference}
use Rattle.paper.specs.Path.{same_bits, absent, other, off}
use Rattle.paper.proofs.Lists.{true-or-false, and_left, and_right, not-both}
use Rattle.paper.proofs.Bits.{pfx-take, pfx-trans, starts-pfx, pfx-starts, lcp-comm}
use Rattle.paper.proofs.Bytes.{bits_of-length}
use Rattle.ranges.proofs.Slices.{length_part, rest-is}
use Rattle.bits.proofs.Lcp.{both_ways, shorter, first-bits}
use Rattle.path_form.specs.Places.{end_in, EndStands}
use Rattle.path.specs.Taken.{absent_by, shown_at, parting}
use Rattle.path_form.specs.declared.End.TheVariants.{Other, Off}
use Rattle.path.specs.declared.Shown.TheVariants.{Absent, Neither}
use Rattle.fields.proofs.Flat.{and-false}

-- ---- prefixes by their lengths

-- what is no longer than n bits begins x's first n bits exactly where it begins x
within-bits : (p x : Bits) (n : ℕ) → length p ≤ n → n ≤ length x → starts p (take n x) ≡ starts p x
within-bits p x n h l =
    let m : length (take n x) ≡ n = length-take-le n x l in
    both_ways (starts p (take n x)) (starts p x)
    (λ e. pfx-starts p x (pfx-trans (starts-pfx p (take n x) e) (pfx-take n x)))
    (λ e. pfx-starts p (take n x) (shorter p (take n x) x (starts-pfx p x e) (pfx-take n x) (omega arith)))

not-leb : (a b : ℕ) → not (leb a b) ≡ ltb b a
not-leb a b = ⊎_elim (λ e. rw e (sym (le-ltb b a (leb-true a b e)))) (λ e. rw e (sym (lt-ltb b a (leb-false a b e)))) (true-or-false (leb a b))

-- ---- the two rules, for labels of equal length

module _ (x L : Bits) (k : ℕ) (same_size : length x ≡ length L) (inside : k < length L) where
  -- x's first n bits begin the label exactly where the two agree on n bits
  begins : (n : ℕ) → n ≤ length x → starts (take n x) L ≡ leb n (length (lcp x L))
  begins n h = first-bits L x n h ∙ ap (λ l. leb n (length l)) (lcp-comm L x)

  leaf-parts : (c : Bytes) (e : ℕ) → absent L k (other x c e) ≡ (ltb k (length (lcp x L)) && ltb (length (lcp x L)) (length x))
  unfolding absent same_bits
  leaf-parts c e =
      let all : take (length x) x ≡ x = take_all (length x) x (omega arith) in
      let one : starts x L ≡ leb (length x) (length (lcp x L)) = ap (λ y. starts y L) (sym all) ∙ begins (length x) (omega arith) in
      rw (first-bits x L (suc k) inside, eq-eqb (length x) (length L) same_size, one, not-leb (length x) (length (lcp x L)))

  inner-parts : (n : ℕ) (l r : Bytes) → n ≤ length x → absent L k (off (take n x) l r) ≡ (ltb k (length (lcp x L)) && ltb (length (lcp x L)) n)
  unfolding absent
  inner-parts n l r h =
      let d = length (lcp x L) in
      let m : length (take n x) ≡ n = length-take-le n x h in
      let j : length (take (suc k) L) ≡ suc k = length-take-le (suc k) L inside in
      by_cases (dec_le (suc (suc k)) n)
      (λ g. let f = within-bits (take (suc k) L) x n (omega arith) h in
      rw (m, le-leb (suc (suc k)) n g, f, first-bits x L (suc k) inside, begins n h, not-leb n d))
      (λ g. rw (m, lt-leb (suc (suc k)) n (omega arith))
      (both_ways false (ltb k d && ltb d n) (λ e. not-both e refl)
      (λ e. absurd (omega (arith, ltb-true k d (and_left (ltb k d) (ltb d n) e), ltb-true d n (and_right (ltb k d) (ltb d n) e))))))

-- ---- an end at its place

module _ (s label : Bytes) (k : ℕ) (size : length label ≡ 32) (short : k ≤ 255) where
  pub other-shows : (at e : ℕ) → EndStands s (Other at e) → shown_at (bits_of label) k (end_in s (Other at e)) ≡ parting k 256 (first_difference (take 32 (drop at s)) label)
  unfolding first_difference
  other-shows at e h =
      let x = take 32 (drop at s) in
      let n : length (bits_of x) ≡ 256 = omega (arith, bits_of-length x, length_part s at 32 (omega arith)) in
      let m = bits_of-length label in
      ap absent_by (rw n at (leaf-parts (bits_of x) (bits_of label) k (omega arith) (omega arith) (take 32 (drop (at + 32) s)) e))

  pub off-shows : (at : ℕ) → EndStands s (Off at)
      → shown_at (bits_of label) k (end_in s (Off at)) ≡ parting k (number (take 2 (drop at s))) (first_difference (take 32 (drop (at + 2) s)) label)
  unfolding first_difference
  off-shows at h =
      let x = take 32 (drop (at + 2) s) in
      let n : length (bits_of x) ≡ 256 = omega (arith, bits_of-length x, length_part s (at + 2) 32 (omega arith)) in
      let m = bits_of-length label in
      ap absent_by (inner-parts (bits_of x) (bits_of label) k (omega arith) (omega arith) (number (take 2 (drop at s))) (take 32 (drop (at + 34) s)) (take 32 (drop (at + 66) s)) (omega arith))

-- ---- as it is tested

pub parting-yes : (k n d : ℕ) → k < d → d < n → parting k n d ≡ Absent
parting-yes k n d h l = rw (lt-ltb k d h, lt-ltb d n l)

pub parting-no : (k n d : ℕ) → (d ≤ k) ⊎ (n ≤ d) → parting k n d ≡ Neither
parting-no k n d (inl h) = rw (le-ltb k d h)
parting-no k n d (inr h) = rw (le-ltb d n h, and-false)

-- the first difference of the label at a place, which is lent with all that stands behind it
pub difference-at : (s label : Bytes) (at : ℕ) → length label ≡ 32 → first_difference (take 32 (take (length s - at) (drop at s))) (take 32 label) ≡ first_difference (take 32 (drop at s)) label
difference-at s label at h = rw (rest-is s at, take_all 32 label (omega arith))
