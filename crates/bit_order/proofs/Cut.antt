-- Keys that are the first bits of labels: a label's own, or a prefix. Where two keys in bit order part, their labels do, and the
-- test of the definition is a test of the bits behind the labels' longest common prefix. Assumes nothing.
use mathlib.Core.Path.{◌≡◌, refl, sym, ap, ◌∙◌}
use mathlib.Core.Logic.{⊎_elim}
use mathlib.Core.Bool.{Bool, true, false, ◌&&◌}
use Prim.Native.Nat.{ℕ, ◌<◌, ◌≤◌}
use native.Mathlib.Omega.{arith}
use lib.Dec.{ltb}
use lib.ListN.{length, take, get_or, length-take, get_or-eq_default}
use lib.Seq.{take_at}
use borrow.Author.Tests.{lt-ltb, ltb-true, ltb-false}
use Rattle.paper.specs.Bits.{Bits, Pfx, ◌▹◌, lcp}
use Rattle.paper.specs.Audit.{before?}
use Rattle.paper.proofs.Lists.{true-or-false, not-both, and_left, and_right, and_both}
use Rattle.paper.proofs.Bits.{pfx-refl, pfx-trans, pfx-take, pfx-full, pfx-length, pfx-compare, pfx-one-way, pfx-bit, length-snoc, lcp-left, lcp-right, lcp-most}
use Rattle.paper.proofs.Order.{Before, before-lcp, test-before, before-test}

-- a prefix is the first bits; behind it goes the next one
pub pfx-is-take : {p x : Bits} → Pfx p x → p ≡ take (length p) x
pfx-is-take {p} h = sym (take_at p h.rest (length p) refl) ∙ ap (take (length p)) h.eq

pub pfx-goes-on : {p x : Bits} → Pfx p x → length p < length x → Pfx (p ▹ get_or x (length p) false) x
pfx-goes-on {p} {x} h k = rw (← (pfx-is-take h)) at (pfx-bit x (length p) k)

-- a prefix that is not longer than the cut is one of what is cut
pub pfx-cut : {p x : Bits} (n : ℕ) → Pfx p x → length p ≤ n → Pfx p (take n x)
pfx-cut {p} {x} n h k = ⊎_elim (λ w. w) whole (pfx-compare p (take n x) x h (pfx-take n x))
  where
    whole : Pfx (take n x) p → Pfx p (take n x)
    whole w = rw (pfx-full w (omega (arith, length-take n x, pfx-length h))) (pfx-refl p)

-- two labels of one length, of which the second has a 1 where they first differ
differ : (x y : Bits) → length x ≡ length y → get_or y (length (lcp x y)) false ≡ true → Before x y
differ x y e t = record { at = p; low = rw low_bit at (pfx-goes-on (lcp-left x y) (omega (arith, inside))); high = rw t at (pfx-goes-on (lcp-right x y) inside) }
  where
    p : Bits
    p = lcp x y

    inside : length p < length y
    inside = ⊎_elim (λ h. ltb-true _ _ h) (λ h. not-both t (get_or-eq_default y false (ltb-false (length p) (length y) h))) (true-or-false (ltb (length p) (length y)))

    low_bit : get_or x (length p) false ≡ false
    low_bit = ⊎_elim
        (λ h. absurd (omega (arith, length-snoc p true, pfx-length (lcp-most (p ▹ true) x y (rw h at (pfx-goes-on (lcp-left x y) (omega (arith, inside)))) (rw t at (pfx-goes-on (lcp-right x y) inside))))))
        (λ h. h) (true-or-false (get_or x (length p) false))

-- cut keys in bit order: so are the labels, and they part at the same bit, before either cut
pub uncut : (x y : Bits) (m n : ℕ) → Before (take m x) (take n y) → Before x y
uncut x y m n b = record { at = b.at; low = pfx-trans b.low (pfx-take m x); high = pfx-trans b.high (pfx-take n y) }

pub uncut-lcp : (x y : Bits) (m n : ℕ) → Before (take m x) (take n y) → lcp (take m x) (take n y) ≡ lcp x y
unfolding uncut
uncut-lcp x y m n b = sym (before-lcp (take m x) (take n y) b) ∙ before-lcp x y (uncut x y m n b)

-- tests that pass together are one
pub both_ways : (a b : Bool) → (a ≡ true → b ≡ true) → (b ≡ true → a ≡ true) → a ≡ b
both_ways true b f g = sym (f refl)
both_ways false true f g = g refl
both_ways false false f g = refl

pub before-cut : (x y : Bits) (m n : ℕ) → length x ≡ length y
    → (ltb (length (lcp x y)) m && (ltb (length (lcp x y)) n && get_or y (length (lcp x y)) false)) ≡ before? (take m x) (take n y)
unfolding uncut
before-cut x y m n e = both_ways _ _ to from
  where
    k : ℕ
    k = length (lcp x y)

    to : (ltb k m && (ltb k n && get_or y k false)) ≡ true → before? (take m x) (take n y) ≡ true
    to h =
        let hm = ltb-true k m (and_left _ _ h) in
        let h' = and_right (ltb k m) _ h in
        let hn = ltb-true k n (and_left _ _ h') in
        let b = differ x y e (and_right (ltb k n) _ h') in
        before-test _ _ (record {
          at = b.at;
          low = pfx-cut m b.low (omega (arith, length-snoc b.at false, ap length (before-lcp x y b)));
          high = pfx-cut n b.high (omega (arith, length-snoc b.at true, ap length (before-lcp x y b)));
        })

    from : before? (take m x) (take n y) ≡ true → (ltb k m && (ltb k n && get_or y k false)) ≡ true
    from h =
        let b = test-before _ _ h in
        let c = uncut x y m n b in
        let q = ap length (before-lcp x y c) in
        let hk : k < length y = omega (arith, pfx-length c.high, length-snoc c.at true) in
        and_both (lt-ltb k m (omega (arith, pfx-length b.low, length-snoc b.at false, length-take m x)))
        (and_both (lt-ltb k n (omega (arith, pfx-length b.high, length-snoc b.at true, length-take n y)))
        (pfx-one-way (lcp x y) (get_or y k false) true (pfx-goes-on (lcp-right x y) hk) (rw (before-lcp x y c) at c.high)))
