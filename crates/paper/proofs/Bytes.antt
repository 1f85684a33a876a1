-- Numbers and bits in bytes: each way back and forth. Assumes nothing.
use mathlib.Core.Path.{◌≡◌, refl, sym, ap, ap₂, ◌∙◌, subst}
use mathlib.Core.Logic.{⊎_elim, by_cases}
use mathlib.Core.Bool.{Bool, true, false, ◌&&◌}
use mathlib.Core.List.{[], ◌∷◌, ◌++◌}
use Prim.Native.Nat.{ℕ, zero, suc, ◌+◌, ◌*◌, ◌/◌, ◌%◌, ◌^◌, ◌<◌, ◌≤◌}
use native.Mathlib.Nat.{mod-lt, zero-div, zero-mod, div-add-mod', div-lt_iff_lt-mul, mul-add-div_right, mul-add-mod_self_right, mod-eq_of_lt, div-eq_of_lt, add-zero}
use native.Mathlib.Omega.{arith}
use native.Mathlib.Decide.{dec_le}
use lib.ListN.{length, take, drop, length-append, length-drop, take-append-drop, replicate}
use lib.Seq.{drop_at, drop-nil}
use lib.Pow.{pow_pos, split, high, low, are_bytes}
use lib.Dec.{T, leb, ltb, eqb}
use borrow.Author.Tests.{eqb-true, eqb-false, eq-eqb, ne_eqb, ltb-true}
use Rattle.paper.specs.Bytes.{Bytes, Bytewise, be, number, same}
use Rattle.paper.specs.Bits.{Bits, Pfx, to_bits, from_bits, bit_val, bits_of, pack}
use Rattle.paper.proofs.Lists.{and_left, and_right, and_both, not-both, true-or-false}
use Rattle.paper.proofs.Bits.{pfx-nil, pfx-cons, pfx-app, pfx-compare, pfx-full, pfx-trans}

-- the library's test of bytes
pub bytewise : (s : Bytes) → T (are_bytes s) → Bytewise s
bytewise [] h = tt
bytewise (b ∷ s) h = by (ltb b 256) refl h (bytewise s)
  where
    by : (t : Bool) → ltb b 256 ≡ t → T (t && are_bytes s) → (T (are_bytes s) → Bytewise s) → (b < 256) × Bytewise s
    by true e k f = (ltb-true b 256 e, f k)
    by false e k f = absurd k

-- ---- the same string

eqb_comm : (x y : ℕ) → eqb x y ≡ eqb y x
eqb_comm x y = ⊎_elim
    (λ e. let q = eqb-true x y e in e ∙ sym (eq-eqb y x (sym q)))
    (λ e. e ∙ sym (ne_eqb y x (λ q. eqb-false x y e (sym q))))
    (true-or-false (eqb x y))

pub same-eq : (s t : Bytes) → same s t ≡ true → s ≡ t
unfolding same
same-eq [] [] e = refl
same-eq [] (y ∷ t) e = not-both e refl
same-eq (x ∷ s) [] e = not-both e refl
same-eq (x ∷ s) (y ∷ t) e = ap₂ {C = Bytes} (λ a b. a ∷ b) (eqb-true x y (and_left _ _ e)) (same-eq s t (and_right (eqb x y) _ e))

pub same_refl : (s : Bytes) → same s s ≡ true
unfolding same
same_refl [] = refl
same_refl (x ∷ s) = and_both (eq-eqb x x refl) (same_refl s)

pub same-comm : (s t : Bytes) → same s t ≡ same t s
unfolding same
same-comm [] [] = refl
same-comm [] (y ∷ t) = refl
same-comm (x ∷ s) [] = refl
same-comm (x ∷ s) (y ∷ t) = ap₂ (λ a b. a && b) (eqb_comm x y) (same-comm s t)

pub eq-same : {s t : Bytes} → s ≡ t → same s t ≡ true
eq-same {s} e = rw (← e) (same_refl s)

-- ---- numbers

pub be-length : (n x : ℕ) → length (be n x) ≡ n
unfolding be
be-length zero x = refl
be-length (suc n) x = ap suc (be-length n (x % 256 ^ n))

pub pow256-pos : (n : ℕ) → 0 < 256 ^ n
pow256-pos zero = omega arith
pow256-pos (suc n) = omega (arith, pow256-pos n)

pub be-bytes : (n x : ℕ) → x < 256 ^ n → Bytewise (be n x)
unfolding be
be-bytes zero x h = tt
be-bytes (suc n) x h = ((div-lt_iff_lt-mul (pow256-pos n)).1 (omega arith), be-bytes n (x % 256 ^ n) (mod-lt x (pow256-pos n)))

pub number-be : (n x : ℕ) → x < 256 ^ n → number (be n x) ≡ x
unfolding be number
number-be zero x h = omega arith
number-be (suc n) x h =
    rw (be-length n (x % 256 ^ n), number-be n (x % 256 ^ n) (mod-lt x (pow256-pos n))) (div-add-mod' x (256 ^ n))

pub number_lt : (s : Bytes) → Bytewise s → number s < 256 ^ length s
unfolding number
number_lt [] h = omega arith
number_lt (b ∷ s) h =
    let k = number_lt s h.1 in
    let m : b * 256 ^ length s ≤ 255 * 256 ^ length s = native.Mathlib.Nat.mul-le-mul_right (256 ^ length s) (native.Mathlib.Nat.le_of_suc-le-suc h.0) in
    let g : b * 256 ^ length s + number s < 256 ^ suc (length s) = omega arith in
    g

pub be-number : (s : Bytes) → Bytewise s → be (length s) (number s) ≡ s
unfolding be number
be-number [] h = refl
be-number (b ∷ s) h =
    let P = 256 ^ length s in
    let k : number s < P = number_lt s h.1 in
    let q : (b * P + number s) / P ≡ b = mul-add-div_right (pow256-pos (length s)) b (number s) ∙ ap (λ x. b + x) (div-eq_of_lt k) ∙ add-zero b in
    let r : (b * P + number s) % P ≡ number s = mul-add-mod_self_right b P (number s) ∙ mod-eq_of_lt k in
    ap₂ {C = Bytes} (λ x y. x ∷ y) q (ap (be (length s)) r ∙ be-number s h.1)

pub be-inj : (n x y : ℕ) → x < 256 ^ n → y < 256 ^ n → be n x ≡ be n y → x ≡ y
be-inj n x y h k e = sym (number-be n x h) ∙ ap number e ∙ number-be n y k

-- ---- bits

pub to_bits-length : (n x : ℕ) → length (to_bits n x) ≡ n
unfolding to_bits
to_bits-length zero x = refl
to_bits-length (suc n) x = ap suc (to_bits-length n (x % 2 ^ n))

pub bits_of-length : (s : Bytes) → length (bits_of s) ≡ 8 * length s
unfolding bits_of
bits_of-length [] = refl
bits_of-length (b ∷ s) = omega (arith, length-append (to_bits 8 b) (bits_of s), to_bits-length 8 b, bits_of-length s)

pub pack-length : (n : ℕ) (p : Bits) → length (pack n p) ≡ n
unfolding pack
pack-length zero p = refl
pack-length (suc n) p = ap suc (pack-length n (drop 8 p))

from_bits-lt : (n : ℕ) (p : Bits) → from_bits n p < 2 ^ n
unfolding from_bits
from_bits-lt zero p = omega arith
from_bits-lt (suc n) [] = pow_pos (suc n)
from_bits-lt (suc n) (true ∷ p) = omega (arith, from_bits-lt n p)
from_bits-lt (suc n) (false ∷ p) = omega (arith, from_bits-lt n p)

pub pack-bytes : (n : ℕ) (p : Bits) → Bytewise (pack n p)
unfolding pack
pack-bytes zero p = tt
pack-bytes (suc n) p = (from_bits-lt 8 p, pack-bytes n (drop 8 p))

from_bits-nil : (n : ℕ) → from_bits n [] ≡ 0
unfolding from_bits
from_bits-nil zero = refl
from_bits-nil (suc n) = refl

-- n bits: the first of p, and zeros where there are fewer
fill : ℕ → Bits → Bits
fill zero p = []
fill (suc n) [] = false ∷ fill n []
fill (suc n) (b ∷ p) = b ∷ fill n p

bit-back : (b : Bool) → leb 1 (bit_val b) ≡ b
bit-back true = refl
bit-back false = refl

to-from : (n : ℕ) (p : Bits) → to_bits n (from_bits n p) ≡ fill n p
unfolding from_bits to_bits fill
to-from zero p = refl
to-from (suc n) (b ∷ p) = rw (high (bit_val b) n (from_bits-lt n p), low (bit_val b) n (from_bits-lt n p), bit-back b, to-from n p)
to-from (suc n) [] = rw (zero-div (2 ^ n), zero-mod (2 ^ n)) (ap (λ t. false ∷ t) (rw (from_bits-nil n) at (to-from n [])))

fill-pfx : (n : ℕ) (p : Bits) → length p ≤ n → Pfx p (fill n p)
unfolding fill
fill-pfx zero [] h = pfx-nil []
fill-pfx zero (b ∷ p) h = absurd (omega arith)
fill-pfx (suc n) [] h = pfx-nil _
fill-pfx (suc n) (b ∷ p) h = pfx-cons b (fill-pfx n p (omega arith))

fill-take : (n : ℕ) (p : Bits) → n ≤ length p → fill n p ≡ take n p
unfolding fill
fill-take zero p h = refl
fill-take (suc n) [] h = absurd (omega arith)
fill-take (suc n) (b ∷ p) h = ap (λ t. b ∷ t) (fill-take n p (omega arith))

-- what is packed into n bytes is a prefix of their bits
pub pack-pfx : (n : ℕ) (p : Bits) → length p ≤ 8 * n → Pfx p (bits_of (pack n p))
unfolding bits_of pack
pack-pfx zero [] h = pfx-nil []
pack-pfx zero (b ∷ p) h = absurd (omega arith)
pack-pfx (suc n) p h = by_cases (dec_le 8 (length p))
    (λ k. subst (λ t. Pfx t (to_bits 8 (from_bits 8 p) ++ bits_of (pack n (drop 8 p)))) (take-append-drop 8 p)
    (rw (to-from 8 p, fill-take 8 p k) (pfx-app (take 8 p) (pack-pfx n (drop 8 p) (omega (arith, length-drop 8 p))))))
    (λ k. pfx-trans (fill-pfx 8 p (omega arith)) (rw (to-from 8 p) (record { rest = bits_of (pack n (drop 8 p)); eq = refl })))

-- so bytes and length give the bits back
pub pack-inj : (n : ℕ) (p q : Bits) → length p ≡ length q → length p ≤ 8 * n → pack n p ≡ pack n q → p ≡ q
pack-inj n p q h k e = ⊎_elim (λ u. pfx-full u (omega arith)) (λ u. sym (pfx-full u (omega arith)))
    (pfx-compare p q (bits_of (pack n q)) (rw e at (pack-pfx n p k)) (pack-pfx n q (omega arith)))

pub bits_of-pack : (n : ℕ) (p : Bits) → length p ≡ 8 * n → bits_of (pack n p) ≡ p
bits_of-pack n p h = sym (pfx-full (pack-pfx n p (omega arith)) (omega (arith, bits_of-length (pack n p), pack-length n p)))

pub bit-val : (q : ℕ) → q < 2 → bit_val (leb 1 q) ≡ q
bit-val zero h = refl
bit-val (suc zero) h = refl
bit-val (suc (suc q)) h = absurd (omega arith)

from-to : (n x : ℕ) (p : Bits) → x < 2 ^ n → from_bits n (to_bits n x ++ p) ≡ x
unfolding from_bits to_bits
from-to zero x p h = omega arith
from-to (suc n) x p h =
    let q : x / 2 ^ n < 2 = (div-lt_iff_lt-mul (pow_pos n)).1 (omega arith) in
    rw (bit-val (x / 2 ^ n) q, from-to n (x % 2 ^ n) p (mod-lt x (pow_pos n))) (split x n)

-- and bits give the bytes back
pub pack-bits_of : (s : Bytes) → Bytewise s → pack (length s) (bits_of s) ≡ s
unfolding pack bits_of
pack-bits_of [] h = refl
pack-bits_of (b ∷ s) h = rw (from-to 8 b (bits_of s) h.0, drop_at (to_bits 8 b) (bits_of s) 8 (to_bits-length 8 b), pack-bits_of s h.1)

pub bits_of-inj : (s t : Bytes) → Bytewise s → Bytewise t → length s ≡ length t → bits_of s ≡ bits_of t → s ≡ t
bits_of-inj s t h k n e = sym (pack-bits_of s h) ∙ ap₂ pack n e ∙ pack-bits_of t k

-- ---- zeros behind the bits change nothing

from_bits-zeros : (n z : ℕ) → from_bits n (replicate z false) ≡ 0
unfolding from_bits
from_bits-zeros zero z = refl
from_bits-zeros (suc n) zero = refl
from_bits-zeros (suc n) (suc z) = omega (arith, from_bits-zeros n z)

from_bits-fill : (n : ℕ) (p : Bits) (z : ℕ) → from_bits n (p ++ replicate z false) ≡ from_bits n p
unfolding from_bits
from_bits-fill zero p z = refl
from_bits-fill (suc n) [] z = from_bits-zeros (suc n) z
from_bits-fill (suc n) (b ∷ p) z = rw (from_bits-fill n p z)

drop-fill : (n : ℕ) (p : Bits) (z : ℕ) → (y : ℕ) × (drop n (p ++ replicate z false) ≡ drop n p ++ replicate y false)
drop-fill zero p z = (z, refl)
drop-fill (suc n) (b ∷ p) z = drop-fill n p z
drop-fill (suc n) [] zero = (0, refl)
drop-fill (suc n) [] (suc z) = let (y, e) = drop-fill n [] z in (y, rw (drop-nil n) at e)

pub pack-fill : (n : ℕ) (p : Bits) (z : ℕ) → pack n (p ++ replicate z false) ≡ pack n p
unfolding pack
pack-fill zero p z = refl
pack-fill (suc n) p z =
    let (y, e) = drop-fill 8 p z in
    rw (from_bits-fill 8 p z, e, pack-fill n (drop 8 p) y)
