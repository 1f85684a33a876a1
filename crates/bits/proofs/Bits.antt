-- A bit of a number, and of bytes, by division: what a shift picks. Assumes nothing.
use mathlib.Core.Path.{◌≡◌, refl, sym, ap, ◌∙◌, subst}
use mathlib.Core.Bool.{false}
use mathlib.Core.List.{[], ◌∷◌, ◌++◌}
use Prim.Native.Nat.{ℕ, zero, suc, ◌+◌, ◌-◌, ◌*◌, ◌/◌, ◌%◌, ◌^◌, ◌<◌}
use native.Mathlib.Nat.{mod-lt, zero-div, div-add-mod', div-lt_iff_lt-mul}
use native.Mathlib.Omega.{arith}
use lib.Dec.{leb, eqb}
use lib.ListN.{length, take, drop, get_or, get_or-append}
use lib.Seq.{get_or-append-add, drop-append-add, take-append-add, drop-nil, take-nil}
use lib.Pow.{pow_pos, field, mod-mod-pow}
use Rattle.paper.specs.Bytes.{Bytes}
use Rattle.paper.specs.Bits.{to_bits, bits_of}
use Rattle.paper.proofs.Bytes.{to_bits-length}

-- ---- a number's bits

-- a remainder has the bits below it
rest-bit : (x j k : ℕ) → x % 2 ^ (j + 1 + k) / 2 ^ k % 2 ≡ x / 2 ^ k % 2
rest-bit x j k = ap (λ y. y % 2) (field x (j + 1) k) ∙ mod-mod-pow (x / 2 ^ k) j 1

one_bit : (q : ℕ) → q < 2 → leb 1 q ≡ eqb (q % 2) 1
one_bit zero h = refl
one_bit (suc zero) h = refl
one_bit (suc (suc q)) h = absurd (omega arith)

-- bit i of n bits, the top one first
pub to_bits-bit : (n x i : ℕ) → x < 2 ^ n → i < n → get_or (to_bits n x) i false ≡ eqb (x / 2 ^ (n - suc i) % 2) 1
unfolding to_bits
to_bits-bit zero x i h l = absurd (omega arith)
to_bits-bit (suc n) x zero h l =
    let e : suc n - 1 ≡ n = omega arith in
    rw e (one_bit (x / 2 ^ n) ((div-lt_iff_lt-mul (pow_pos n)).1 (omega arith)))
to_bits-bit (suc n) x (suc i) h l =
    let k = n - suc i in
    let e : suc n - suc (suc i) ≡ k = omega arith in
    let f : i + 1 + k ≡ n = omega arith in
    rw e (to_bits-bit n (x % 2 ^ n) i (mod-lt x (pow_pos n)) (omega arith)
    ∙ ap (λ y. eqb y 1) (subst (λ m. x % 2 ^ m / 2 ^ k % 2 ≡ x / 2 ^ k % 2) f (rest-bit x i k)))

-- ---- the bits of bytes, eight for each

pub drop-bits_of : (j : ℕ) (s : Bytes) → drop (j * 8) (bits_of s) ≡ bits_of (drop j s)
unfolding bits_of
drop-bits_of zero s = refl
drop-bits_of (suc j) [] = drop-nil (suc j * 8)
drop-bits_of (suc j) (b ∷ s) =
    let e : suc j * 8 ≡ length (to_bits 8 b) + j * 8 = omega (arith, to_bits-length 8 b) in
    rw e (drop-append-add (to_bits 8 b) (bits_of s) (j * 8) ∙ drop-bits_of j s)

pub take-bits_of : (j : ℕ) (s : Bytes) → take (j * 8) (bits_of s) ≡ bits_of (take j s)
unfolding bits_of
take-bits_of zero s = refl
take-bits_of (suc j) [] = take-nil (suc j * 8)
take-bits_of (suc j) (b ∷ s) =
    let e : suc j * 8 ≡ length (to_bits 8 b) + j * 8 = omega (arith, to_bits-length 8 b) in
    rw e (take-append-add (to_bits 8 b) (bits_of s) (j * 8) ∙ ap (λ t. to_bits 8 b ++ t) (take-bits_of j s))

-- bit k of byte j, false past the end
pub byte-bit : (s : Bytes) (j k : ℕ) → k < 8 → get_or (bits_of s) (j * 8 + k) false ≡ get_or (to_bits 8 (get_or s j 0)) k false
unfolding bits_of
byte-bit [] j k h =
    let z : 0 / 2 ^ (8 - suc k) ≡ 0 = zero-div (2 ^ (8 - suc k)) in
    sym (to_bits-bit 8 0 k (pow_pos 8) h ∙ rw z)
byte-bit (b ∷ s) zero k h =
    let e : 0 * 8 + k ≡ k = omega arith in
    rw e (get_or-append (to_bits 8 b) (bits_of s) false k (omega (arith, to_bits-length 8 b)))
byte-bit (b ∷ s) (suc j) k h =
    let e : suc j * 8 + k ≡ length (to_bits 8 b) + (j * 8 + k) = omega (arith, to_bits-length 8 b) in
    rw e (get_or-append-add (to_bits 8 b) (bits_of s) (j * 8 + k) false ∙ byte-bit s j k h)

-- "Bit 0 of a label is the top bit of its first byte.": bit i is in byte i / 8, i % 8 places below its top
pub bits_of-bit : (s : Bytes) (i : ℕ) → get_or s (i / 8) 0 < 256 → get_or (bits_of s) i false ≡ eqb (get_or s (i / 8) 0 / 2 ^ (7 - i % 8) % 2) 1
bits_of-bit s i h =
    let l : i % 8 < 8 = omega arith in
    let e : 8 - suc (i % 8) ≡ 7 - i % 8 = omega arith in
    ap (λ m. get_or (bits_of s) m false) (sym (div-add-mod' i 8)) ∙ byte-bit s (i / 8) (i % 8) l ∙ to_bits-bit 8 (get_or s (i / 8) 0) (i % 8) h l
    ∙ ap (λ m. eqb (get_or s (i / 8) 0 / 2 ^ m % 2) 1) e
