-- Prefixes in bytes: each byte of a prefix, what a mask keeps of a byte, and a prefix that grows by a byte. Assumes nothing.
use mathlib.Core.Path.{◌≡◌, refl, sym, ap, ◌∙◌, subst}
use mathlib.Core.List.{[], ◌∷◌, ◌++◌}
use Prim.Native.Nat.{ℕ, zero, suc, ◌+◌, ◌-◌, ◌*◌, ◌/◌, ◌%◌, ◌^◌, ◌<◌, ◌≤◌}
use native.Mathlib.Nat.{mod-lt, zero-div, div-eq_of_lt, div-lt_iff_lt-mul, sub-zero, add-zero}
use native.Mathlib.Omega.{arith}
use lib.ListN.{length, take, drop, get_or, set, replicate, length-drop}
use lib.Seq.{take-nil, drop-drop, get_or-drop, length-take-le}
use lib.Pow.{pow_pos, split, mod-mod-pow, shr_mod}
use lib.Bits.{bit_and, and_high}
use Rattle.paper.specs.Bytes.{Bytes, Bytewise}
use Rattle.paper.specs.Bits.{Bits, to_bits, from_bits, bits_of, pack}
use Rattle.std.proofs.lemmas.List.{drop-replicate}
use Rattle.paper.proofs.Lists.{drop-take, all_take}
use Rattle.paper.proofs.Bytes.{to_bits-length, bits_of-length, bit-val, pack-bits_of}
use Rattle.bits.proofs.Bits.{drop-bits_of, take-bits_of}

-- ---- the first bits of one byte

-- a number without its k lowest bits, in two steps
cut_again : (x j k : ℕ) → x / 2 ^ (j + k) * 2 ^ (j + k) + x % 2 ^ (j + k) / 2 ^ k * 2 ^ k ≡ x / 2 ^ k * 2 ^ k
cut_again x j k = omega (arith, split x k, split x (j + k), split (x % 2 ^ (j + k)) k, mod-mod-pow x j k)

-- the first m of n bits, the rest zero: the number without the others
pub from_bits-take : (n m x : ℕ) → x < 2 ^ n → from_bits n (take m (to_bits n x)) ≡ x / 2 ^ (n - m) * 2 ^ (n - m)
unfolding from_bits to_bits
from_bits-take zero m x h = let e : x ≡ 0 = omega arith in rw (e, zero-div (2 ^ (0 - m))) (omega arith)
from_bits-take (suc n) zero x h = rw (sub-zero, div-eq_of_lt h) (omega arith)
from_bits-take (suc n) (suc m) x h =
    let e : suc n - suc m ≡ n - m = omega arith in
    let f : n - (n - m) + (n - m) ≡ n = omega arith in
    let q : x / 2 ^ n < 2 = (div-lt_iff_lt-mul (pow_pos n)).1 (omega arith) in
    rw (e, bit-val (x / 2 ^ n) q, from_bits-take n m (x % 2 ^ n) (mod-lt x (pow_pos n)))
    (subst (λ w. x / 2 ^ w * 2 ^ w + x % 2 ^ w / 2 ^ (n - m) * 2 ^ (n - m) ≡ x / 2 ^ (n - m) * 2 ^ (n - m)) f (cut_again x (n - (n - m)) (n - m)))

-- n ones above zeros
ones-above : (n : ℕ) → n < 8 → 255 - 255 / 2 ^ n ≡ 2 ^ 8 - 2 ^ (8 - n)
ones-above zero h = refl
ones-above (suc zero) h = refl
ones-above (suc (suc zero)) h = refl
ones-above (suc (suc (suc zero))) h = refl
ones-above (suc (suc (suc (suc zero)))) h = refl
ones-above (suc (suc (suc (suc (suc zero))))) h = refl
ones-above (suc (suc (suc (suc (suc (suc zero)))))) h = refl
ones-above (suc (suc (suc (suc (suc (suc (suc zero))))))) h = refl
ones-above (suc (suc (suc (suc (suc (suc (suc (suc n)))))))) h = absurd (omega arith)

-- and a mask with it keeps the same
pub masked : (b n : ℕ) → b < 2 ^ 8 → n < 8 → bit_and b (255 - 255 / 2 ^ n) ≡ from_bits 8 (take n (to_bits 8 b))
masked b n h l =
    let k = 8 - n in
    let e : n + k ≡ 8 = omega arith in
    ap (bit_and b) (ones-above n l ∙ ap (λ m. 2 ^ m - 2 ^ k) (sym e))
    ∙ and_high b n k
    ∙ ap (λ m. m * 2 ^ k) (shr_mod n k (subst (λ m. b < 2 ^ m) (sym e) h))
    ∙ sym (from_bits-take 8 n b h)

-- ---- the bytes of a prefix

-- n bits are decided by the first n
from_bits-front : (n m : ℕ) (a p : Bits) → length a ≡ n → from_bits n (take m (a ++ p)) ≡ from_bits n (take m a)
unfolding from_bits
from_bits-front zero m a p h = refl
from_bits-front (suc n) m [] p h = absurd (omega arith)
from_bits-front (suc n) zero (b ∷ a) p h = refl
from_bits-front (suc n) (suc m) (b ∷ a) p h = rw (from_bits-front n m a p (omega arith))

first_byte : (m : ℕ) (s : Bytes) → from_bits 8 (take m (bits_of s)) ≡ from_bits 8 (take m (to_bits 8 (get_or s 0 0)))
unfolding bits_of from_bits
first_byte m [] = rw (take-nil m, from_bits-take 8 m 0 (pow_pos 8), zero-div (2 ^ (8 - m))) (omega arith)
first_byte m (b ∷ s) = from_bits-front 8 m (to_bits 8 b) (bits_of s) (to_bits-length 8 b)

-- the eight bits from byte j on, of the first n bits of a label
pub prefix-byte : (n : ℕ) (s : Bytes) (j : ℕ) → from_bits 8 (drop (j * 8) (take n (bits_of s))) ≡ from_bits 8 (take (n - j * 8) (to_bits 8 (get_or s j 0)))
prefix-byte n s j =
    ap (from_bits 8) (drop-take (j * 8) n (bits_of s) ∙ ap (take (n - j * 8)) (drop-bits_of j s)) ∙ first_byte (n - j * 8) (drop j s)
    ∙ ap (λ b. from_bits 8 (take (n - j * 8) (to_bits 8 b))) (get_or-drop j s 0 0 ∙ ap (λ i. get_or s i 0) (add-zero j))

get_or-pack : (m j : ℕ) (p : Bits) → j < m → get_or (pack m p) j 0 ≡ from_bits 8 (drop (j * 8) p)
unfolding pack
get_or-pack zero j p h = absurd (omega arith)
get_or-pack (suc m) zero p h = refl
get_or-pack (suc m) (suc j) p h =
    let e : 8 + j * 8 ≡ suc j * 8 = omega arith in
    get_or-pack m j (drop 8 p) (omega arith) ∙ ap (from_bits 8) (drop-drop (j * 8) 8 p ∙ ap (λ i. drop i p) e)

-- byte j of the first n bits in m bytes
pub pack-byte : (m n : ℕ) (s : Bytes) (j : ℕ) → j < m → get_or (pack m (take n (bits_of s))) j 0 ≡ from_bits 8 (take (n - j * 8) (to_bits 8 (get_or s j 0)))
pack-byte m n s j h = get_or-pack m j (take n (bits_of s)) h ∙ prefix-byte n s j

-- ---- a prefix that grows by a byte

from_bits-enough : (n m : ℕ) (p : Bits) → n ≤ m → from_bits n (take m p) ≡ from_bits n p
unfolding from_bits
from_bits-enough zero m p h = refl
from_bits-enough (suc n) zero p h = absurd (omega arith)
from_bits-enough (suc n) (suc m) [] h = refl
from_bits-enough (suc n) (suc m) (b ∷ p) h = rw (from_bits-enough n m p (omega arith))

rest-take : (n : ℕ) (p : Bits) → drop 8 (take (8 + n) p) ≡ take n (drop 8 p)
rest-take n p = let e : 8 + n - 8 ≡ n = omega arith in drop-take 8 (8 + n) p ∙ ap (λ k. take k (drop 8 p)) e

-- the first i bytes' bits, and byte i set to the next eight
pub pack-grow : (m i : ℕ) (p : Bits) → set (pack m (take (i * 8) p)) i (from_bits 8 (drop (i * 8) p)) ≡ pack m (take ((i + 1) * 8) p)
unfolding pack
pack-grow zero i p = refl
pack-grow (suc m) zero p = rw (from_bits-enough 8 8 p (omega arith), rest-take 0 p)
pack-grow (suc m) (suc i) p =
    let e : suc i * 8 ≡ 8 + i * 8 = omega arith in
    let f : (suc i + 1) * 8 ≡ 8 + (i + 1) * 8 = omega arith in
    let g = from_bits-enough 8 (8 + i * 8) p (omega arith) in
    let h = from_bits-enough 8 (8 + (i + 1) * 8) p (omega arith) in
    rw (e, f, g, h, rest-take (i * 8) p, rest-take ((i + 1) * 8) p, ← (drop-drop (i * 8) 8 p), pack-grow m i (drop 8 p))

-- m bytes hold no bit past the first m * 8
pub pack-whole : (m : ℕ) (p : Bits) → pack m (take (m * 8) p) ≡ pack m p
unfolding pack
pack-whole zero p = refl
pack-whole (suc m) p =
    let e : suc m * 8 ≡ 8 + m * 8 = omega arith in
    let h = from_bits-enough 8 (8 + m * 8) p (omega arith) in
    rw (e, h, rest-take (m * 8) p, pack-whole m (drop 8 p))

-- ---- a prefix of whole bytes

pack-none : (m : ℕ) → pack m [] ≡ replicate m 0
unfolding pack from_bits
pack-none zero = refl
pack-none (suc m) = ap (λ s. 0 ∷ s) (pack-none m)

pack-longer : (m n : ℕ) (p : Bits) → length p ≤ m * 8 → pack (m + n) p ≡ pack m p ++ replicate n 0
unfolding pack
pack-longer zero n [] h = let e : 0 + n ≡ n = omega arith in rw e (pack-none n)
pack-longer zero n (b ∷ p) h = absurd (omega arith)
pack-longer (suc m) n p h =
    let e : suc m + n ≡ suc (m + n) = omega arith in
    rw e (ap (λ s. from_bits 8 p ∷ s) (pack-longer m n (drop 8 p) (omega (arith, length-drop 8 p))))

-- the first w bytes, and zeros
pub pack-front : (m w : ℕ) (s : Bytes) → w ≤ m → w ≤ length s → Bytewise s → pack m (take (w * 8) (bits_of s)) ≡ take w s ++ drop w (replicate m 0)
pack-front m w s h l k =
    let f = take w s in
    let n : length f ≡ w = length-take-le w s l in
    let e : w + (m - w) ≡ m = omega arith in
    ap (pack m) (take-bits_of w s) ∙ ap (λ j. pack j (bits_of f)) (sym e) ∙ pack-longer w (m - w) (bits_of f) (omega (arith, bits_of-length f))
    ∙ ap (λ b. b ++ replicate (m - w) 0) (ap (λ j. pack j (bits_of f)) (sym n) ∙ pack-bits_of f (all_take (λ b. b < 256) w s k))
    ∙ ap (λ z. f ++ z) (sym (drop-replicate w m 0))
