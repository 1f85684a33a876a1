-- The marker's number: the definition by powers of two, and by leading zeros. Assumes nothing.
use mathlib.Core.Path.{◌≡◌, refl}
use mathlib.Core.Logic.{by_cases}
use mathlib.Core.Bool.{Bool, true, false}
use Prim.Native.Nat.{ℕ, zero, suc, ◌+◌, ◌-◌, ◌^◌, ◌<◌, ◌≤◌}
use native.Mathlib.Omega.{arith}
use native.Mathlib.Decide.{dec_le}
use lib.Dec.{leb}
use lib.Pow.{pow_mono, pow_pos}
use lib.Count.{count_leading_zeros, leading_top}
use borrow.Author.Tests.{leb-true, leb-false}
use Rattle.paper.specs.Bits.{top_power, log2}

-- the largest power up to 2 ^ k that is at most n
pub top_power-spec : (k n : ℕ) → 0 < n → n < 2 ^ suc k → (2 ^ top_power k n ≤ n) × (n < 2 ^ suc (top_power k n))
unfolding top_power
top_power-spec zero n h m = (omega arith, m)
top_power-spec (suc k) n h m = by (leb (2 ^ suc k) n) refl (λ g. top_power-spec k n h g)
  where
    by : (b : Bool) → leb (2 ^ suc k) n ≡ b → (n < 2 ^ suc k → (2 ^ top_power k n ≤ n) × (n < 2 ^ suc (top_power k n)))
        → (2 ^ top_power (suc k) n ≤ n) × (n < 2 ^ suc (top_power (suc k) n))
    by true e f = rw (e, top_power) (leb-true _ _ e, m)
    by false e f = rw (e, top_power) (f (leb-false _ _ e))

-- floor (log2 n) of a number of 32 bits: 2 ^ log2 n ≤ n < 2 ^ (log2 n + 1)
pub log2-spec : (n : ℕ) → 0 < n → n < 2 ^ 32 → (2 ^ log2 n ≤ n) × (n < 2 ^ suc (log2 n))
unfolding log2
log2-spec n h m = top_power-spec 31 n h m

pub pow_below : (j k n : ℕ) → 2 ^ j ≤ n → n < 2 ^ suc k → j ≤ k
pow_below j k n a b = by_cases (dec_le j k) (λ h. h) (λ h. absurd (omega (arith, pow_mono {i = suc k} {j = j} (omega arith))))

-- no other number has that
pub log2-unique : (n j : ℕ) → n < 2 ^ 32 → 2 ^ j ≤ n → n < 2 ^ suc j → j ≡ log2 n
log2-unique n j m a b =
    let p : 0 < n = omega (arith, pow_pos j) in
    let (c, d) = log2-spec n p m in
    omega (arith, pow_below j (log2 n) n a d, pow_below (log2 n) j n c b)

-- the leading zeros, the top bit, and the bits below it, as many as floor (log2 n) says, make 32
pub leading-log2 : (n : ℕ) → 0 < n → n < 2 ^ 32 → count_leading_zeros 32 n + suc (log2 n) ≡ 32
leading-log2 n h m =
    let (j, e, low, high) = leading_top 32 n h m in
    let q : j ≡ log2 n = log2-unique n j m low high in
    omega arith

-- so the marker number by leading zeros equals the definition by powers of two
pub log2-leading : (n : ℕ) → 0 < n → n < 2 ^ 32 → 31 - count_leading_zeros 32 n ≡ log2 n
log2-leading n h m = omega (arith, leading-log2 n h m)
