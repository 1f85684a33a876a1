-- How many markers n versions have, how many there can be by an epoch, and the power of two above n. Assumes nothing.
use mathlib.Core.Path.{◌≡◌, refl, sym, ap}
use Prim.Native.Nat.{ℕ, zero, suc, ◌*◌, ◌%◌, ◌^◌, ◌<◌, ◌≤◌}
use native.Mathlib.Omega.{arith}
use native.Mathlib.Nat.{min-eq_left, min-eq_right}
use lib.Pow.{pow_mono, pow_pos}
use Rattle.paper.specs.Bits.{log2}
use Rattle.paper.specs.History.{markers_by}
use Rattle.paper.proofs.Marker.{log2-spec, pow_below}
use Rattle.plan.specs.Asked.{markers_of}

pub markers-some : (n : ℕ) → 0 < n → markers_of n ≡ suc (log2 n)
markers-some zero h = absurd (omega arith)
markers-some (suc n) h = refl

-- a number of k bits has at most k markers
pub markers-most : (k n : ℕ) → k ≤ 32 → n < 2 ^ k → markers_of n ≤ k
markers-most k zero h l = omega arith
markers-most zero (suc n) h l = absurd (omega arith)
markers-most (suc k) (suc n) h l =
    let m : suc n < 2 ^ 32 = omega (arith, pow_mono {i = suc k} {j = 32} h) in
    let e = pow_below (log2 (suc n)) k (suc n) (log2-spec (suc n) (omega arith) m).0 l in
    omega arith

-- "n+1 to 2^(a+1)-1": n lies below the power
pub below_power : (n : ℕ) → n < 2 ^ 32 → n < 2 ^ markers_of n
below_power zero h = omega (arith, pow_pos 0)
below_power (suc n) h = (log2-spec (suc n) (omega arith) h).1

-- "min(9, floor(log2 T))": the number of markers, cut at 10
pub by-few : (T : ℕ) → markers_of T < 10 → markers_of T ≡ markers_by T
by-few zero h = refl
by-few (suc T) h = ap suc (sym (min-eq_right {n = log2 (suc T)} {m = 9} (omega arith)))

pub by-many : (T : ℕ) → 10 ≤ markers_of T → 10 ≡ markers_by T
by-many zero h = absurd (omega arith)
by-many (suc T) h = ap suc (sym (min-eq_left {n = 9} {m = log2 (suc T)} (omega arith)))

-- r markers of n versions, and the power of two as the code has it, by a shift
pub record Shifted (n r : ℕ) : Type 0 where
  pub few : r ≤ 16
  pub power : 1 * 2 ^ r % 2 ^ 64 ≡ 2 ^ markers_of n
  pub small : 2 ^ markers_of n ≤ 2 ^ 16
  pub above : n < 2 ^ markers_of n

pub shifted : (n r : ℕ) → n < 2 ^ 16 → r ≡ markers_of n → Shifted n r
shifted n r h e =
    let m : markers_of n ≤ 16 = markers-most 16 n (omega arith) h in
    let p : 2 ^ markers_of n ≤ 2 ^ 16 = pow_mono m in
    let q : 2 ^ r ≡ 2 ^ markers_of n = ap (λ r. 2 ^ r) e in
    record { few = omega arith; power = omega arith; small = p; above = below_power n (omega arith) }
