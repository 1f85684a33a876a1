-- The markers of n versions, up to 1,023, and their powers of two. Assumes nothing.
use Prim.Native.Nat.{ℕ, suc, ◌^◌, ◌≤◌, ◌<◌}
use native.Mathlib.Omega.{arith}
use lib.Pow.{pow_mono, pow_pos}
use Rattle.paper.specs.Bits.{log2}
use Rattle.paper.proofs.Marker.{log2-spec, pow_below}

pub record Power (j : ℕ) : Type 0 where
  pub some : 1 ≤ 2 ^ j
  pub small : 2 ^ j ≤ 1024

pub power : (j : ℕ) → j ≤ 10 → Power j
power j h = record { some = omega (arith, pow_pos j); small = omega (arith, pow_mono {i = j} {j = 10} h) }

-- 2^a ≤ n < 2^(a+1) ≤ 1,024
pub record Marked (n : ℕ) : Type 0 where
  pub few : log2 n ≤ 9
  pub reached : 2 ^ log2 n ≤ n
  pub above : n < 2 ^ suc (log2 n)
  pub small : 2 ^ suc (log2 n) ≤ 1024

pub marked : (n : ℕ) → 1 ≤ n → n ≤ 1023 → Marked n
marked n l h =
    let (a, b) = log2-spec n (omega arith) (omega arith) in
    let k : log2 n ≤ 9 = pow_below (log2 n) 9 n a (omega arith) in
    record { few = k; reached = a; above = b; small = (power (suc (log2 n)) (omega arith)).small }
