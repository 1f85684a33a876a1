-- The number of a version's marker is small, and a shift by it is its power of two. Assumes nothing.
use mathlib.Core.Path.{◌≡◌, refl, ap}
use Prim.Native.Nat.{ℕ, zero, suc, ◌*◌, ◌%◌, ◌^◌, ◌≤◌, ◌<◌}
use native.Mathlib.Nat.{mod-eq_of_lt}
use native.Mathlib.Omega.{arith}
use lib.Pow.{pow_mono}
use Rattle.paper.specs.Bits.{top_power, log2}
use Rattle.paper.proofs.Marker.{log2-spec, pow_below}

log2-zero : log2 0 ≡ 0
unfolding log2 top_power
log2-zero = refl

pub marker-few : (v : ℕ) → v < 2 ^ 16 → log2 v ≤ 15
marker-few zero h = omega (arith, log2-zero)
marker-few (suc v) h = pow_below (log2 (suc v)) 15 (suc v) (log2-spec (suc v) (omega arith) (omega arith)).0 h

-- in a word of so many bits
pub marker-shift : (bits v j : ℕ) → 16 ≤ bits → v < 2 ^ 16 → j ≡ log2 v → 1 * 2 ^ j % 2 ^ bits ≡ 2 ^ log2 v
marker-shift bits v j w h e =
    let l : 1 * 2 ^ j ≡ 2 ^ log2 v = omega (arith, ap (λ i. 2 ^ i) e) in
    rw l (mod-eq_of_lt (omega (arith, pow_mono {i = log2 v} {j = 15} (marker-few v h), pow_mono {i = 16} {j = bits} w)))
