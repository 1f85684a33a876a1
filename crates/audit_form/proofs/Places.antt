-- Records by their places: their keys, runs of them, and where two labels differ. Assumes nothing.
use mathlib.Core.Path.{◌≡◌, refl, ap₂}
use Prim.Native.Nat.{ℕ, zero, suc, ◌+◌, ◌≤◌}
use native.Mathlib.Omega.{arith}
use lib.ListN.{length, take, drop, get_or}
use lib.Seq.{take-take}
use Rattle.paper.specs.Numbers.{wide}
use Rattle.paper.specs.Bytes.{Bytes}
use Rattle.paper.specs.Bits.{bits_of, lcp, first_difference}
use Rattle.paper.specs.Audit.{record_key}
use Rattle.paper.proofs.Bytes.{bits_of-length}
use Rattle.ranges.proofs.Slices.{length_part}
use Rattle.audit_form.specs.Places.{label_at, key_at, record_by, record_at}

-- whatever its kind, a record has its key
pub record-key : (s : Bytes) (at : ℕ) → record_key (record_at s at) ≡ key_at s at
unfolding record_at record_by
record-key s at = by (get_or s at 0)
  where
    by : (k : ℕ) → record_key (record_by k s at) ≡ key_at s at
    by zero = refl
    by (suc zero) = refl
    by (suc (suc k)) = refl

-- a label has 256 bits, and where two first differ is the length of what they share
pub label-bits : (s : Bytes) (at : ℕ) → at + 99 ≤ length s → length (bits_of (label_at s at)) ≡ 256
unfolding label_at
label-bits s at h = omega (arith, bits_of-length (take wide (drop (at + 3) s)), length_part s (at + 3) wide (omega arith))

pub labels-differ : (s t : Bytes) (a b : ℕ) → first_difference (take 32 (label_at s a)) (take 32 (label_at t b)) ≡ length (lcp (bits_of (label_at s a)) (bits_of (label_at t b)))
unfolding first_difference label_at
labels-differ s t a b =
    ap₂ (λ x y. length (lcp (bits_of x) (bits_of y))) (take-take wide wide (drop (a + 3) s) (omega arith)) (take-take wide wide (drop (b + 3) t) (omega arith))
