-- Labels by their bytes: whether one begins with the first bits of another, and whether they are the same. Assumes nothing.
use mathlib.Core.Path.{◌≡◌, sym, ap, ◌∙◌}
use mathlib.Core.Logic.{⊎_elim}
use Prim.Native.Nat.{ℕ, ◌≤◌}
use native.Mathlib.Omega.{arith}
use lib.Dec.{leb}
use lib.ListN.{length, take}
use lib.Seq.{length-take-le, take-take, take_all}
use Rattle.paper.specs.Bytes.{Bytes, Bytewise, same}
use Rattle.paper.specs.Bits.{starts, lcp, bits_of, first_difference}
use Rattle.paper.specs.Path.{same_bits}
use Rattle.paper.proofs.Lists.{true-or-false, not-both}
use Rattle.paper.proofs.Bytes.{same-eq, eq-same, bits_of-length, bits_of-inj}
use Rattle.paper.proofs.Walk.{same_bits-eq, eq-same_bits, fails}
use Rattle.bits.proofs.Lcp.{first-bits}

pub begins-by : (s label : Bytes) (k : ℕ) → 68 ≤ length s → length label ≡ 32 → k ≤ 256 → leb k (first_difference (take 32 label) (take 32 (take 32 s))) ≡ starts (take k (bits_of (take 32 s))) (bits_of label)
unfolding first_difference
begins-by s label k h l m =
    (λ i. leb k (length (lcp (bits_of (take_all 32 label (omega arith) i)) (bits_of (take-take 32 32 s (omega arith) i)))))
    ∙ sym (first-bits (bits_of label) (bits_of (take 32 s)) k (omega (arith, bits_of-length (take 32 s), length-take-le 32 s (omega arith))))

-- bytes that are the same, and bits
pub same-bits : (x y : Bytes) → Bytewise x → Bytewise y → length x ≡ length y → same x y ≡ same_bits (bits_of x) (bits_of y)
same-bits x y a b n = ⊎_elim
    (λ e. e ∙ sym (eq-same_bits (bits_of x) (bits_of y) (ap bits_of (same-eq x y e))))
    (λ e. e ∙ sym (fails (same_bits (bits_of x) (bits_of y)) (λ h. not-both (eq-same (bits_of-inj x y a b n (same_bits-eq (bits_of x) (bits_of y) h))) e)))
    (true-or-false (same x y))
