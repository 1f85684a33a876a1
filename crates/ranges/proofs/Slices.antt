-- Laws of lent slices and their parts. Assumes nothing.
use mathlib.Core.Path.{◌≡◌, ap}
use mathlib.Core.List.{[], ◌∷◌}
use Prim.Native.Nat.{ℕ, suc, ◌+◌, ◌-◌, ◌≤◌}
use native.Mathlib.Omega.{arith}
use lib.ListN.{length, take, drop, get_or, length-drop}
use lib.Seq.{length-take-le, take-length}
use mir.Val.{Fits}
use mir.Syntax.{w8}
use Rattle.paper.specs.Bytes.{Bytes, Bytewise}

-- the elements of a slice of bytes are bytes
pub bytewise : (s : Bytes) → ((i : ℕ) → Fits w8 (get_or s i 0)) → Bytewise s
bytewise [] h = tt
bytewise (b ∷ s) h = ((h 0).fits, bytewise s (λ i. h (suc i)))

-- the part &s[a .. a + n], and its length
pub part-is : (s : Bytes) (a n : ℕ) → take (a + n - a) (drop a s) ≡ take n (drop a s)
part-is s a n = let e : a + n - a ≡ n = omega arith in ap (λ k. take k (drop a s)) e

pub length_part : (s : Bytes) (a n : ℕ) → a + n ≤ length s → length (take n (drop a s)) ≡ n
length_part s a n h = length-take-le n (drop a s) (omega (arith, length-drop a s))

-- the part &s[a ..]
pub rest-is : (s : Bytes) (a : ℕ) → take (length s - a) (drop a s) ≡ drop a s
rest-is s a = rw (← (length-drop a s)) (take-length (drop a s))
