-- Numbers of two and of four bytes, in the library's words and in document 01's, and of one. Assumes nothing.
use mathlib.Core.Path.{◌≡◌, refl, ap, ◌∙◌}
use mathlib.Core.List.{[], ◌∷◌}
use Prim.Native.Nat.{ℕ, suc, ◌+◌, ◌/◌, ◌%◌, ◌^◌, ◌≤◌, ◌<◌}
use native.Mathlib.Numerals.{add-one}
use native.Mathlib.Omega.{arith}
use lib.ListN.{length, get_or, take, drop, set}
use lib.Seq.{drop-cons}
use Rattle.std.specs.Int.{w16, w32, from_be_bytes, to_be_bytes}
use Rattle.paper.specs.Bytes.{Bytes, be, number, pasted}
use Rattle.paper.proofs.Pasted.{pasted-one}

-- a byte of a part, and those behind it
front : (s : Bytes) (at k next : ℕ) → at < length s → next ≡ at + 1 → take (suc k) (drop at s) ≡ get_or s at 0 ∷ take k (drop next s)
front s at k next h e = rw (drop-cons s at 0 h, e, add-one at) refl

-- a byte is a number of one byte
pub number-one : (s : Bytes) (at : ℕ) → at < length s → number (take 1 (drop at s)) ≡ get_or s at 0
unfolding number
number-one s at h = rw (drop-cons s at 0 h) (omega arith)

pub number-two : (s : Bytes) (at : ℕ) → at + 2 ≤ length s → from_be_bytes w16 (get_or s at 0 ∷ get_or s (at + 1) 0 ∷ []) ≡ number (take 2 (drop at s))
unfolding number
number-two s at h =
    let tail = front s (at + 1) 0 (at + 2) (omega arith) (omega arith) in
    rw (front s at 1 (at + 1) (omega arith) refl, tail) (omega arith)

pub number-four : (s : Bytes) (at : ℕ) → at + 4 ≤ length s
    → from_be_bytes w32 (get_or s at 0 ∷ get_or s (at + 1) 0 ∷ get_or s (at + 2) 0 ∷ get_or s (at + 3) 0 ∷ []) ≡ number (take 4 (drop at s))
unfolding number
number-four s at h =
    let second = front s (at + 1) 2 (at + 2) (omega arith) (omega arith) in
    let third = front s (at + 2) 1 (at + 3) (omega arith) (omega arith) in
    let fourth = front s (at + 3) 0 (at + 4) (omega arith) (omega arith) in
    rw (front s at 3 (at + 1) (omega arith) refl, second, third, fourth) (omega arith)

-- the bytes of a number
pub bytes-two : (n : ℕ) → n < 2 ^ 16 → to_be_bytes w16 n ≡ be 2 n
unfolding be
bytes-two n h =
    let a : n / 256 % 256 ≡ n / 256 = omega arith in
    let b : n % 256 ≡ n % 256 / 1 = omega arith in
    cc

pub bytes-four : (n : ℕ) → n < 2 ^ 32 → to_be_bytes w32 n ≡ be 4 n
unfolding be
bytes-four n h =
    let a : n / 16777216 % 256 ≡ n / 16777216 = omega arith in
    let b : n / 65536 % 256 ≡ n % 16777216 / 65536 = omega arith in
    let c : n / 256 % 256 ≡ n % 16777216 % 65536 / 256 = omega arith in
    let d : n % 256 ≡ n % 16777216 % 65536 % 256 / 1 = omega arith in
    cc

-- a byte that is stored
pub pasted-byte : (d : Bytes) (at b : ℕ) → at < length d → set d at b ≡ pasted d at (be 1 b)
unfolding be
pasted-byte d at b h = let e : b ≡ b / 1 = omega arith in pasted-one d at b h ∙ ap (λ x. pasted d at (x ∷ [])) e
