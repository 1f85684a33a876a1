-- The bits of labels, their prefixes, and the first bit at which two labels differ.
use Rattle.std.specs.Prelude.{◌≡◌, Bool, true, false, cond, ◌&&◌, List, [], ◌∷◌, ◌++◌, ℕ, zero, suc, ◌+◌, ◌*◌, ◌/◌, ◌%◌, ◌^◌, leb, length, drop}
use Rattle.std.specs.Bool.{beq}
use Rattle.paper.specs.Bytes.{Bytes}

abbrev pub Bits : Type 0
Bits = List Bool

-- a number below 2 ^ n as n bits, the top one first
unfoldable pub to_bits : ℕ → ℕ → Bits
to_bits zero x = []
to_bits (suc n) x = leb 1 (x / 2 ^ n) ∷ to_bits n (x % 2 ^ n)

-- "Bit 0 of a label is the top bit of its first byte."
unfoldable pub bits_of : Bytes → Bits
bits_of [] = []
bits_of (b ∷ s) = to_bits 8 b ++ bits_of s

abbrev pub bit_val : Bool → ℕ
bit_val true = 1
bit_val false = 0

-- the number of the first n bits, zeros where there are fewer
unfoldable pub from_bits : ℕ → Bits → ℕ
from_bits zero p = 0
from_bits (suc n) [] = 0
from_bits (suc n) (b ∷ p) = bit_val b * 2 ^ n + from_bits n p

-- n bytes that hold the bits: "bits past the length zero"
unfoldable pub pack : ℕ → Bits → Bytes
pack zero p = []
pack (suc n) p = from_bits 8 p ∷ pack n (drop 8 p)

-- p is a prefix of x: x is p and a rest
pub record Pfx (p x : Bits) : Type 0 where
  pub rest : Bits
  pub eq : p ++ rest ≡ x

-- whether it is
unfoldable pub starts : Bits → Bits → Bool
starts [] x = true
starts (a ∷ p) [] = false
starts (a ∷ p) (b ∷ x) = beq a b && starts p x

infixl 70 ◌▹◌
-- p with one bit more
abbrev pub ◌▹◌ : Bits → Bool → Bits
p ▹ b = p ++ (b ∷ [])

-- the longest common prefix of two
unfoldable pub lcp : Bits → Bits → Bits
lcp [] y = []
lcp (a ∷ x) [] = []
lcp (a ∷ x) (b ∷ y) = cond (beq a b) (a ∷ lcp x y) []

-- "The first bit at which two labels differ is 0 to 255, or 256 for equal labels."
unfoldable pub first_difference : Bytes → Bytes → ℕ
first_difference a b = length (lcp (bits_of a) (bits_of b))

-- floor (log2 n), looked for from k down: the largest j up to k with 2 ^ j at most n
unfoldable pub top_power : ℕ → ℕ → ℕ
top_power zero n = zero
top_power (suc k) n = cond (leb (2 ^ suc k) n) (suc k) (top_power k n)

-- "marker floor(log2 v)", for versions and epochs, which have at most 32 bits
unfoldable pub log2 : ℕ → ℕ
log2 n = top_power 31 n
