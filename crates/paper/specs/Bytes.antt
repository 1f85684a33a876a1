-- Bytes, and numbers in bytes.
use Rattle.std.specs.Prelude.{Bool, true, false, ◌&&◌, List, [], ◌∷◌, ◌++◌, ℕ, zero, suc, ◌+◌, ◌*◌, ◌/◌, ◌%◌, ◌^◌, ◌<◌, eqb, length, take, drop, replicate}
use Rattle.paper.specs.Lists.{All}

-- a string of bytes; its elements are below 256 where `Bytewise` says so
abbrev pub Bytes : Type 0
Bytes = List ℕ

abbrev pub Bytewise : Bytes → Type 0
Bytewise = All (λ b. b < 256)

-- "All stored numbers are big-endian.": x in n bytes
unfoldable pub be : ℕ → ℕ → Bytes
be zero x = []
be (suc n) x = x / 256 ^ n ∷ be n (x % 256 ^ n)

-- and the number that bytes hold
unfoldable pub number : Bytes → ℕ
number [] = 0
number (b ∷ s) = b * 256 ^ length s + number s

abbrev pub zeros : ℕ → Bytes
zeros n = replicate n 0

-- whether two strings are the same
unfoldable pub same : Bytes → Bytes → Bool
same [] [] = true
same [] (y ∷ t) = false
same (x ∷ s) [] = false
same (x ∷ s) (y ∷ t) = eqb x y && same s t

-- d with s laid over it from place `at` on: "Success writes only the named records, head or proof."
unfoldable pub pasted : Bytes → ℕ → Bytes → Bytes
pasted d at s = take at d ++ (s ++ drop (at + length s) d)
