-- A digest has 32 terms, and each is a byte. Assumes nothing.
use mathlib.Core.Path.{◌≡◌, refl}
use mathlib.Core.List.{List, [], ◌∷◌, ◌++◌}
use Prim.Native.Nat.{ℕ, zero, suc, ◌/◌, ◌%◌, ◌^◌, ◌<◌}
use native.Mathlib.Omega.{arith}
use lib.ListN.{length, get_or}
use Rattle.fips.specs.declared.State.{State}
use Rattle.fips.specs.Sha256.{be32, digest, sha256}

pub sha256-length : (m : List ℕ) → length (sha256 m) ≡ 32
unfolding sha256 digest
sha256-length m = refl

data Bytes : List ℕ → Type 0 where
  none : Bytes []
  more : {x : ℕ} {l : List ℕ} → x < 256 → Bytes l → Bytes (x ∷ l)

at : {l : List ℕ} → Bytes l → (i : ℕ) → get_or l i 0 < 256
at none i = omega arith
at (more p b) zero = p
at (more p b) (suc i) = at b i

join : {k l : List ℕ} → Bytes k → Bytes l → Bytes (k ++ l)
join none b = b
join (more p a) b = more p (join a b)

low : (x : ℕ) → x % 256 < 256
low x = omega arith

word_bytes : (x : ℕ) → Bytes (be32 x)
word_bytes x = more (low (x / 2 ^ 24)) (more (low (x / 2 ^ 16)) (more (low (x / 2 ^ 8)) (more (low x) none)))

digest-bytes : (s : State) → Bytes (digest s)
unfolding digest
digest-bytes s =
    let four = join (join (join (word_bytes s.a) (word_bytes s.b)) (word_bytes s.c)) (word_bytes s.d) in
    join (join (join (join four (word_bytes s.e)) (word_bytes s.f)) (word_bytes s.g)) (word_bytes s.h)

pub sha256-byte : (m : List ℕ) (i : ℕ) → get_or (sha256 m) i 0 < 256
unfolding sha256
sha256-byte m i = at (digest-bytes _) i
