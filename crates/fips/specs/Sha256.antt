-- FIPS 180-4, sections 5 and 6.2: SHA-256 of a list of bytes.
-- `State` is the struct of the source: the eight words a to h.
use mathlib.Core.List.{List, [], ◌∷◌, ◌++◌, foldl}
use Rattle.std.specs.Prelude.{Bool, true, false, ℕ, zero, suc, ◌+◌, ◌-◌, ◌*◌, ◌/◌, ◌%◌, ◌^◌, ltb, length, get_or, take, drop, replicate}
use Rattle.fips.specs.declared.State.{State}
use Rattle.fips.specs.Words.{◌⊞◌, Ch, Maj, Σ0, Σ1, σ0, σ1, K}

-- section 5.3.3: the initial hash value
abbrev pub H0 : State
H0 = record {
  a = 0x6a09_e667;
  b = 0xbb67_ae85;
  c = 0x3c6e_f372;
  d = 0xa54f_f53a;
  e = 0x510e_527f;
  f = 0x9b05_688c;
  g = 0x1f83_d9ab;
  h = 0x5be0_cd19;
}

-- section 5.2.1: word t of a block, of four bytes, the first the most significant
abbrev pub word_at : List ℕ → ℕ → ℕ
word_at b t = ((get_or b (4 * t) 0 * 256 + get_or b (4 * t + 1) 0) * 256 + get_or b (4 * t + 2) 0) * 256 + get_or b (4 * t + 3) 0

abbrev pub pick : Bool → ℕ → ℕ → ℕ
pick true x y = x
pick false x y = y

-- section 6.2.2, step 1: a word W t, for t from 16 on, from W (t - 2), W (t - 7), W (t - 15) and W (t - 16)
unfoldable pub mix : ℕ → ℕ → ℕ → ℕ → ℕ
mix w2 w7 w15 w16 = σ1 w2 ⊞ w7 ⊞ σ0 w15 ⊞ w16

-- W t, from the block and the words W 0 .. W (t - 1)
abbrev pub word : List ℕ → List ℕ → ℕ → ℕ
word b w t = pick (ltb t 16) (word_at b t) (mix (get_or w (t - 2) 0) (get_or w (t - 7) 0) (get_or w (t - 15) 0) (get_or w (t - 16) 0))

-- W 0 .. W (t - 1)
unfoldable pub schedule : List ℕ → ℕ → List ℕ
schedule b zero = []
schedule b (suc t) = schedule b t ++ (word b (schedule b t) t ∷ [])

-- step 3: one round, with the constant k and the word w
abbrev pub T1 : State → ℕ → ℕ → ℕ
T1 s k w = s.h ⊞ Σ1 s.e ⊞ Ch s.e s.f s.g ⊞ k ⊞ w

abbrev pub T2 : State → ℕ
T2 s = Σ0 s.a ⊞ Maj s.a s.b s.c

unfoldable pub round : State → ℕ → ℕ → State
round s k w = record {
  a = T1 s k w ⊞ T2 s;
  b = s.a;
  c = s.b;
  d = s.c;
  e = s.d ⊞ T1 s k w;
  f = s.e;
  g = s.f;
  h = s.g;
}

-- the first t rounds, with the words w of a schedule
unfoldable pub rounds : List ℕ → State → ℕ → State
rounds w s zero = s
rounds w s (suc t) = round (rounds w s t) (get_or K t 0) (get_or w t 0)

-- step 4
abbrev pub add : State → State → State
add s r = record {
  a = r.a ⊞ s.a;
  b = r.b ⊞ s.b;
  c = r.c ⊞ s.c;
  d = r.d ⊞ s.d;
  e = r.e ⊞ s.e;
  f = r.f ⊞ s.f;
  g = r.g ⊞ s.g;
  h = r.h ⊞ s.h;
}

-- section 6.2.2: the hash value after a block of 64 bytes
unfoldable pub compress : State → List ℕ → State
compress s b = add s (rounds (schedule b 64) s 64)

-- section 5.1.1: the message, a bit 1, zeros, and the message's length in bits as a word of 64 bits.
-- The standard stops below 2 ^ 64 bits; from there on this takes the length modulo 2 ^ 64.
unfoldable pub be64 : ℕ → List ℕ
be64 n =
    n / 2 ^ 56 % 256 ∷ n / 2 ^ 48 % 256 ∷ n / 2 ^ 40 % 256 ∷ n / 2 ^ 32 % 256 ∷
    n / 2 ^ 24 % 256 ∷ n / 2 ^ 16 % 256 ∷ n / 2 ^ 8 % 256 ∷ n % 256 ∷ []

-- the zeros that take n bytes and the byte 0x80 to 8 bytes below a multiple of 64
unfoldable pub zeros : ℕ → ℕ
zeros n = (119 - n % 64) % 64

unfoldable pub pad : List ℕ → List ℕ
pad m = m ++ (0x80 ∷ (replicate (zeros (length m)) 0 ++ be64 (8 * length m)))

-- section 5.2: the first n blocks of 64 bytes
unfoldable pub parse : ℕ → List ℕ → List (List ℕ)
parse zero m = []
parse (suc n) m = take 64 m ∷ parse n (drop 64 m)

-- section 6.2.2: the hash value after the whole blocks of q
unfoldable pub hash : State → List ℕ → State
hash s q = foldl compress s (parse (length q / 64) q)

-- the bytes of a word, and of the hash value
abbrev pub be32 : ℕ → List ℕ
be32 x = x / 2 ^ 24 % 256 ∷ x / 2 ^ 16 % 256 ∷ x / 2 ^ 8 % 256 ∷ x % 256 ∷ []

unfoldable pub digest : State → List ℕ
digest s =
    be32 s.a ++ be32 s.b ++ be32 s.c ++ be32 s.d ++
    be32 s.e ++ be32 s.f ++ be32 s.g ++ be32 s.h

-- section 6.2: the message digest
unfoldable pub sha256 : List ℕ → List ℕ
sha256 m = digest (hash H0 (pad m))
