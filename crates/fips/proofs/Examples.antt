-- FIPS 180-4's worked examples of SHA-256, by computation. Assumes nothing.
use mathlib.Core.Path.{◌≡◌, refl, ap₂}
use mathlib.Core.Bool.{Bool, true, false, cond}
use mathlib.Core.List.{List, [], ◌∷◌}
use Prim.Native.Nat.{ℕ}
use lib.Dec.{T, eqb}
use borrow.Author.Tests.{eqb-true}
use Rattle.fips.specs.Sha256.{mix, schedule, round, rounds, compress, be64, zeros, pad, parse, hash, digest, sha256}

-- whether two lists are one, as a test: where an example is wrong it computes to false, and the check says so at once
abbrev equal : List ℕ → List ℕ → Bool
equal [] [] = true
equal [] (y ∷ t) = false
equal (x ∷ s) [] = false
equal (x ∷ s) (y ∷ t) = cond (eqb x y) (equal s t) false

by-test : (s t : List ℕ) → T (equal s t) → s ≡ t
by-test [] [] h = refl
by-test [] (y ∷ t) h = absurd h
by-test (x ∷ s) [] h = absurd h
by-test (x ∷ s) (y ∷ t) h = by (eqb x y) refl (by-test s t) h
  where
    by : (b : Bool) → eqb x y ≡ b → (T (equal s t) → s ≡ t) → T (cond b (equal s t) false) → x ∷ s ≡ y ∷ t
    by true e rest h = ap₂ {C = List ℕ} (λ a l. a ∷ l) (eqb-true x y e) (rest h)
    by false e rest h = absurd h

-- "abc", one block
pub one_block : sha256 (97 ∷ 98 ∷ 99 ∷ []) ≡ 186 ∷ 120 ∷ 22 ∷ 191 ∷ 143 ∷ 1 ∷ 207 ∷ 234 ∷ 65 ∷ 65 ∷ 64 ∷ 222 ∷ 93 ∷ 174 ∷ 34 ∷ 35 ∷ 176 ∷ 3 ∷ 97 ∷ 163 ∷ 150 ∷ 23 ∷ 122 ∷ 156 ∷ 180 ∷ 16 ∷ 255 ∷ 97 ∷ 242 ∷ 0 ∷ 21 ∷ 173 ∷ []
unfolding mix schedule round rounds compress be64 zeros pad parse hash digest sha256
one_block = by-test _ _ tt

-- "abcdbcdecdefdefgefghfghighijhijkijkljklmklmnlmnomnopnopq", two blocks
pub two_blocks : sha256 (97 ∷ 98 ∷ 99 ∷ 100 ∷ 98 ∷ 99 ∷ 100 ∷ 101 ∷ 99 ∷ 100 ∷ 101 ∷ 102 ∷ 100 ∷ 101 ∷ 102 ∷ 103 ∷ 101 ∷ 102 ∷ 103 ∷ 104 ∷ 102 ∷ 103 ∷ 104 ∷ 105 ∷ 103 ∷ 104 ∷ 105 ∷ 106 ∷ 104 ∷ 105 ∷ 106 ∷ 107 ∷ 105 ∷ 106 ∷ 107 ∷ 108 ∷ 106 ∷ 107 ∷ 108 ∷ 109 ∷ 107 ∷ 108 ∷ 109 ∷ 110 ∷ 108 ∷ 109 ∷ 110 ∷ 111 ∷ 109 ∷ 110 ∷ 111 ∷ 112 ∷ 110 ∷ 111 ∷ 112 ∷ 113 ∷ []) ≡ 36 ∷ 141 ∷ 106 ∷ 97 ∷ 210 ∷ 6 ∷ 56 ∷ 184 ∷ 229 ∷ 192 ∷ 38 ∷ 147 ∷ 12 ∷ 62 ∷ 96 ∷ 57 ∷ 163 ∷ 60 ∷ 228 ∷ 89 ∷ 100 ∷ 255 ∷ 33 ∷ 103 ∷ 246 ∷ 236 ∷ 237 ∷ 212 ∷ 25 ∷ 219 ∷ 6 ∷ 193 ∷ []
unfolding mix schedule round rounds compress be64 zeros pad parse hash digest sha256
two_blocks = by-test _ _ tt
