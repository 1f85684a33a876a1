-- `fast` is SHA-256, and the prover computes it four times as fast: a function of words takes the digits of all its words in one pass, where
-- the definitions have a pass for each bit operation, and a rotation is a sum. For worked examples only. Assumes nothing.
use mathlib.Core.Path.{◌≡◌, refl, sym, ap, ap₂, ◌∙◌}
use mathlib.Core.Bool.{Bool, true, false, cond}
use mathlib.Core.List.{List, [], ◌∷◌, ◌++◌, foldl}
use Prim.Native.Nat.{ℕ, zero, suc, ◌+◌, ◌-◌, ◌*◌, ◌/◌, ◌%◌, ◌^◌, ◌<◌}
use native.Mathlib.Nat.{div-add-mod', mod-lt, mul-mod_left, add-mul, mul_right_comm, zero-lt-suc}
use native.Mathlib.Omega.{arith}
use lib.Dec.{ltb}
use lib.ListN.{length, get_or}
use lib.Bits.{bit_and, bit_or, bit_xor, and_shr, xor_shr, and_mod, xor_add_and, or_shifted_r}
use lib.Pow.{mod-pow-add, shl-shr, shr_lt}
use borrow.Author.Tests.{ltb-true}
use Rattle.fips.specs.declared.State.{State}
use Rattle.fips.specs.Words as W
use Rattle.fips.specs.Words.{◌⊞◌, ¬w, shr, K}
use Rattle.fips.specs.Sha256 as S
use Rattle.fips.specs.Sha256.{H0, word_at, pick, add, pad, parse, digest}

-- ---- n digits of a function of four numbers, the lowest first, each by f; what is left above, by the function itself
module _ (F f : ℕ → ℕ → ℕ → ℕ → ℕ) where
  abbrev pub digits : ℕ → ℕ → ℕ → ℕ → ℕ → ℕ
  digits zero w x y z = F w x y z
  digits (suc n) w x y z = digits n (w / 2) (x / 2) (y / 2) (z / 2) * 2 + f w x y z

  digits-is : ((w x y z : ℕ) → F w x y z / 2 ≡ F (w / 2) (x / 2) (y / 2) (z / 2)) → ((w x y z : ℕ) → F w x y z % 2 ≡ f w x y z)
      → (n w x y z : ℕ) → F w x y z ≡ digits n w x y z
  digits-is half last zero w x y z = refl
  digits-is half last (suc n) w x y z =
      sym (div-add-mod' (F w x y z) 2) ∙ ap₂ (λ a b. a * 2 + b) (half w x y z ∙ digits-is half last n (w / 2) (x / 2) (y / 2) (z / 2)) (last w x y z)

and-half : (a b : ℕ) → bit_and a b / 2 ≡ bit_and (a / 2) (b / 2)
and-half a b = and_shr a b 1

xor-half : (a b : ℕ) → bit_xor a b / 2 ≡ bit_xor (a / 2) (b / 2)
xor-half a b = xor_shr a b 1

xor-last : (a b : ℕ) → bit_xor a b % 2 ≡ (a + b) % 2
xor-last a b = omega (arith, xor_add_and a b)

one-and : (r : ℕ) → r < 2 → bit_and 1 r ≡ r
one-and zero h = refl
one-and (suc zero) h = refl
one-and (suc (suc r)) h = absurd (omega arith)

-- the last digits' product
product : (a b : ℕ) → a * b % 2 ≡ bit_and (a % 2) (b % 2)
product a b = by (a % 2) (mod-lt a (zero-lt-suc 1)) (ap (λ x. x * b) (sym (div-add-mod' a 2)) ∙ add-mul (a / 2 * 2) (a % 2) b)
  where
    even : a / 2 * 2 * b ≡ a / 2 * b * 2
    even = mul_right_comm (a / 2) 2 b

    by : (r : ℕ) → r < 2 → a * b ≡ a / 2 * 2 * b + r * b → a * b % 2 ≡ bit_and r (b % 2)
    by zero h e = omega (arith, e, even)
    by (suc zero) h e = omega (arith, e, even) ∙ sym (one-and (b % 2) (mod-lt b (zero-lt-suc 1)))
    by (suc (suc r)) h e = absurd (omega arith)

and_last : (a b : ℕ) → bit_and a b % 2 ≡ a * b % 2
and_last a b = and_mod a b 1 ∙ sym (product a b)

parity : (a b p q : ℕ) → a % 2 ≡ p % 2 → b % 2 ≡ q % 2 → bit_xor a b % 2 ≡ (p + q) % 2
parity a b p q e g = omega (arith, e, g, xor-last a b)

-- ---- the functions of the words

abbrev xor3 : ℕ → ℕ → ℕ → ℕ
xor3 x y z = digits (λ w x y z. bit_xor (bit_xor x y) z) (λ w x y z. (x + y + z) % 2) 32 0 x y z

xor3-is : (x y z : ℕ) → bit_xor (bit_xor x y) z ≡ xor3 x y z
xor3-is = digits-is _ _ (λ w x y z. simp xor-half) (λ w x y z. parity (bit_xor x y) z (x + y) z (xor-last x y) refl) 32 0

abbrev Maj : ℕ → ℕ → ℕ → ℕ
Maj x y z = digits (λ w. W.Maj) (λ w x y z. (x * y + x * z + y * z) % 2) 32 0 x y z

Maj-is : (x y z : ℕ) → W.Maj x y z ≡ Maj x y z
Maj-is = digits-is _ _ (λ w x y z. simp (xor-half, and-half)) (λ w x y z. parity _ _ _ _ (parity _ _ _ _ (and_last x y) (and_last x z)) (and_last y z)) 32 0

-- the first is the complement of the second
abbrev Ch : ℕ → ℕ → ℕ → ℕ
Ch x y z = digits (λ w x y z. bit_xor (bit_and x y) (bit_and w z)) (λ w x y z. (x * y + w * z) % 2) 32 (¬w x) x y z

Ch-is : (x y z : ℕ) → W.Ch x y z ≡ Ch x y z
Ch-is x = digits-is _ _ (λ w x y z. simp (xor-half, and-half)) (λ w x y z. parity _ _ _ _ (and_last x y) (and_last w z)) 32 (¬w x) x

-- a number of n + k bits, rotated to the right by n
abbrev rotr : ℕ → ℕ → ℕ → ℕ
rotr n k x = cond (ltb x (2 ^ (k + n))) (x % 2 ^ n * 2 ^ k + x / 2 ^ n) (bit_or (x / 2 ^ n) ((x * 2 ^ k) % 2 ^ (n + k)))

rotr-is : (n k x : ℕ) → bit_or (x / 2 ^ n) ((x * 2 ^ k) % 2 ^ (n + k)) ≡ rotr n k x
rotr-is n k x = by (ltb x (2 ^ (k + n))) refl
  where
    high : (x * 2 ^ k) % 2 ^ (n + k) ≡ x % 2 ^ n * 2 ^ k
    high = mod-pow-add (x * 2 ^ k) n k ∙ ap₂ (λ a b. a % 2 ^ n * 2 ^ k + b) (shl-shr x k) (mul-mod_left x (2 ^ k)) ∙ omega arith

    by : (t : Bool) → ltb x (2 ^ (k + n)) ≡ t
        → bit_or (x / 2 ^ n) ((x * 2 ^ k) % 2 ^ (n + k)) ≡ cond t (x % 2 ^ n * 2 ^ k + x / 2 ^ n) (bit_or (x / 2 ^ n) ((x * 2 ^ k) % 2 ^ (n + k)))
    by true e = ap (bit_or (x / 2 ^ n)) high ∙ or_shifted_r (x % 2 ^ n) k (x / 2 ^ n) (shr_lt k n (ltb-true _ _ e))
    by false e = refl

turned : (a b c : ℕ) {x y z : ℕ} → x ≡ a → y ≡ b → z ≡ c → bit_xor (bit_xor x y) z ≡ xor3 a b c
turned a b c e f g = ap₂ bit_xor (ap₂ bit_xor e f) g ∙ xor3-is a b c

abbrev Σ0 : ℕ → ℕ
Σ0 x = xor3 (rotr 2 30 x) (rotr 13 19 x) (rotr 22 10 x)

abbrev Σ1 : ℕ → ℕ
Σ1 x = xor3 (rotr 6 26 x) (rotr 11 21 x) (rotr 25 7 x)

abbrev σ0 : ℕ → ℕ
σ0 x = xor3 (rotr 7 25 x) (rotr 18 14 x) (shr 3 x)

abbrev σ1 : ℕ → ℕ
σ1 x = xor3 (rotr 17 15 x) (rotr 19 13 x) (shr 10 x)

Σ0-is : (x : ℕ) → W.Σ0 x ≡ Σ0 x
Σ0-is x = turned _ _ _ (rotr-is 2 30 x) (rotr-is 13 19 x) (rotr-is 22 10 x)

Σ1-is : (x : ℕ) → W.Σ1 x ≡ Σ1 x
Σ1-is x = turned _ _ _ (rotr-is 6 26 x) (rotr-is 11 21 x) (rotr-is 25 7 x)

σ0-is : (x : ℕ) → W.σ0 x ≡ σ0 x
σ0-is x = turned _ _ _ (rotr-is 7 25 x) (rotr-is 18 14 x) refl

σ1-is : (x : ℕ) → W.σ1 x ≡ σ1 x
σ1-is x = turned _ _ _ (rotr-is 17 15 x) (rotr-is 19 13 x) refl

-- ---- and SHA-256 over them, as the standard goes

abbrev mix : ℕ → ℕ → ℕ → ℕ → ℕ
mix w2 w7 w15 w16 = σ1 w2 ⊞ w7 ⊞ σ0 w15 ⊞ w16

abbrev next : List ℕ → ℕ → List ℕ → List ℕ
next b t w = w ++ (pick (ltb t 16) (word_at b t) (mix (get_or w (t - 2) 0) (get_or w (t - 7) 0) (get_or w (t - 15) 0) (get_or w (t - 16) 0)) ∷ [])

abbrev schedule : List ℕ → ℕ → List ℕ
schedule b zero = []
schedule b (suc t) = next b t (schedule b t)

abbrev turn : State → ℕ → ℕ → State
turn s t1 t2 = record { a = t1 ⊞ t2; b = s.a; c = s.b; d = s.c; e = s.d ⊞ t1; f = s.e; g = s.f; h = s.g }

abbrev round : ℕ → ℕ → State → State
round k w s = turn s (s.h ⊞ Σ1 s.e ⊞ Ch s.e s.f s.g ⊞ k ⊞ w) (Σ0 s.a ⊞ Maj s.a s.b s.c)

abbrev rounds : List ℕ → State → ℕ → State
rounds w s zero = s
rounds w s (suc t) = round (get_or K t 0) (get_or w t 0) (rounds w s t)

abbrev compress : State → List ℕ → State
compress s b = add s (rounds (schedule b 64) s 64)

abbrev pub fast : List ℕ → List ℕ
fast m = digest (foldl compress H0 (parse (length (pad m) / 64) (pad m)))

mix-is : (w2 w7 w15 w16 : ℕ) → S.mix w2 w7 w15 w16 ≡ mix w2 w7 w15 w16
unfolding S.mix
mix-is w2 w7 w15 w16 = ap₂ (λ x y. x ⊞ w7 ⊞ y ⊞ w16) (σ1-is w2) (σ0-is w15)

schedule-is : (b : List ℕ) (t : ℕ) → S.schedule b t ≡ schedule b t
unfolding S.schedule
schedule-is b zero = refl
schedule-is b (suc t) = ap (λ w. w ++ (S.word b w t ∷ [])) (schedule-is b t) ∙ ap (λ x. schedule b t ++ (pick (ltb t 16) (word_at b t) x ∷ [])) (mix-is _ _ _ _)

round_is : (k w : ℕ) (s : State) → S.round s k w ≡ round k w s
unfolding S.round
round_is k w s = ap₂ (turn s)
    (ap₂ (λ x y. s.h ⊞ x ⊞ y ⊞ k ⊞ w) (Σ1-is s.e) (Ch-is s.e s.f s.g))
    (ap₂ (λ x y. x ⊞ y) (Σ0-is s.a) (Maj-is s.a s.b s.c))

rounds-is : (w : List ℕ) (s : State) (t : ℕ) → S.rounds w s t ≡ rounds w s t
unfolding S.rounds
rounds-is w s zero = refl
rounds-is w s (suc t) = round_is _ _ _ ∙ ap (round _ _) (rounds-is w s t)

compress-is : (s : State) (b : List ℕ) → S.compress s b ≡ compress s b
unfolding S.compress
compress-is s b = ap (λ w. add s (S.rounds w s 64)) (schedule-is b 64) ∙ ap (add s) (rounds-is (schedule b 64) s 64)

blocks_is : (s : State) (bs : List (List ℕ)) → foldl S.compress s bs ≡ foldl compress s bs
blocks_is s [] = refl
blocks_is s (b ∷ bs) = ap (λ r. foldl S.compress r bs) (compress-is s b) ∙ blocks_is (compress s b) bs

pub fast-is : (m : List ℕ) → S.sha256 m ≡ fast m
unfolding S.sha256 S.hash
fast-is m = ap digest (blocks_is H0 (parse (length (pad m) / 64) (pad m)))
