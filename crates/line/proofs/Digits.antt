-- Decimal digits: a number's are those of its tenth, and its last one. Assumes nothing.
use mathlib.Core.Path.{◌≡◌, ap, subst}
use mathlib.Core.Logic.{by_cases}
use mathlib.Core.Bool.{Bool, true, false, cond}
use mathlib.Core.List.{[], ◌∷◌, ◌++◌}
use Prim.Native.Nat.{ℕ, zero, suc, ◌+◌, ◌-◌, ◌/◌, ◌%◌, ◌^◌, ◌<◌, ◌≤◌}
use native.Mathlib.Decide.{dec_le}
use native.Mathlib.Omega.{arith}
use native.Mathlib.Nat.{mod-eq_of_lt}
use lib.Dec.{ltb}
use lib.ListN.{length, length-append}
use borrow.Author.Tests.{lt-ltb, le-ltb}
use Rattle.io.specs.Digits.{last_digits, hex_digit_ascii, IsDigitCount}
use Rattle.paper.specs.Program.{decimal_in, decimal}

pow10-pos : (k : ℕ) → 0 < 10 ^ k
pow10-pos zero = omega arith
pow10-pos (suc k) = omega (arith, pow10-pos k)

digit-spelt : (n : ℕ) → hex_digit_ascii (n % 10) ≡ 48 + n % 10
digit-spelt n = rw (lt-ltb (n % 10) 10 (omega arith))

-- the last digits of a number that has so many
pub digits-decimal : (k m n : ℕ) → k ≤ m → n < 10 ^ suc k → (0 < k → 10 ^ k ≤ n) → last_digits 10 (suc k) n ≡ decimal_in m n
unfolding decimal_in
digits-decimal zero zero n h l g = rw (digit-spelt n) (ap (λ d. (48 + d) ∷ []) (mod-eq_of_lt l))
digits-decimal zero (suc m) n h l g = rw (digit-spelt n, lt-ltb n 10 l) (ap (λ d. (48 + d) ∷ []) (mod-eq_of_lt l))
digits-decimal (suc k) zero n h l g = absurd (omega arith)
digits-decimal (suc k) (suc m) n h l g =
    let least = g (omega arith) in
    let w : 10 ≤ n = omega (arith, pow10-pos k) in
    rw (le-ltb n 10 w, digit-spelt n)
    (ap (λ d. d ++ ((48 + n % 10) ∷ [])) (digits-decimal k m (n / 10) (omega arith) (omega arith) (λ p. omega arith)))

pow10-most : (j : ℕ) → 10 ^ 10 ≤ 10 ^ (j + 10)
pow10-most zero = omega arith
pow10-most (suc j) = let e : suc j + 10 ≡ suc (j + 10) = omega arith in rw e (omega (arith, pow10-most j))

-- a number of 32 bits has ten digits at most
pub all-digits : (n k : ℕ) → n < 2 ^ 32 → IsDigitCount 10 1 n k → last_digits 10 k n ≡ decimal n
all-digits n zero h (l, m, g) = absurd (omega arith)
all-digits n (suc k) h (l, m, g) =
    let e : suc k - 1 ≡ k = omega arith in
    let least : 0 < k → 10 ^ k ≤ n = λ p. subst (λ i. 10 ^ i ≤ n) e (g (omega arith)) in
    let few : k ≤ 9 = by_cases (dec_le k 9) (λ q. q)
    (λ q. let f : k - 10 + 10 ≡ k = omega arith in let p = subst (λ i. 10 ^ 10 ≤ 10 ^ i) f (pow10-most (k - 10)) in absurd (omega (arith, least (omega arith)))) in
    digits-decimal k 9 n few m least

few-digits : (k n : ℕ) → length (decimal_in k n) ≤ suc k
unfolding decimal_in
few-digits zero n = omega arith
few-digits (suc k) n = by (ltb n 10) (few-digits k (n / 10))
  where
    by : (b : Bool) → length (decimal_in k (n / 10)) ≤ suc k → length (cond b ((48 + n) ∷ []) (decimal_in k (n / 10) ++ ((48 + n % 10) ∷ []))) ≤ suc (suc k)
    by true h = omega arith
    by false h = omega (arith, length-append (decimal_in k (n / 10)) ((48 + n % 10) ∷ []))

pub decimal-short : (n : ℕ) → length (decimal n) ≤ 10
decimal-short n = few-digits 9 n
