-- Two digits more for each byte. Assumes nothing.
use mathlib.Core.Path.{◌≡◌, refl, ap, ◌∙◌}
use mathlib.Core.List.{List, [], ◌∷◌, ◌++◌, append_assoc}
use Prim.Native.Nat.{ℕ, suc, ◌+◌, ◌*◌, ◌/◌, ◌%◌, ◌<◌}
use native.Mathlib.Omega.{arith}
use native.Mathlib.Numerals.{add-one}
use lib.ListN.{length, take, get_or, set}
use lib.Seq.{take-suc, take-suc-set, lt-length-set, take-length}
use Rattle.io.specs.Digits.{hex_digit_ascii}
use Rattle.reply.specs.Text.{hex_text}

hex-snoc : (s : List ℕ) (x : ℕ) → hex_text (s ++ (x ∷ [])) ≡ hex_text s ++ (hex_digit_ascii (x / 16) ∷ hex_digit_ascii (x % 16) ∷ [])
unfolding hex_text
hex-snoc [] x = refl
hex-snoc (b ∷ s) x = ap (λ t. hex_digit_ascii (b / 16) ∷ hex_digit_ascii (b % 16) ∷ t) (hex-snoc s x)

pub spelt : (s t : List ℕ) (i a b : ℕ) → i < length s → i * 2 + 1 < length t → take (i * 2) t ≡ hex_text (take i s)
    → a ≡ hex_digit_ascii (get_or s i 0 / 16) → b ≡ hex_digit_ascii (get_or s i 0 % 16)
    → take ((i + 1) * 2) (set (set t (i * 2) a) (i * 2 + 1) b) ≡ hex_text (take (i + 1) s)
spelt s t i a b h l e p q =
    let j = i * 2 in
    let k : (i + 1) * 2 ≡ suc (suc j) = omega arith in
    let m : suc j < length (set t j a) = lt-length-set t j a (omega arith) in
    rw (k, add-one i, add-one j, take-suc-set (set t j a) (suc j) b m, take-suc-set t j a (omega arith), take-suc s i 0 h, hex-snoc (take i s) (get_or s i 0), ← e, ← p, ← q)
    (append_assoc (take j t) (a ∷ []) (b ∷ []))

pub all-spelt : (s t : List ℕ) (i : ℕ) → i ≡ length s → take (i * 2) t ≡ hex_text (take i s) → take (length s * 2) t ≡ hex_text s
all-spelt s t i e h = rw (← e) (h ∙ ap hex_text (ap (λ i. take i s) e ∙ take-length s))
