-- An array of one byte, over which parts are laid, each right behind the one before it, holds that byte and then the parts. Assumes nothing.
use mathlib.Core.Path.{◌≡◌, refl, sym, ap, ◌∙◌}
use mathlib.Core.List.{List, [], ◌∷◌, ◌++◌}
use Prim.Native.Nat.{ℕ, zero, suc, ◌+◌, ◌≤◌}
use native.Mathlib.Omega.{arith}
use lib.ListN.{length, take, replicate, length-append, length-replicate}
use Rattle.paper.specs.Bytes.{Bytes, pasted}
use Rattle.paper.proofs.Pasted.{pasted-none, pasted-end, pasted-front, pasted-reach, pasted-pasted}

-- strings and their places
abbrev pub Parts : Type 0
Parts = List (ℕ × Bytes)

-- the buffer after each part was laid over it at its place
abbrev pub laid : Bytes → Parts → Bytes
laid o [] = o
laid o ((a, x) ∷ r) = laid (pasted o a x) r

-- the first part lies at a, each other right behind the one before it, and the last ends at e
abbrev pub InRow : ℕ → Parts → ℕ → Type 0
InRow a [] e = a ≡ e
InRow a ((b, x) ∷ r) e = (a ≡ b) × InRow (b + length x) r e

-- the parts as one string
abbrev pub whole : Parts → Bytes
whole [] = []
whole ((a, x) ∷ []) = x
whole ((a, x) ∷ (b, y) ∷ r) = x ++ whole ((b, y) ∷ r)

row-length : (a : ℕ) (r : Parts) (e : ℕ) → InRow a r e → a + length (whole r) ≡ e
row-length a [] e k = omega arith
row-length a ((b, x) ∷ []) e k = omega arith
row-length a ((b, x) ∷ (d, y) ∷ r) e k = omega (arith, length-append x (whole ((d, y) ∷ r)), row-length (b + length x) ((d, y) ∷ r) e k.1)

row_laid : (o : Bytes) (a : ℕ) (r : Parts) (e : ℕ) → a ≤ length o → InRow a r e → laid o r ≡ pasted o a (whole r)
row_laid o a [] e h k = sym (pasted-none o a)
row_laid o a ((b, x) ∷ []) e h k = ap (λ p. pasted o p x) (sym k.0)
row_laid o a ((b, x) ∷ (d, y) ∷ r) e h k =
    row_laid (pasted o b x) (b + length x) ((d, y) ∷ r) e (pasted-reach o b x (omega arith)) k.1
    ∙ pasted-pasted o b x (whole ((d, y) ∷ r)) (omega arith)
    ∙ ap (λ p. pasted o p (x ++ whole ((d, y) ∷ r))) (sym k.0)

first : (n b : ℕ) → 1 ≤ n → take 1 (replicate n b) ≡ b ∷ []
first zero b h = absurd (omega arith)
first (suc n) b h = refl

-- the string fills the array
pub row-all : (b : ℕ) (r : Parts) (e : ℕ) → InRow 1 r e → laid (replicate e b) r ≡ b ∷ whole r
row-all b r e k =
    let h = row-length 1 r e k in
    let n = length-replicate e b in
    row_laid (replicate e b) 1 r e (omega arith) k ∙ pasted-end (replicate e b) 1 (whole r) (omega arith) ∙ ap (λ f. f ++ whole r) (first e b (omega arith))

-- the string is the array's front
pub row-front : (n b : ℕ) (r : Parts) (e : ℕ) → e ≤ n → InRow 1 r e → take e (laid (replicate n b) r) ≡ b ∷ whole r
row-front n b r e g k =
    let h = row-length 1 r e k in
    let m = length-replicate n b in
    ap (take e) (row_laid (replicate n b) 1 r e (omega arith) k)
    ∙ ap (λ i. take i (pasted (replicate n b) 1 (whole r))) (sym h)
    ∙ pasted-front (replicate n b) 1 (whole r) (omega arith)
    ∙ ap (λ f. f ++ whole r) (first n b (omega arith))
