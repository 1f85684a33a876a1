-- Where two labels differ first, from their bits, and so whether the first bits of one begin the other. Assumes nothing.
use mathlib.Core.Path.{◌≡◌, refl, sym, ap, ◌∙◌}
use mathlib.Core.Logic.{⊎_elim}
use mathlib.Core.Bool.{Bool, true, false, not, beq}
use mathlib.Core.List.{[], ◌∷◌}
use Prim.Native.Nat.{ℕ, zero, suc, ◌+◌, ◌*◌, ◌<◌, ◌≤◌}
use native.Mathlib.Omega.{arith}
use borrow.Author.Count.{below_more}
use borrow.Author.Tests.{le-leb, leb-true}
use lib.Dec.{leb}
use lib.ListN.{length, take, get_or, length-take}
use lib.Seq.{get_or-take, length-take-le}
use Rattle.paper.specs.Bytes.{Bytes}
use Rattle.paper.specs.Bits.{Bits, Pfx, bits_of, starts, lcp, first_difference}
use Rattle.paper.proofs.Lists.{not-both}
use Rattle.paper.proofs.Bits.{pfx-refl, pfx-take, pfx-trans, pfx-full, pfx-length, pfx-compare, starts-pfx, pfx-starts, lcp-left, lcp-right, lcp-most}
use Rattle.paper.proofs.Bytes.{bits_of-length}
use Rattle.bits.proofs.Bits.{take-bits_of}

-- what a comparison of two bits tells
pub bits-same : (a b : Bool) → not (beq a b) ≡ false → a ≡ b
bits-same true true e = refl
bits-same false false e = refl
bits-same true false e = e
bits-same false true e = sym e

pub bits-differ : (a b : Bool) → not (beq a b) ≡ true → a ≡ b → ⊥
bits-differ true true e q = not-both e refl
bits-differ false false e q = not-both e refl
bits-differ true false e q = not-both refl q
bits-differ false true e q = not-both q refl

-- the bits below r agree
abbrev pub Agree : Bits → Bits → ℕ → Type 0
Agree x y r = (i : ℕ) → i < r → get_or x i false ≡ get_or y i false

pub agree-more : (x y : Bits) (r : ℕ) → Agree x y r → get_or x r false ≡ get_or y r false → Agree x y (r + 1)
agree-more x y = below_more (λ i. get_or x i false ≡ get_or y i false)

-- two strings of bits that agree below r and, where both go on, differ at r: r is the length of their longest common prefix
pub lcp-length : (r : ℕ) (x y : Bits) → r ≤ length x → r ≤ length y → Agree x y r
    → (r < length x → r < length y → get_or x r false ≡ get_or y r false → ⊥) → r ≡ length (lcp x y)
unfolding lcp
lcp-length zero [] y h k same ends = refl
lcp-length zero (a ∷ x) [] h k same ends = refl
lcp-length zero (true ∷ x) (true ∷ y) h k same ends = absurd (ends (omega arith) (omega arith) refl)
lcp-length zero (false ∷ x) (false ∷ y) h k same ends = absurd (ends (omega arith) (omega arith) refl)
lcp-length zero (true ∷ x) (false ∷ y) h k same ends = refl
lcp-length zero (false ∷ x) (true ∷ y) h k same ends = refl
lcp-length (suc r) [] y h k same ends = absurd (omega arith)
lcp-length (suc r) (a ∷ x) [] h k same ends = absurd (omega arith)
lcp-length (suc r) (true ∷ x) (true ∷ y) h k same ends =
    ap suc (lcp-length r x y (omega arith) (omega arith) (λ i l. same (suc i) (omega arith)) (λ l m. ends (omega arith) (omega arith)))
lcp-length (suc r) (false ∷ x) (false ∷ y) h k same ends =
    ap suc (lcp-length r x y (omega arith) (omega arith) (λ i l. same (suc i) (omega arith)) (λ l m. ends (omega arith) (omega arith)))
lcp-length (suc r) (true ∷ x) (false ∷ y) h k same ends = not-both refl (same 0 (omega arith))
lcp-length (suc r) (false ∷ x) (true ∷ y) h k same ends = not-both (same 0 (omega arith)) refl

-- the bits of a label: those of the slice, up to 256
label-bits : (s : Bytes) (i : ℕ) → i < 256 → get_or (bits_of (take 32 s)) i false ≡ get_or (bits_of s) i false
label-bits s i h = ap (λ p. get_or p i false) (sym (take-bits_of 32 s)) ∙ get_or-take 256 (bits_of s) i false h

-- the same of the labels in two slices, from the bits of the slices
pub first_difference-at : (a b : Bytes) (r : ℕ) → r ≤ 256 → r ≤ length a * 8 → r ≤ length b * 8
    → Agree (bits_of a) (bits_of b) r
    → (r < 256 → r < length a * 8 → r < length b * 8 → get_or (bits_of a) r false ≡ get_or (bits_of b) r false → ⊥)
    → r ≡ first_difference (take 32 a) (take 32 b)
unfolding first_difference
first_difference-at a b r h ha hb same ends =
    let na = bits_of-length (take 32 a) in
    let nb = bits_of-length (take 32 b) in
    let ta = length-take 32 a in
    let tb = length-take 32 b in
    lcp-length r (bits_of (take 32 a)) (bits_of (take 32 b)) (omega arith) (omega arith)
    (λ i l. label-bits a i (omega arith) ∙ same i l ∙ sym (label-bits b i (omega arith)))
    (λ l m e. ends (omega arith) (omega arith) (omega arith) (sym (label-bits a r (omega arith)) ∙ e ∙ label-bits b r (omega arith)))

-- ---- prefixes by their lengths

-- two tests that pass together are one
pub both_ways : (a b : Bool) → (a ≡ true → b ≡ true) → (b ≡ true → a ≡ true) → a ≡ b
both_ways true b f g = sym (f refl)
both_ways false true f g = g refl
both_ways false false f g = refl

-- of two prefixes of one label the shorter is a prefix of the longer
pub shorter : (p q x : Bits) → Pfx p x → Pfx q x → length p ≤ length q → Pfx p q
shorter p q x h k l = ⊎_elim (λ u. u) (λ u. let e : q ≡ p = pfx-full u l in rw e (pfx-refl p)) (pfx-compare p q x h k)

-- the first j bits of y begin x exactly where the two agree on j bits
pub first-bits : (x y : Bits) (j : ℕ) → j ≤ length y → starts (take j y) x ≡ leb j (length (lcp x y))
first-bits x y j h =
    let n : length (take j y) ≡ j = length-take-le j y h in
    both_ways (starts (take j y) x) (leb j (length (lcp x y)))
    (λ e. le-leb j (length (lcp x y)) (omega (arith, pfx-length (lcp-most (take j y) x y (starts-pfx (take j y) x e) (pfx-take j y)))))
    (λ e. let l = leb-true j (length (lcp x y)) e in
    pfx-starts (take j y) x (pfx-trans (shorter (take j y) (lcp x y) y (pfx-take j y) (lcp-right x y) (omega arith)) (lcp-left x y)))
