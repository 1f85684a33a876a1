-- "zero bits past a prefix": bytes whose bits past the first k are zero are those of their first k bits. Assumes nothing.
use mathlib.Core.Path.{◌≡◌, refl, sym, ap, ◌∙◌}
use mathlib.Core.Logic.{⊎_elim}
use mathlib.Core.Bool.{true, false, not}
use mathlib.Core.List.{[], ◌∷◌, ◌++◌}
use Prim.Native.Nat.{ℕ, zero, suc, ◌*◌, ◌≤◌}
use native.Mathlib.Omega.{arith}
use lib.ListN.{length, take, drop, replicate, length-append, length-drop, length-replicate, take-append-drop}
use lib.Seq.{drop_at, length-take-le}
use Rattle.paper.specs.Lists.{every}
use Rattle.paper.specs.Bytes.{Bytes, Bytewise, same}
use Rattle.paper.specs.Bits.{Bits, bits_of, pack}
use Rattle.paper.proofs.Lists.{true-or-false, not-both}
use Rattle.paper.proofs.Bytes.{same-eq, eq-same, bits_of-length, bits_of-pack, pack-bits_of, pack-fill}

-- bits that are all zero
all-zero : (p : Bits) → every not p ≡ true → p ≡ replicate (length p) false
unfolding every
all-zero [] e = refl
all-zero (true ∷ p) e = not-both e refl
all-zero (false ∷ p) e = ap (λ t. false ∷ t) (all-zero p e)

zero-all : (n : ℕ) → every not (replicate n false) ≡ true
unfolding every
zero-all zero = refl
zero-all (suc n) = zero-all n

module _ (x : Bytes) (k : ℕ) (w : Bytewise x) where
  abbrev p : Bits
  p = take k (bits_of x)

  abbrev z : ℕ
  z = length (drop k (bits_of x))

  pub cut-same : every not (drop k (bits_of x)) ≡ true → pack (length x) (take k (bits_of x)) ≡ x
  cut-same e =
      sym (pack-fill (length x) p z)
      ∙ ap (pack (length x)) (ap (λ t. p ++ t) (sym (all-zero (drop k (bits_of x)) e)) ∙ take-append-drop k (bits_of x))
      ∙ pack-bits_of x w

  same-cut : k ≤ 8 * length x → pack (length x) p ≡ x → every not (drop k (bits_of x)) ≡ true
  same-cut h q =
      let size : length p ≡ k = length-take-le k (bits_of x) (omega (arith, bits_of-length x)) in
      let full : length (p ++ replicate z false) ≡ 8 * length x = omega (arith, length-append p (replicate z false), length-replicate z false, size, length-drop k (bits_of x), bits_of-length x) in
      let e : bits_of x ≡ p ++ replicate z false = ap bits_of (sym q ∙ sym (pack-fill (length x) p z)) ∙ bits_of-pack (length x) (p ++ replicate z false) full in
      ap (λ t. every not (drop k t)) e ∙ ap (every not) (drop_at p (replicate z false) k size) ∙ zero-all z

  -- so they are tested by a comparison
  pub zero_bits : k ≤ 8 * length x → every not (drop k (bits_of x)) ≡ same (pack (length x) (take k (bits_of x))) x
  zero_bits h = ⊎_elim
      (λ e. same-cut h (same-eq _ x e) ∙ sym e)
      (λ e. ⊎_elim (λ t. not-both (eq-same (cut-same t)) e) (λ f. f ∙ sym e) (true-or-false (every not (drop k (bits_of x)))))
      (true-or-false (same (pack (length x) (take k (bits_of x))) x))
