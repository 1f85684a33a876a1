-- Leaves tell their bytes: entries with the same leaves have the same bytes. Assumes nothing.
use mathlib.Core.Path.{◌≡◌, refl, sym, ap, ap₂, ◌∙◌}
use mathlib.Core.List.{◌++◌}
use Prim.Native.Nat.{ℕ, zero, suc, ◌+◌, ◌*◌, ◌≤◌}
use native.Mathlib.Omega.{arith}
use lib.ListN.{length, take, drop, length-drop}
use lib.Seq.{take-add, drop-drop, length-take-le}
use Rattle.paper.specs.Bytes.{Bytes, Bytewise, be, number}
use Rattle.paper.specs.Bits.{bits_of}
use Rattle.paper.specs.Level.{entry_leaf, leaves_in}
use Rattle.paper.proofs.Lists.{all_take, all_drop}
use Rattle.paper.proofs.Bytes.{be-number, bits_of-inj}

-- a part's bytes are those of its number
part-number : (s : Bytes) → Bytewise s → (a n : ℕ) → a + n ≤ length s → take n (drop a s) ≡ be n (number (take n (drop a s)))
part-number s w a n h = sym (ap (λ k. be k (number (take n (drop a s)))) (sym (length-take-le n (drop a s) (omega (arith, length-drop a s)))) ∙ be-number (take n (drop a s)) (all_take _ n (drop a s) (all_drop _ a s w)))

-- 68 bytes in their three parts
entry-parts : (s : Bytes) → take 68 s ≡ take 32 s ++ (take 32 (drop 32 s) ++ take 4 (drop 64 s))
entry-parts s = take-add 32 36 s ∙ ap (λ x. take 32 s ++ x) (take-add 32 4 (drop 32 s) ∙ ap (λ x. take 32 (drop 32 s) ++ take 4 x) (drop-drop 32 32 s))

module _ (s t : Bytes) (v : Bytewise s) (w : Bytewise t) (h : 68 ≤ length s) (k : 68 ≤ length t) where
  pub entry-one : entry_leaf s ≡ entry_leaf t → take 68 s ≡ take 68 t
  entry-one e =
      let bits : bits_of (take 32 s) ≡ bits_of (take 32 t) = cc in
      let second : take 32 (drop 32 s) ≡ take 32 (drop 32 t) = cc in
      let third : number (take 4 (drop 64 s)) ≡ number (take 4 (drop 64 t)) = cc in
      let first : take 32 s ≡ take 32 t = bits_of-inj (take 32 s) (take 32 t) (all_take _ 32 s v) (all_take _ 32 t w) (length-take-le 32 s (omega arith) ∙ sym (length-take-le 32 t (omega arith))) bits in
      let epoch : take 4 (drop 64 s) ≡ take 4 (drop 64 t) = part-number s v 64 4 (omega arith) ∙ ap (be 4) third ∙ sym (part-number t w 64 4 (omega arith)) in
      entry-parts s ∙ ap₂ ◌++◌ first (ap₂ ◌++◌ second epoch) ∙ sym (entry-parts t)

pub leaves-one : (n : ℕ) (s t : Bytes) → Bytewise s → Bytewise t → n * 68 ≤ length s → n * 68 ≤ length t → leaves_in n s ≡ leaves_in n t → take (n * 68) s ≡ take (n * 68) t
unfolding leaves_in
leaves-one zero s t v w h k e = refl
leaves-one (suc n) s t v w h k e =
    let head : entry_leaf s ≡ entry_leaf t = cc in
    let tail : leaves_in n (drop 68 s) ≡ leaves_in n (drop 68 t) = cc in
    let i : suc n * 68 ≡ 68 + n * 68 = omega arith in
    rw i (take-add 68 (n * 68) s ∙ ap₂ ◌++◌ (entry-one s t v w (omega arith) (omega arith) head)
    (leaves-one n (drop 68 s) (drop 68 t) (all_drop _ 68 s v) (all_drop _ 68 t w) (omega (arith, length-drop 68 s)) (omega (arith, length-drop 68 t)) tail) ∙ sym (take-add 68 (n * 68) t))
