-- A number of m + n bytes is one of m bytes with one of n bytes behind it, whether it is read or written. Assumes nothing.
use mathlib.Core.Path.{◌≡◌, sym, ap, ap₂, ◌∙◌, subst}
use mathlib.Core.List.{[], ◌∷◌, ◌++◌}
use Prim.Native.Nat.{ℕ, ◌+◌, ◌*◌, ◌/◌, ◌%◌, ◌^◌, ◌≤◌, ◌<◌}
use native.Mathlib.Nat.{add_assoc, mul_assoc, add-mul, mod-lt, div-add-mod', div-lt_iff_lt-mul}
use native.Mathlib.Omega.{arith}
use lib.ListN.{length, take, drop, length-append, length-drop}
use lib.Seq.{take-add, drop-drop, length-take-le}
use lib.Pow.{pow-add}
use Rattle.paper.specs.Bytes.{Bytes, be, number, pasted}
use Rattle.paper.proofs.Lists.{all_append}
use Rattle.paper.proofs.Bytes.{be-length, be-bytes, number-be, be-number, pow256-pos}
use Rattle.paper.proofs.Pasted.{pasted-pasted}

number_append : (s t : Bytes) → number (s ++ t) ≡ number s * 256 ^ length t + number t
unfolding number
number_append [] t = omega arith
number_append (b ∷ s) t =
    rw (length-append s t, pow-add 256 (length s) (length t), number_append s t, add-mul (b * 256 ^ length s) (number s) (256 ^ length t))
    (rw (mul_assoc b (256 ^ length s) (256 ^ length t)) (sym (add_assoc (b * (256 ^ length s * 256 ^ length t)) (number s * 256 ^ length t) (number t))))

-- m + n bytes are m bytes and n behind them
pub number-part : (s : Bytes) (at m n : ℕ) → at + m + n ≤ length s → number (take (m + n) (drop at s)) ≡ number (take m (drop at s)) * 256 ^ n + number (take n (drop (at + m) s))
number-part s at m n h =
    rw (take-add m n (drop at s), drop-drop m at s, number_append (take m (drop at s)) (take n (drop (at + m) s)), length-take-le n (drop (at + m) s) (omega (arith, length-drop (at + m) s)))

be-append : (m n a b : ℕ) → a < 256 ^ m → b < 256 ^ n → be m a ++ be n b ≡ be (m + n) (a * 256 ^ n + b)
be-append m n a b ha hb =
    let s = be m a ++ be n b in
    let e : length s ≡ m + n = length-append (be m a) (be n b) ∙ ap₂ (λ x y. x + y) (be-length m a) (be-length n b) in
    let v : number s ≡ a * 256 ^ n + b = number_append (be m a) (be n b) ∙ rw (be-length n b, number-be m a ha, number-be n b hb) in
    sym (be-number s (all_append (λ x. x < 256) (be m a) (be n b) (be-bytes m a ha) (be-bytes n b hb))) ∙ ap₂ be e v

-- the upper m and the lower n bytes of a number, one behind the other
pub pasted-halves : (d : Bytes) (at m n x : ℕ) → at ≤ length d → x < 256 ^ (m + n) → pasted (pasted d at (be m (x / 256 ^ n))) (at + m) (be n (x % 256 ^ n)) ≡ pasted d at (be (m + n) x)
pasted-halves d at m n x h k =
    let a = x / 256 ^ n in
    let b = x % 256 ^ n in
    let ha : a < 256 ^ m = (div-lt_iff_lt-mul (pow256-pos n)).1 (subst (λ p. x < p) (pow-add 256 m n) k) in
    ap (λ l. pasted (pasted d at (be m a)) (at + l) (be n b)) (sym (be-length m a))
    ∙ pasted-pasted d at (be m a) (be n b) h
    ∙ ap (pasted d at) (be-append m n a b ha (mod-lt x (pow256-pos n)) ∙ ap (be (m + n)) (div-add-mod' x (256 ^ n)))
