-- Words one behind the other in a text. Assumes nothing.
use mathlib.Core.Path.{◌≡◌, ap, ◌∙◌}
use mathlib.Core.List.{List, [], ◌∷◌, ◌++◌}
use Prim.Native.Nat.{ℕ, ◌+◌, ◌≤◌}
use native.Mathlib.Omega.{arith}
use lib.ListN.{length, length-append}
use Rattle.paper.specs.Bytes.{Bytes, zeros}
use Rattle.paper.specs.Numbers.{refusal_number}
use Rattle.paper.specs.declared.Refusal.{Refusal}
use Rattle.paper.specs.Program.{decimal, version_word, epoch_word, digests_word, refused_word, line_end, accepted, line}
use Rattle.std.specs.Prelude.{Err}
use Rattle.paper.proofs.Pasted.{pasted-none, pasted-pasted, pasted-reach}
use Rattle.line.specs.declared.Text.{Text}
use Rattle.line.specs.Written.{empty, behind, text_of}

-- what is written of a text lies in it
abbrev pub Within : Text → Type 0
Within t = t.length ≤ length t.bytes

pub behind_more : (t : Text) (x y : Bytes) → Within t → behind (behind t x) y ≡ behind t (x ++ y)
behind_more t x y h =
    let n : t.length + length x + length y ≡ t.length + length (x ++ y) = omega (arith, length-append x y) in
    rw (pasted-pasted t.bytes t.length x y h, n)

pub text-within : (t : Text) (x : Bytes) → t ≡ text_of x → Within t
text-within t x e = rw e (pasted-reach (zeros 64) 0 x (omega arith))

-- how long a text is at most
pub behind-most : (t u : Text) (x : Bytes) (m n : ℕ) → u ≡ behind t x → t.length ≤ m → length x ≤ n → u.length ≤ m + n
behind-most t u x m n e h k = omega (arith, ap (λ y. y.length) e)

-- words laid one behind the other, and all of them at once
laid : Text → List Bytes → Text
laid t [] = t
laid t (x ∷ l) = laid (behind t x) l

joined : List Bytes → Bytes
joined [] = []
joined (x ∷ l) = x ++ joined l

laid-joined : (t : Text) (l : List Bytes) → Within t → laid t l ≡ behind t (joined l)
unfolding laid joined
laid-joined t [] h = let n : t.length ≡ t.length + 0 = omega arith in rw (pasted-none t.bytes t.length, ← n)
laid-joined t (x ∷ l) h = laid-joined (behind t x) l (pasted-reach t.bytes t.length x h) ∙ behind_more t x (joined l) h

pub accepted-is : (v t n : ℕ) (o a b c d e f : Text)
    → o ≡ text_of version_word → a ≡ behind o (decimal v) → b ≡ behind a epoch_word → c ≡ behind b (decimal t) → d ≡ behind c digests_word → e ≡ behind d (decimal n) → f ≡ behind e line_end
    → f ≡ text_of (accepted v t n)
unfolding laid joined
accepted-is v t n o a b c d e f e₀ e₁ e₂ e₃ e₄ e₅ e₆ =
    rw (e₆, e₅, e₄, e₃, e₂, e₁, e₀) (laid-joined empty (version_word ∷ decimal v ∷ epoch_word ∷ decimal t ∷ digests_word ∷ decimal n ∷ line_end ∷ []) (omega arith))

pub refused-is : (r : Refusal) (a b c : Text)
    → a ≡ text_of refused_word → b ≡ behind a (decimal (refusal_number r)) → c ≡ behind b line_end → c ≡ text_of (line (Err r))
unfolding laid joined
refused-is r a b c e₁ e₂ e₃ = rw (e₃, e₂, e₁) (laid-joined empty (refused_word ∷ decimal (refusal_number r) ∷ line_end ∷ []) (omega arith))
