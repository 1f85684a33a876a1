-- Laws of prefixes and of the longest common prefix. Assumes nothing.
use mathlib.Core.Path.{◌≡◌, refl, sym, ap, ◌∙◌}
use mathlib.Core.Logic.{◌⊎◌, inl, inr, ⊎_elim}
use mathlib.Core.Bool.{Bool, true, false, beq}
use mathlib.Core.List.{[], ◌∷◌, ◌++◌, append_assoc, append-nil, append_cancel_left, cons≢nil, head-eq_of_cons-eq, tail-eq_of_cons-eq}
use Prim.Native.Nat.{ℕ, suc, ◌≤◌, ◌<◌}
use native.Mathlib.Omega.{arith}
use lib.ListN.{length, length-append, take, drop, get_or, take-append-drop}
use lib.Seq.{take-suc}
use Rattle.paper.specs.Bits.{Bits, Pfx, ◌▹◌, starts, lcp}
use Rattle.paper.proofs.Lists.{and_left, and_right, and_both, not-both}

pub pfx-nil : (x : Bits) → Pfx [] x
pfx-nil x = record { rest = x; eq = refl }

pub pfx-refl : (x : Bits) → Pfx x x
pfx-refl x = record { rest = []; eq = append-nil x }

pub pfx-trans : {p q x : Bits} → Pfx p q → Pfx q x → Pfx p x
pfx-trans {p} h k = record { rest = h.rest ++ k.rest; eq = sym (append_assoc p h.rest k.rest) ∙ ap (λ q. q ++ k.rest) h.eq ∙ k.eq }

pub pfx-cons : (b : Bool) {p x : Bits} → Pfx p x → Pfx (b ∷ p) (b ∷ x)
pfx-cons b h = record { rest = h.rest; eq = ap (λ l. b ∷ l) h.eq }

pub pfx-app : (a : Bits) {p x : Bits} → Pfx p x → Pfx (a ++ p) (a ++ x)
pfx-app a {p} h = record { rest = h.rest; eq = append_assoc a p h.rest ∙ ap (λ t. a ++ t) h.eq }

pub pfx-snoc : (p : Bits) (b : Bool) → Pfx p (p ▹ b)
pfx-snoc p b = record { rest = b ∷ []; eq = refl }

pub pfx-take : (n : ℕ) (x : Bits) → Pfx (take n x) x
pfx-take n x = record { rest = drop n x; eq = take-append-drop n x }

pub pfx-length : {p x : Bits} → Pfx p x → length p ≤ length x
pfx-length {p} h = omega (arith, length-append p h.rest, ap length h.eq)

pub length-snoc : (p : Bits) (b : Bool) → length (p ▹ b) ≡ suc (length p)
length-snoc p b = omega (arith, length-append p (b ∷ []))

-- a prefix is the whole, or goes on with a bit
pub pfx-next : {p x : Bits} → Pfx p x → (p ≡ x) ⊎ ((b : Bool) × Pfx (p ▹ b) x)
pfx-next {p} {x} h = go h.rest h.eq
  where
    go : (s : Bits) → p ++ s ≡ x → (p ≡ x) ⊎ ((b : Bool) × Pfx (p ▹ b) x)
    go [] e = inl (sym (append-nil p) ∙ e)
    go (b ∷ s) e = inr (b, record { rest = s; eq = append_assoc p (b ∷ []) s ∙ e })

-- a prefix that is not shorter is the whole
pub pfx-full : {p x : Bits} → Pfx p x → length x ≤ length p → p ≡ x
pfx-full {p} {x} h k = ⊎_elim (λ e. e) (λ w. absurd (omega (arith, pfx-length w.1, length-snoc p w.0))) (pfx-next h)

-- a label goes one way only
pub pfx-one-way : (p : Bits) {x : Bits} (b c : Bool) → Pfx (p ▹ b) x → Pfx (p ▹ c) x → b ≡ c
pfx-one-way p b c h k =
    head-eq_of_cons-eq (append_cancel_left p _ _ (sym (append_assoc p (b ∷ []) h.rest) ∙ h.eq ∙ sym k.eq ∙ append_assoc p (c ∷ []) k.rest))

-- the prefix of a label and the bit after it
pub pfx-bit : (x : Bits) (k : ℕ) → k < length x → Pfx (take k x ▹ get_or x k false) x
pfx-bit x k h = rw (← (take-suc x k false h)) (pfx-take (suc k) x)

pfx-tail : {a b : Bool} {p x : Bits} → Pfx (a ∷ p) (b ∷ x) → Pfx p x
pfx-tail h = record { rest = h.rest; eq = tail-eq_of_cons-eq h.eq }

-- of two prefixes of one label one is a prefix of the other
pub pfx-compare : (p q x : Bits) → Pfx p x → Pfx q x → Pfx p q ⊎ Pfx q p
pfx-compare [] q x h k = inl (pfx-nil q)
pfx-compare (a ∷ p) [] x h k = inr (pfx-nil (a ∷ p))
pfx-compare (a ∷ p) (b ∷ q) [] h k = absurd (cons≢nil h.eq)
pfx-compare (a ∷ p) (b ∷ q) (c ∷ x) h k = ⊎_elim (λ w. inl (rw ab (pfx-cons b w))) (λ w. inr (rw ab (pfx-cons b w))) (pfx-compare p q x (pfx-tail h) (pfx-tail k))
  where
    ab : a ≡ b
    ab = head-eq_of_cons-eq h.eq ∙ sym (head-eq_of_cons-eq k.eq)

-- the test says what the relation says
beq-true : (a b : Bool) → beq a b ≡ true → a ≡ b
beq-true true true e = refl
beq-true true false e = sym e
beq-true false true e = e
beq-true false false e = refl

beq-refl : (a : Bool) → beq a a ≡ true
beq-refl true = refl
beq-refl false = refl

pub starts-pfx : (p x : Bits) → starts p x ≡ true → Pfx p x
unfolding starts
starts-pfx [] x e = pfx-nil x
starts-pfx (a ∷ p) [] e = not-both e refl
starts-pfx (a ∷ p) (b ∷ x) e = rw (beq-true a b (and_left _ _ e)) (pfx-cons b (starts-pfx p x (and_right (beq a b) _ e)))

pub pfx-starts : (p x : Bits) → Pfx p x → starts p x ≡ true
unfolding starts
pfx-starts [] x h = refl
pfx-starts (a ∷ p) [] h = absurd (cons≢nil h.eq)
pfx-starts (a ∷ p) (b ∷ x) h =
    let e : beq a b ≡ true = rw (head-eq_of_cons-eq h.eq) (beq-refl b) in
    and_both e (pfx-starts p x (pfx-tail h))

pub no-pfx : (p x : Bits) → starts p x ≡ false → ¬ Pfx p x
no-pfx p x e h = not-both (pfx-starts p x h) e

-- the longest common prefix is a prefix of both
pub lcp-left : (x y : Bits) → Pfx (lcp x y) x
unfolding lcp
lcp-left [] y = pfx-nil []
lcp-left (a ∷ x) [] = pfx-nil _
lcp-left (true ∷ x) (true ∷ y) = pfx-cons true (lcp-left x y)
lcp-left (false ∷ x) (false ∷ y) = pfx-cons false (lcp-left x y)
lcp-left (true ∷ x) (false ∷ y) = pfx-nil _
lcp-left (false ∷ x) (true ∷ y) = pfx-nil _

pub lcp-comm : (x y : Bits) → lcp x y ≡ lcp y x
unfolding lcp
lcp-comm [] [] = refl
lcp-comm [] (b ∷ y) = refl
lcp-comm (a ∷ x) [] = refl
lcp-comm (true ∷ x) (true ∷ y) = ap (λ l. true ∷ l) (lcp-comm x y)
lcp-comm (false ∷ x) (false ∷ y) = ap (λ l. false ∷ l) (lcp-comm x y)
lcp-comm (true ∷ x) (false ∷ y) = refl
lcp-comm (false ∷ x) (true ∷ y) = refl

pub lcp-right : (x y : Bits) → Pfx (lcp x y) y
lcp-right x y = rw (lcp-comm x y) (lcp-left y x)

lcp-same : (a : Bool) (x y : Bits) → lcp (a ∷ x) (a ∷ y) ≡ a ∷ lcp x y
unfolding lcp
lcp-same true x y = refl
lcp-same false x y = refl

pfx-uncons : {a : Bool} {q : Bits} (x : Bits) → Pfx (a ∷ q) x → (r : Bits) × (x ≡ a ∷ r) × Pfx q r
pfx-uncons [] h = absurd (cons≢nil h.eq)
pfx-uncons (b ∷ x) h = (x, ap (λ c. c ∷ x) (sym (head-eq_of_cons-eq h.eq)), pfx-tail h)

-- and every common prefix is a prefix of it
pub lcp-most : (q x y : Bits) → Pfx q x → Pfx q y → Pfx q (lcp x y)
lcp-most [] x y h k = pfx-nil _
lcp-most (a ∷ q) x y h k =
    let (r, e, u) = pfx-uncons x h in
    let (s, f, v) = pfx-uncons y k in
    rw (e, f, lcp-same) (pfx-cons a (lcp-most q r s u v))
