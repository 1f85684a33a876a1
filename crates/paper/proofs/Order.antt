-- Bit order: strings of bits that part at a bit which is 0 in the first and 1 in the second. "Records stand in bit order and none is a
-- prefix of another", asked of neighbours, holds of all. Assumes nothing.
use mathlib.Core.Path.{◌≡◌, sym, ◌∙◌, subst}
use mathlib.Core.Logic.{⊎_elim}
use mathlib.Core.Bool.{true, false, true≢false, false≢true}
use mathlib.Core.List.{List, [], ◌∷◌}
use Rattle.paper.specs.Lists.{All}
use Rattle.paper.specs.Bits.{Bits, Pfx, starts, ◌▹◌, lcp}
use Rattle.paper.specs.Strings.{Node}
use Rattle.paper.specs.Tree.{key}
use Rattle.paper.specs.Audit.{before?}
pub use Rattle.paper.specs.Rules.{Before}
use Rattle.paper.proofs.Lists.{and_left, and_right, and_both}
use Rattle.paper.proofs.Bits.{pfx-trans, pfx-snoc, pfx-next, pfx-compare, pfx-one-way, starts-pfx, pfx-starts, lcp-left, lcp-right, lcp-most}
use Rattle.paper.proofs.Tree.{Apart, Free}

-- they part at their longest common prefix
pub before-lcp : (x y : Bits) (b : Before x y) → b.at ≡ lcp x y
before-lcp x y b = ⊎_elim (λ e. e)
    (λ (d, w). absurd (false≢true (pfx-one-way b.at false d b.low (pfx-trans w (lcp-left x y)) ∙ pfx-one-way b.at d true (pfx-trans w (lcp-right x y)) b.high)))
    (pfx-next (lcp-most b.at x y (pfx-trans (pfx-snoc b.at false) b.low) (pfx-trans (pfx-snoc b.at true) b.high)))

-- the test says what the relation says
pub test-before : (x y : Bits) → before? x y ≡ true → Before x y
unfolding before?
test-before x y e = record {
  at = lcp x y;
  low = starts-pfx _ x (and_left _ _ e);
  high = starts-pfx _ y (and_right (starts (lcp x y ▹ false) x) _ e);
}

pub before-test : (x y : Bits) → Before x y → before? x y ≡ true
unfolding before?
before-test x y b =
    let l : starts (lcp x y ▹ false) x ≡ true = pfx-starts _ x (subst (λ p. Pfx (p ▹ false) x) (before-lcp x y b) b.low) in
    and_both l (pfx-starts _ y (subst (λ p. Pfx (p ▹ true) y) (before-lcp x y b) b.high))

pub before-apart : (x y : Bits) → Before x y → (¬ Pfx x y) × (¬ Pfx y x)
before-apart x y b = (
  λ h. true≢false (pfx-one-way b.at true false b.high (pfx-trans b.low h)),
  λ h. true≢false (pfx-one-way b.at true false (pfx-trans b.high h) b.low),
)

pub before-trans : (x y z : Bits) → Before x y → Before y z → Before x z
before-trans x y z b c =
    ⊎_elim
    (λ h. ⊎_elim
    (λ e. absurd (same_at e))
    (λ (d, w). record { at = b.at; low = b.low; high = subst (λ t. Pfx (b.at ▹ t) z) (pfx-one-way b.at d true (pfx-trans w q) b.high) (pfx-trans w q') })
    (pfx-next h))
    (λ h. ⊎_elim
    (λ e. absurd (same_at (sym e)))
    (λ (d, w). record { at = c.at; low = subst (λ t. Pfx (c.at ▹ t) x) (pfx-one-way c.at d false (pfx-trans w p) c.low) (pfx-trans w p'); high = c.high })
    (pfx-next h))
    (pfx-compare b.at c.at y p q)
  where
    p : Pfx b.at y
    p = pfx-trans (pfx-snoc b.at true) b.high

    p' : Pfx b.at x
    p' = pfx-trans (pfx-snoc b.at false) b.low

    q : Pfx c.at y
    q = pfx-trans (pfx-snoc c.at false) c.low

    q' : Pfx c.at z
    q' = pfx-trans (pfx-snoc c.at true) c.high

    same_at : b.at ≡ c.at → ⊥
    same_at e = true≢false (pfx-one-way c.at true false (subst (λ t. Pfx (t ▹ true) y) e b.high) c.low)

-- each stands before the next
abbrev pub Rising : List Node → Type 0
Rising [] = Unit {0}
Rising (x ∷ []) = Unit {0}
Rising (x ∷ y ∷ S) = Before (key x) (key y) × Rising (y ∷ S)

rising-all : (x y : Node) (S : List Node) → Before (key x) (key y) → Rising (y ∷ S) → All (Apart x) (y ∷ S)
rising-all x y [] b h = (before-apart _ _ b, tt)
rising-all x y (z ∷ S) b h = (before-apart _ _ b, rising-all x z S (before-trans (key x) (key y) (key z) b h.0) h.1)

-- so none is a prefix of another
pub rising-free : (S : List Node) → Rising S → Free S
rising-free [] h = tt
rising-free (x ∷ []) h = (tt, tt)
rising-free (x ∷ y ∷ S) h = (rising-all x y S h.0 h.1, rising-free (y ∷ S) h.1)
