-- What a digest shows of a label. A label walks down from a digest, node by node, to a leaf that is its own or to where it is absent.
-- Where no two nodes that were hashed have one digest, there is one such walk. Assumes nothing.
use mathlib.Core.Path.{◌≡◌, refl, sym, ap, ◌∙◌, subst}
use mathlib.Core.Logic.{◌↔◌}
use mathlib.Core.Bool.{Bool, true, false, cond, false≢true}
use Prim.Native.Nat.{ℕ}
use native.Mathlib.Omega.{arith}
use lib.Dec.{eqb}
use lib.ListN.{length}
use borrow.Author.Tests.{eqb-true, eq-eqb}
use Rattle.paper.specs.Bytes.{Bytes}
use Rattle.paper.specs.Bits.{Bits, Pfx, starts, ◌▹◌}
use Rattle.paper.specs.Strings.{Node, leaf, inner, nothing}
use Rattle.paper.specs.Tree.{digest}
use Rattle.paper.specs.Path.{same_bits}
use Rattle.paper.proofs.Lists.{and_left, and_right, and_both}
use Rattle.paper.proofs.Bits.{pfx-refl, pfx-full, pfx-one-way, pfx-trans, pfx-snoc, starts-pfx, pfx-starts}

-- ---- the tests of labels and prefixes

pub same_bits-eq : (x y : Bits) → same_bits x y ≡ true → x ≡ y
unfolding same_bits
same_bits-eq x y e =
    let n : length x ≡ length y = eqb-true _ _ (and_left _ _ e) in
    pfx-full (starts-pfx x y (and_right (eqb (length x) (length y)) _ e)) (omega arith)

pub eq-same_bits : (x y : Bits) → x ≡ y → same_bits x y ≡ true
unfolding same_bits
eq-same_bits x y e =
    let n : eqb (length x) (length y) ≡ true = eq-eqb _ _ (ap length e) in
    and_both n (pfx-starts x y (rw e (pfx-refl y)))

-- a test that cannot pass fails
pub fails : (b : Bool) → ¬ (b ≡ true) → b ≡ false
fails true n = absurd (n refl)
fails false n = refl

pub no-starts : (p x : Bits) → ¬ Pfx p x → starts p x ≡ false
no-starts p x n = fails (starts p x) (λ e. n (starts-pfx p x e))

-- ---- what one node says of a label

-- what a label's walk comes to
pub data Found : Type 0 where
  absent : Found
  present : Bytes → ℕ → Found

-- one node: go on at a child's digest, or stop
pub data Look : Type 0 where
  go : Bytes → Look
  stop : Found → Look

unfoldable pub look : Bits → Node → Look
look L (leaf m c e) = cond (same_bits m L) (stop (present c e)) (stop absent)
look L (inner p l r) = cond (starts (p ▹ false) L) (go l) (cond (starts (p ▹ true) L) (go r) (stop absent))
look L nothing = stop absent

pub look-leaf : (L : Bits) (c : Bytes) (e : ℕ) → look L (leaf L c e) ≡ stop (present c e)
unfolding look
look-leaf L c e = rw (eq-same_bits L L refl)

pub look-other : (L m : Bits) (c : Bytes) (e : ℕ) → ¬ (m ≡ L) → look L (leaf m c e) ≡ stop absent
unfolding look
look-other L m c e n = rw (fails (same_bits m L) (λ q. n (same_bits-eq m L q)))

pub look-down : (L p : Bits) (b : Bool) (l r : Bytes) → Pfx (p ▹ b) L → look L (inner p l r) ≡ go (cond b r l)
unfolding look
look-down L p false l r h = rw (pfx-starts (p ▹ false) L h)
look-down L p true l r h = rw (no-starts (p ▹ false) L (λ k. false≢true (pfx-one-way p false true k h)), pfx-starts (p ▹ true) L h)

pub look-neither : (L p : Bits) (l r : Bytes) → ¬ Pfx (p ▹ false) L → ¬ Pfx (p ▹ true) L → look L (inner p l r) ≡ stop absent
unfolding look
look-neither L p l r n m = rw (no-starts (p ▹ false) L n, no-starts (p ▹ true) L m)

pub look-off : (L p : Bits) (l r : Bytes) → ¬ Pfx p L → look L (inner p l r) ≡ stop absent
look-off L p l r n = look-neither L p l r (λ k. n (pfx-trans (pfx-snoc p false) k)) (λ k. n (pfx-trans (pfx-snoc p true) k))

-- ---- the walk

-- the nodes that were hashed, of which no two have one digest
pub record World : Type 1 where
  pub In : Node → Type 0
  pub inj : (x y : Node) → In x → In y → digest x ≡ digest y → x ≡ y

pub data Walk (W : World) (L : Bits) : Bytes → Found → Type 0 where
  ends : {d : Bytes} {r : Found} (x : Node) → W.In x → digest x ≡ d → look L x ≡ stop r → Walk W L d r
  steps : {d d' : Bytes} {r : Found} (x : Node) → W.In x → digest x ≡ d → look L x ≡ go d' → Walk W L d' r → Walk W L d r

module _ (W : World) (L : Bits) where
  -- from d and from d' the walk comes to the same
  abbrev pub Same : Bytes → Bytes → Type 0
  Same d d' = (r : Found) → Walk W L d r ↔ Walk W L d' r

  walk-down : {d d' : Bytes} {r : Found} (x : Node) → W.In x → digest x ≡ d → look L x ≡ go d' → Walk W L d r → Walk W L d' r
  walk-down x i h l (ends y j k m) =
      let e = W.inj x y i j (h ∙ sym k) in
      let z : ◌≡◌ {A = ℕ} 0 1 = cc in absurd (omega arith)
  walk-down {d' = d'} {r = r} x i h l (steps {d' = d''} y j k m w) =
      let e = W.inj x y i j (h ∙ sym k) in
      let q : d'' ≡ d' = cc in
      subst (λ d. Walk W L d r) q w

  pub same_step : {d d' : Bytes} (x : Node) → W.In x → digest x ≡ d → look L x ≡ go d' → Same d d'
  same_step x i h l r = (walk-down x i h l, steps x i h l)

  pub same-trans : {a b c : Bytes} → Same a b → Same b c → Same a c
  same-trans f g r = (λ w. (g r).0 ((f r).0 w), λ w. (f r).1 ((g r).1 w))

  -- what a digest shows of a label is unique
  pub walk-unique : {d : Bytes} {r s : Found} → Walk W L d r → Walk W L d s → r ≡ s
  walk-unique (ends x i h l) (ends y j k m) =
      let e = W.inj x y i j (h ∙ sym k) in cc
  walk-unique (ends x i h l) (steps y j k m w) =
      let e = W.inj x y i j (h ∙ sym k) in cc
  walk-unique (steps x i h l w) v = walk-unique w (walk-down x i h l v)
