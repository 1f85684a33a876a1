-- The sentences of "The tree over a set of labels" as laws of the definition: what the common prefix is, what stands on each side,
-- nothing / a leaf / an inner node below the root, and that the tree depends on the set alone. Assumes nothing.
use mathlib.Core.Path.{◌≡◌, refl, ap, ap₂, ◌∙◌}
use mathlib.Core.Logic.{inl, inr, ⊎_elim}
use mathlib.Core.Bool.{Bool, true, false, cond, not}
use mathlib.Core.List.{List, [], ◌∷◌}
use Prim.Native.Nat.{ℕ, zero, suc, ◌+◌, ◌<◌, ◌≤◌}
use native.Mathlib.Omega.{arith}
use lib.ListN.{length}
use Rattle.paper.specs.Lists.{◌∈◌, All, keep}
use Rattle.paper.specs.Bits.{Bits, Pfx, starts, ◌▹◌}
use Rattle.paper.specs.Strings.{Node}
use Rattle.paper.specs.Tree.{key, empty, one, fork, common, side, build, root}
pub use Rattle.paper.specs.Tree.{Apart, Free, Below, SameSet}
use Rattle.paper.proofs.Lists.{all_in, in-all, keep-passes, keep_all, in-keep, keep-in}
use Rattle.paper.proofs.Bits.{pfx-refl, pfx-trans, pfx-next, pfx-full, pfx-length, length-snoc, starts-pfx, pfx-starts, lcp-left, lcp-right, lcp-most}

-- ---- "their longest common prefix"

pub common-pfx : (x : Node) (S : List Node) (y : Node) → y ∈ (x ∷ S) → Pfx (common x S) (key y)
unfolding common
common-pfx x [] y (inl e) = rw e (pfx-refl _)
common-pfx x (z ∷ S) y (inl e) = rw e (lcp-left _ _)
common-pfx x (z ∷ S) y (inr m) = pfx-trans (lcp-right _ _) (common-pfx z S y m)
common-pfx x [] y (inr m) = elim m [ ]

pub common-most : (q : Bits) (x : Node) (S : List Node) → All (λ y. Pfx q (key y)) (x ∷ S) → Pfx q (common x S)
unfolding common
common-most q x [] h = h.0
common-most q x (z ∷ S) h = lcp-most _ _ _ h.0 (common-most q z S h.1)

-- ---- "the bit after the prefix sends each label left (0) or right (1)"

pub side-all : (P : Node → Type 0) (q : Bits) (S : List Node) → All P S → All P (side q S)
unfolding side
side-all P q S h = keep_all P _ S h

pub side-below : (q : Bits) (S : List Node) → All (λ y. Pfx q (key y)) (side q S)
unfolding side
side-below q S = in-all _ (side q S) (λ y m. starts-pfx q (key y) (all_in (λ y. starts q (key y) ≡ true) (side q S) (keep-passes (λ y. starts q (key y)) S) y m))

pub in-side : (q : Bits) (S : List Node) (x : Node) → x ∈ S → Pfx q (key x) → x ∈ side q S
unfolding side
in-side q S x m h = in-keep (λ y. starts q (key y)) S x m (pfx-starts q (key x) h)

pub side-in : (q : Bits) (S : List Node) (x : Node) → x ∈ side q S → x ∈ S
unfolding side
side-in q S x m = keep-in (λ y. starts q (key y)) S x m

pub keep-free : (t : Node → Bool) (S : List Node) → Free S → Free (keep t S)
unfolding keep
keep-free t [] h = tt
keep-free t (x ∷ S) h = by (t x) (keep-free t S h.1)
  where
    by : (b : Bool) → Free (keep t S) → Free (cond b (x ∷ keep t S) (keep t S))
    by true k = (keep_all (Apart x) t S h.0, k)
    by false k = k

pub side-free : (q : Bits) (S : List Node) → Free S → Free (side q S)
unfolding side
side-free q S h = keep-free _ S h

-- of two or more, each has a bit after the common prefix
pub common-next : (a b : Node) (S : List Node) → Free (a ∷ b ∷ S) → (x : Node) → x ∈ (a ∷ b ∷ S) → (c : Bool) × Pfx (common a (b ∷ S) ▹ c) (key x)
common-next a b S f x m = ⊎_elim (λ e. absurd (no-end m e)) (λ w. w) (pfx-next (common-pfx a (b ∷ S) x m))
  where
    no-end : x ∈ (a ∷ b ∷ S) → common a (b ∷ S) ≡ key x → ⊥
    no-end (inl e) h = f.0.0.0 (rw (← (ap key e), ← h) (common-pfx a (b ∷ S) b (inr (inl refl))))
    no-end (inr k) h = (all_in (Apart a) (b ∷ S) f.0 x k).1 (rw (← h) (common-pfx a (b ∷ S) a (inl refl)))

-- "It alone may have "nothing" as a child.": below the root no side is empty
pub sides-full : (a b : Node) (S : List Node) → Free (a ∷ b ∷ S) → (d : Bool) → ¬ (side (common a (b ∷ S) ▹ d) (a ∷ b ∷ S) ≡ [])
sides-full a b S f d e =
    omega (arith, length-snoc p (not d), pfx-length (common-most (p ▹ not d) a (b ∷ S) (in-all _ (a ∷ b ∷ S) (λ x m. let (c, w) = common-next a b S f x m in turn c d x m w e))))
  where
    p : Bits
    p = common a (b ∷ S)

    turn : (c d : Bool) (x : Node) → x ∈ (a ∷ b ∷ S) → Pfx (p ▹ c) (key x) → side (p ▹ d) (a ∷ b ∷ S) ≡ [] → Pfx (p ▹ not d) (key x)
    turn true true x m w e = absurd (rw e at (in-side (p ▹ true) (a ∷ b ∷ S) x m w))
    turn false false x m w e = absurd (rw e at (in-side (p ▹ false) (a ∷ b ∷ S) x m w))
    turn true false x m w e = w
    turn false true x m w e = w

-- ---- "Below it, no labels give nothing; one label gives its leaf; more give an inner node .."

-- steps beyond enough change nothing: no label is longer than N, all begin with q
pub build-enough : (N n m : ℕ) (q : Bits) (S : List Node) → Free S → All (λ y. length (key y) ≤ N) S → All (λ y. Pfx q (key y)) S
    → N < n + length q → N < m + length q → build n S ≡ build m S
unfolding build
build-enough N zero zero q S f b h k l = refl
build-enough N zero (suc m) q [] f b h k l = refl
build-enough N zero (suc m) q (x ∷ S) f b h k l = absurd (omega (arith, pfx-length h.0))
build-enough N (suc n) zero q [] f b h k l = refl
build-enough N (suc n) zero q (x ∷ S) f b h k l = absurd (omega (arith, pfx-length h.0))
build-enough N (suc n) (suc m) q [] f b h k l = refl
build-enough N (suc n) (suc m) q (x ∷ []) f b h k l = refl
build-enough N (suc n) (suc m) q (x ∷ y ∷ r) f b h k l =
    let S = x ∷ y ∷ r in
    let p = common x (y ∷ r) in
    let e = pfx-length (common-most q x (y ∷ r) h) in
    let half : (d : Bool) → build n (side (p ▹ d) S) ≡ build m (side (p ▹ d) S) = λ d.
    build-enough N n m (p ▹ d) (side (p ▹ d) S) (side-free _ S f) (side-all _ _ S b) (side-below _ S) (omega (arith, length-snoc p d)) (omega (arith, length-snoc p d)) in
    ap₂ (fork p) (half false) (half true)

pub below_none : build 256 [] ≡ empty
unfolding build
below_none = refl

pub below_one : (x : Node) → build 256 (x ∷ []) ≡ one x
unfolding build
below_one x = refl

build-step : (n : ℕ) (x y : Node) (S : List Node)
    → build (suc n) (x ∷ y ∷ S) ≡ fork (common x (y ∷ S)) (build n (side (common x (y ∷ S) ▹ false) (x ∷ y ∷ S))) (build n (side (common x (y ∷ S) ▹ true) (x ∷ y ∷ S)))
unfolding build
build-step n x y S = refl

pub below_more : (x y : Node) (S : List Node) → Below (x ∷ y ∷ S)
    → build 256 (x ∷ y ∷ S) ≡ fork (common x (y ∷ S)) (build 256 (side (common x (y ∷ S) ▹ false) (x ∷ y ∷ S))) (build 256 (side (common x (y ∷ S) ▹ true) (x ∷ y ∷ S)))
below_more x y S w = build-step 255 x y S ∙ ap₂ (fork p) (half false) (half true)
  where
    p : Bits
    p = common x (y ∷ S)

    long : 1 ≤ length p
    long = pfx-length (common-most ([] ▹ w.bit) x (y ∷ S) w.shares)

    half : (d : Bool) → build 255 (side (p ▹ d) (x ∷ y ∷ S)) ≡ build 256 (side (p ▹ d) (x ∷ y ∷ S))
    half d = build-enough 256 255 256 (p ▹ d) (side (p ▹ d) (x ∷ y ∷ S)) (side-free _ (x ∷ y ∷ S) w.free) (side-all _ _ (x ∷ y ∷ S) w.short) (side-below _ (x ∷ y ∷ S)) (omega (arith, long, length-snoc p d)) (omega (arith, length-snoc p d))

-- ---- "The tree over a set of labels": the order of the list does not matter

pfx-antisym : {p q : Bits} → Pfx p q → Pfx q p → p ≡ q
pfx-antisym h k = pfx-full h (pfx-length k)

same-common : (x : Node) (S : List Node) (y : Node) (R : List Node) → SameSet (x ∷ S) (y ∷ R) → common x S ≡ common y R
same-common x S y R e = pfx-antisym
    (common-most _ y R (in-all _ (y ∷ R) (λ z m. common-pfx x S z ((e z).1 m))))
    (common-most _ x S (in-all _ (x ∷ S) (λ z m. common-pfx y R z ((e z).0 m))))

same-side : (q : Bits) (S R : List Node) → SameSet S R → SameSet (side q S) (side q R)
same-side q S R e x = (
  λ m. in-side q R x ((e x).0 (side-in q S x m)) (all_in _ (side q S) (side-below q S) x m),
  λ m. in-side q S x ((e x).1 (side-in q R x m)) (all_in _ (side q R) (side-below q R) x m),
)

-- two that are the same are not apart
not-apart : (x y z : Node) (S : List Node) → Free (y ∷ z ∷ S) → SameSet (x ∷ []) (y ∷ z ∷ S) → ⊥
not-apart x y z S f e = f.0.0.0 (rw (only y (inl refl), ← (only z (inr (inl refl)))) (pfx-refl (key z)))
  where
    only : (w : Node) → w ∈ (y ∷ z ∷ S) → w ≡ x
    only w m = ⊎_elim (λ p. p) (λ b. absurd b) ((e w).1 m)

pub build-same : (n : ℕ) (S R : List Node) → Free S → Free R → SameSet S R → build n S ≡ build n R
unfolding build
build-same zero S R f g e = refl
build-same (suc n) [] [] f g e = refl
build-same (suc n) [] (y ∷ R) f g e = absurd ((e y).1 (inl refl))
build-same (suc n) (x ∷ []) [] f g e = absurd ((e x).0 (inl refl))
build-same (suc n) (x ∷ z ∷ S) [] f g e = absurd ((e x).0 (inl refl))
build-same (suc n) (x ∷ []) (y ∷ []) f g e = ap one (⊎_elim (λ p. p) (λ b. absurd b) ((e x).0 (inl refl)))
build-same (suc n) (x ∷ []) (y ∷ w ∷ R) f g e = absurd (not-apart x y w R g e)
build-same (suc n) (x ∷ z ∷ S) (y ∷ []) f g e = absurd (not-apart y x z S f (λ w. ((e w).1, (e w).0)))
build-same (suc n) (x ∷ z ∷ S) (y ∷ w ∷ R) f g e =
    let p = common x (z ∷ S) in
    let q = common y (w ∷ R) in
    let c : p ≡ q = same-common x (z ∷ S) y (w ∷ R) e in
    let half : (d : Bool) → build n (side (p ▹ d) (x ∷ z ∷ S)) ≡ build n (side (q ▹ d) (y ∷ w ∷ R)) = λ d.
    build-same n (side (p ▹ d) (x ∷ z ∷ S)) (side (p ▹ d) (y ∷ w ∷ R)) (side-free _ (x ∷ z ∷ S) f) (side-free _ (y ∷ w ∷ R) g) (same-side (p ▹ d) (x ∷ z ∷ S) (y ∷ w ∷ R) e)
    ∙ ap (λ p. build n (side (p ▹ d) (y ∷ w ∷ R))) c in
    cc (c, half false, half true)

pub root-same : (S R : List Node) → Free S → Free R → SameSet S R → root S ≡ root R
unfolding root
root-same S R f g e =
    let half : (d : Bool) → build 256 (side ([] ▹ d) S) ≡ build 256 (side ([] ▹ d) R) = λ d.
    build-same 256 (side ([] ▹ d) S) (side ([] ▹ d) R) (side-free _ S f) (side-free _ R g) (same-side ([] ▹ d) S R e) in
    ap₂ (fork []) (half false) (half true)
