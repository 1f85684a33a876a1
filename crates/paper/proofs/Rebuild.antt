-- A tree is determined by what stands alone in it, and a list in two parts, one on each side of a prefix, gives a fork. Assumes nothing.
use mathlib.Core.Path.{◌≡◌, refl, sym, ap, ap₂, ◌∙◌, subst}
use mathlib.Core.Logic.{inl, ⊎_elim}
use mathlib.Core.Bool.{Bool, true, false, false≢true, true≢false}
use mathlib.Core.List.{List, [], ◌∷◌, ◌++◌, append-nil}
use Prim.Native.Nat.{ℕ, zero, suc, ◌+◌, ◌<◌}
use native.Mathlib.Omega.{arith}
use lib.ListN.{length}
use Rattle.paper.specs.Lists.{◌∈◌, All}
use Rattle.paper.specs.Bits.{Bits, Pfx, ◌▹◌}
use Rattle.paper.specs.Strings.{Node}
use Rattle.paper.specs.Tree.{key, Tree, fork, common, side, build}
use Rattle.paper.proofs.Lists.{all_in, in-all, all_append, keep_append, in_right, keep-every, keep-none}
use Rattle.paper.proofs.Bits.{pfx-trans, pfx-snoc, pfx-next, pfx-length, length-snoc, pfx-one-way, pfx-starts}
use Rattle.paper.proofs.Tree.{common-pfx, common-most}
use Rattle.paper.proofs.Walk.{no-starts}
use Rattle.paper.proofs.Way.{Grown, single, forked, entries, grown-length}

-- all of a list begin with p and the bit b
abbrev pub Beyond : Bits → Bool → List Node → Type 0
Beyond p b S = All (λ x. Pfx (p ▹ b) (key x)) S

-- the side of a bit is the part that has it
pub side-here : (p : Bits) (b : Bool) (S : List Node) → Beyond p b S → side (p ▹ b) S ≡ S
unfolding side
side-here p b S h = keep-every _ S (in-all _ S (λ x m. pfx-starts _ (key x) (all_in _ S h x m)))

pub side-there : (p : Bits) (b c : Bool) (S : List Node) → ¬ (b ≡ c) → Beyond p b S → side (p ▹ c) S ≡ []
unfolding side
side-there p b c S n h = keep-none _ S (in-all _ S (λ x m. no-starts _ (key x) (λ k. n (pfx-one-way p b c (all_in _ S h x m) k))))

side-append : (q : Bits) (A B : List Node) → side q (A ++ B) ≡ side q A ++ side q B
unfolding side
side-append q A B = keep_append _ A B

pub side-low : (p : Bits) (A B : List Node) → Beyond p false A → Beyond p true B → side (p ▹ false) (A ++ B) ≡ A
side-low p A B a b = side-append (p ▹ false) A B ∙ ap₂ (λ x y. x ++ y) (side-here p false A a) (side-there p true false B true≢false b) ∙ append-nil A

pub side-high : (p : Bits) (A B : List Node) → Beyond p false A → Beyond p true B → side (p ▹ true) (A ++ B) ≡ B
side-high p A B a b = side-append (p ▹ true) A B ∙ ap₂ (λ x y. x ++ y) (side-there p false true A false≢true a) (side-here p true B b)

-- what two parts share is p
common-parts : (p : Bits) (x : Node) (S : List Node) → All (λ y. Pfx p (key y)) (x ∷ S) → (a b : Node) → a ∈ (x ∷ S) → b ∈ (x ∷ S) → Pfx (p ▹ false) (key a) → Pfx (p ▹ true) (key b) → common x S ≡ p
common-parts p x S h a b ma mb ha hb = ⊎_elim
    (λ e. sym e)
    (λ (d, w). absurd (false≢true (pfx-one-way p false d ha (pfx-trans w (common-pfx x S a ma)) ∙ pfx-one-way p d true (pfx-trans w (common-pfx x S b mb)) hb)))
    (pfx-next (common-most p x S h))

-- two or more give a fork at what they share
build-fork : (n : ℕ) (x : Node) (S : List Node) (p : Bits) → ¬ (S ≡ []) → common x S ≡ p
    → build (suc n) (x ∷ S) ≡ fork p (build n (side (p ▹ false) (x ∷ S))) (build n (side (p ▹ true) (x ∷ S)))
unfolding build
build-fork n x [] p h e = absurd (h refl)
build-fork n x (y ∷ S) p h e = ap (λ q. fork q (build n (side (q ▹ false) (x ∷ y ∷ S))) (build n (side (q ▹ true) (x ∷ y ∷ S)))) e

not-empty : {A : Type 0} (l : List A) (a : A) (m : List A) → ¬ ((l ++ (a ∷ m)) ≡ [])
not-empty [] a m e = let z : ◌≡◌ {A = ℕ} 0 1 = cc in omega arith
not-empty (b ∷ l) a m e = let z : ◌≡◌ {A = ℕ} 0 1 = cc in omega arith

-- neither of two parts is empty: they share the prefix behind which they part
pub parts-common : (p : Bits) (x : Node) (A : List Node) (y : Node) (B : List Node) → Beyond p false (x ∷ A) → Beyond p true (y ∷ B) → common x (A ++ (y ∷ B)) ≡ p
parts-common p x A y B a b = common-parts p x (A ++ (y ∷ B)) shared x y (inl refl) (in_right y (x ∷ A) (y ∷ B) (inl refl)) a.0 b.0
  where
    shared : All (λ z. Pfx p (key z)) (x ∷ (A ++ (y ∷ B)))
    shared = all_append _ (x ∷ A) (y ∷ B) (in-all _ (x ∷ A) (λ z m. pfx-trans (pfx-snoc p false) (all_in _ (x ∷ A) a z m))) (in-all _ (y ∷ B) (λ z m. pfx-trans (pfx-snoc p true) (all_in _ (y ∷ B) b z m)))

-- and give a fork
pub build-parts : (n : ℕ) (p : Bits) (x : Node) (A : List Node) (y : Node) (B : List Node) → Beyond p false (x ∷ A) → Beyond p true (y ∷ B)
    → build (suc n) ((x ∷ A) ++ (y ∷ B)) ≡ fork p (build n (x ∷ A)) (build n (y ∷ B))
build-parts n p x A y B a b =
    build-fork n x (A ++ (y ∷ B)) p (not-empty A y B) (parts-common p x A y B a b)
    ∙ ap₂ (λ l r. fork p (build n l) (build n r)) (side-low p (x ∷ A) (y ∷ B) a b) (side-high p (x ∷ A) (y ∷ B) a b)

-- ---- a tree from what stands alone in it

-- all that stands alone in a grown tree begins with its prefix, and something does
pub grown-below : (q : Bits) (t : Tree) → Grown q t → All (λ x. Pfx q (key x)) (entries t)
grown-below q t (single x h k) = (h, tt)
grown-below q t (forked p l r h gl gr) =
    all_append _ (entries l) (entries r)
    (in-all _ (entries l) (λ x m. pfx-trans h (pfx-trans (pfx-snoc p false) (all_in _ (entries l) (grown-below (p ▹ false) l gl) x m))))
    (in-all _ (entries r) (λ x m. pfx-trans h (pfx-trans (pfx-snoc p true) (all_in _ (entries r) (grown-below (p ▹ true) r gr) x m))))

pub grown-some : (q : Bits) (t : Tree) → Grown q t → (x : Node) × (S : List Node) × (entries t ≡ x ∷ S)
grown-some q t (single x h k) = (x, [], refl)
grown-some q t (forked p l r h gl gr) = let (x, S, e) = grown-some (p ▹ false) l gl in (x, S ++ entries r, ap (λ l. l ++ entries r) e)

pub rebuild : (n : ℕ) (q : Bits) (t : Tree) → Grown q t → 256 < n + length q → build n (entries t) ≡ t
unfolding build
rebuild zero q t g k = absurd (omega (arith, grown-length q t g))
rebuild (suc n) q t (single x h l) k = refl
rebuild (suc n) q t (forked p l r h gl gr) k =
    let (x, A, el) = grown-some (p ▹ false) l gl in
    let (y, B, er) = grown-some (p ▹ true) r gr in
    let a : Beyond p false (x ∷ A) = subst (λ S. Beyond p false S) el (grown-below (p ▹ false) l gl) in
    let b : Beyond p true (y ∷ B) = subst (λ S. Beyond p true S) er (grown-below (p ▹ true) r gr) in
    ap₂ (λ u v. build (suc n) (u ++ v)) el er ∙ build-parts n p x A y B a b
    ∙ ap₂ (λ u v. fork p (build n u) (build n v)) (sym el) (sym er)
    ∙ ap₂ (fork p)
    (rebuild n (p ▹ false) l gl (omega (arith, pfx-length h, length-snoc p false)))
    (rebuild n (p ▹ true) r gr (omega (arith, pfx-length h, length-snoc p true)))
