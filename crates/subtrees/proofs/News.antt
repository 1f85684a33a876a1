-- The list of an audit at no leaf, at one, at a fork and at the root; a tree has a new leaf where one of its leaves is new; and there
-- are no more records than leaves. Assumes nothing.
use mathlib.Core.Path.{◌≡◌, refl, sym, ap, ap₂, ◌∙◌}
use mathlib.Core.Bool.{Bool, true, false, cond, true≢false, false≢true, ◌||◌, or-false, or_assoc, or_comm}
use mathlib.Core.List.{List, [], ◌∷◌, ◌++◌}
use Prim.Native.Nat.{ℕ, zero, suc, ◌+◌, ◌≤◌, ◌<◌}
use native.Mathlib.Omega.{arith}
use lib.Dec.{eqb}
use lib.ListN.{length, take, drop, length-append, length-drop}
use lib.Seq.{length-take-le}
use Rattle.paper.specs.Lists.{All, keep, some}
use Rattle.paper.specs.Bytes.{Bytes, number}
use Rattle.paper.specs.Bits.{Bits, Pfx, starts, ◌▹◌}
use Rattle.paper.specs.Strings.{Node, leaf, inner, nothing}
use Rattle.paper.specs.Tree.{key, digest, Tree, empty, one, fork, top, common, side, build, root}
use Rattle.paper.specs.Audit.{opened}
use Rattle.paper.specs.Write.{has_new, subtrees, below_root}
use Rattle.paper.specs.Level.{entry_leaf}
use Rattle.paper.proofs.Lists.{in-all}
use Rattle.paper.proofs.Bits.{pfx-length, pfx-one-way, pfx-starts, length-snoc}
use Rattle.paper.proofs.Tree.{Free, common-most, common-next, side-all, side-below, side-free}
use Rattle.paper.proofs.Walk.{no-starts}
use Rattle.bit_order.proofs.Sides.{ordered-free}
use Rattle.std.specs.List.{list_any}
use Rattle.leaf_row.specs.Row.{as_nodes, LeafFits, Sized}
use Rattle.leaf_row.proofs.Rows.{sized-long}
use Rattle.tree.specs.Stored.{children, flat, Sorted, Range, Part}
use Rattle.tree.proofs.Leaves.{long-short, bare, single}
use Rattle.bit_order.proofs.Order.{rising-ordered}
use Rattle.tree.proofs.Halves.{RootHalves, before-sorted, behind-sorted}
use Rattle.tree.proofs.Flat.{flat-size}

module _ (t : ℕ) where
  -- whether a leaf is new
  abbrev pub new : Node → Bool
  new x = has_new t (one x)

  -- ---- by leaves

  mid : (a b c : Bool) → (a || (c || b)) ≡ (c || (a || b))
  mid a b c = sym (or_assoc a c b) ∙ ap (λ x. x || b) (or_comm a c) ∙ or_assoc c a b

  -- each goes to one side
  sides-new : (p : Bits) (S : List Node) → All (λ x. (b : Bool) × Pfx (p ▹ b) (key x)) S → (some new (side (p ▹ false) S) || some new (side (p ▹ true) S)) ≡ some new S
  unfolding side keep some
  sides-new p [] h = refl
  sides-new p (x ∷ S) h = by h.0.0 h.0.1 (sides-new p S h.1)
    where
      by : (b : Bool) → Pfx (p ▹ b) (key x) → (some new (side (p ▹ false) S) || some new (side (p ▹ true) S)) ≡ some new S
          → (some new (cond (starts (p ▹ false) (key x)) (x ∷ side (p ▹ false) S) (side (p ▹ false) S)) || some new (cond (starts (p ▹ true) (key x)) (x ∷ side (p ▹ true) S) (side (p ▹ true) S)))
          ≡ (new x || some new S)
      by true w e = rw (pfx-starts (p ▹ true) (key x) w, no-starts (p ▹ false) (key x) (λ v. false≢true (pfx-one-way p false true v w)))
          (mid (some new (side (p ▹ false) S)) (some new (side (p ▹ true) S)) (new x) ∙ ap (λ b. new x || b) e)
      by false w e = rw (pfx-starts (p ▹ false) (key x) w, no-starts (p ▹ true) (key x) (λ v. true≢false (pfx-one-way p true false v w)))
          (or_assoc (new x) (some new (side (p ▹ false) S)) (some new (side (p ▹ true) S)) ∙ ap (λ b. new x || b) e)

  build-new : (n : ℕ) (q : Bits) (S : List Node) → Free S → All (λ y. length (key y) ≤ 256) S → All (λ y. Pfx q (key y)) S → 256 < n + length q → has_new t (build n S) ≡ some new S
  unfolding build has_new some
  build-new zero q [] f b h k = refl
  build-new (suc n) q [] f b h k = refl
  build-new zero q (x ∷ S) f b h k = absurd (omega (arith, pfx-length h.0, b.0))
  build-new (suc n) q (x ∷ []) f b h k = sym (or-false (new x))
  build-new (suc n) q (x ∷ y ∷ S) f b h k =
      let p = common x (y ∷ S) in
      let T = x ∷ y ∷ S in
      let half : (d : Bool) → has_new t (build n (side (p ▹ d) T)) ≡ some new (side (p ▹ d) T) = λ d.
      build-new n (p ▹ d) (side (p ▹ d) T) (side-free _ T f) (side-all _ _ T b) (side-below _ T) (omega (arith, length-snoc p d, pfx-length (common-most q x (y ∷ S) h))) in
      ap₂ (λ c d. c || d) (half false) (half true) ∙ sides-new p T (in-all _ T (common-next x y S f))

  pub tree-new : (from : ℕ) (S : List Node) → Part from S → has_new t (build 256 S) ≡ some new S
  tree-new from S p =
      let short = long-short S (sized-long S p.sorted.sized) in
      build-new 256 p.range.shared S (ordered-free S (rising-ordered S p.sorted.rises)) short p.range.shares (omega (arith, p.range.size, p.deep))

  -- of a leaf its epoch tells
  pub leaf-new : (s : Bytes) → has_new t (one (entry_leaf s)) ≡ eqb (number (take 4 (drop 64 s))) t
  unfolding has_new
  leaf-new s = refl

  -- and of a row each leaf's
  pub row-new : (row : List Bytes) → list_any (λ e. new (entry_leaf e)) row ≡ some new (as_nodes row)
  unfolding some
  row-new [] = refl
  row-new (e ∷ row) = ap (λ b. new (entry_leaf e) || b) (row-new row)

  -- ---- the list

  pub no-trees : (S : List Node) → length S ≡ 0 → subtrees t (build 256 S) ≡ []
  unfolding subtrees
  no-trees S e = ap (subtrees t) (bare S e)

  leaf-one : (x : Node) → LeafFits x → length (subtrees t (one x)) ≡ 1
  unfolding subtrees
  leaf-one (leaf m c e) h = refl
  leaf-one (inner p l r) h = absurd h
  leaf-one nothing h = absurd h

  pub one-length : (S : List Node) → Sized S → length S ≡ 1 → length (subtrees t (build 256 S)) ≡ 1
  one-length [] h e = absurd (omega arith)
  one-length (x ∷ []) h e = ap (λ T. length (subtrees t T)) (single (x ∷ []) e) ∙ leaf-one x h.0
  one-length (x ∷ y ∷ S) h e = absurd (omega arith)

  module _ (T : Tree) (p : Bits) (l r : Tree) (e : T ≡ fork p l r) where
    pub old-fork : has_new t T ≡ false → subtrees t T ≡ opened p (digest (top l)) (digest (top r)) ∷ []
    unfolding subtrees has_new
    old-fork h = let g = sym (ap (has_new t) e) ∙ h in ap (subtrees t) e ∙ rw g refl

    pub new-fork : has_new t T ≡ true → subtrees t T ≡ subtrees t l ++ subtrees t r
    unfolding subtrees has_new
    new-fork h = let g = sym (ap (has_new t) e) ∙ h in ap (subtrees t) e ∙ rw g refl

    pub root-fork : below_root t T ≡ subtrees t l ++ subtrees t r
    unfolding below_root
    root-fork = ap (below_root t) e

  -- ---- how many records there are

  -- a tree has one slot fewer than leaves
  few : (T : Tree) → length (subtrees t T) ≤ length (flat T) + 1
  unfolding subtrees flat
  few empty = omega arith
  few (one (leaf m c e)) = omega arith
  few (one (inner p l r)) = omega arith
  few (one nothing) = omega arith
  few (fork p l r) = by (has_new t l || has_new t r) (few l) (few r)
    where
      by : (b : Bool) → length (subtrees t l) ≤ length (flat l) + 1 → length (subtrees t r) ≤ length (flat r) + 1
          → length (cond b (subtrees t l ++ subtrees t r) (opened p (digest (top l)) (digest (top r)) ∷ [])) ≤ length (flat l ++ (children l r ∷ flat r)) + 1
      by true x y = omega (arith, length-append (subtrees t l) (subtrees t r), length-append (flat l) (children l r ∷ flat r))
      by false x y = omega arith

  pub trees-few : (from : ℕ) (S : List Node) → Sorted S → Range from S → 1 ≤ from → length (subtrees t (build 256 S)) ≤ length S
  trees-few from [] w r l = omega (arith, ap length (no-trees [] refl))
  trees-few from (x ∷ S) w r l = omega (arith, few (build 256 (x ∷ S)), flat-size from (x ∷ S) w r l (omega arith))

  pub root-few : (S : List Node) (m : ℕ) → Sorted S → RootHalves S m → length (below_root t (root S)) ≤ length S
  root-few S m w h =
      let l = build 256 (take m S) in
      let r = build 256 (drop m S) in
      omega (
        arith,
        h.most,
        ap length (root-fork (root S) [] l r h.tree),
        length-append (subtrees t l) (subtrees t r),
        trees-few 1 (take m S) (before-sorted S w m) h.left (omega arith),
        trees-few 1 (drop m S) (behind-sorted S w m) h.right (omega arith),
        length-take-le m S h.most,
        length-drop m S,
      )
