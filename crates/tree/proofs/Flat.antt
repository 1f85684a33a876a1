-- A tree below the root has one slot fewer than leaves, and the slots of a fork are those of its left side, its own, and those of its
-- right side. Assumes nothing.
use mathlib.Core.Path.{◌≡◌, refl, sym, ap, ◌∙◌}
use mathlib.Core.Bool.{Bool, true, false, cond, true≢false, false≢true}
use mathlib.Core.List.{List, [], ◌∷◌, ◌++◌}
use Prim.Native.Nat.{ℕ, zero, suc, ◌+◌, ◌-◌, ◌≤◌, ◌<◌}
use native.Mathlib.Omega.{arith}
use lib.ListN.{length, take, drop, get_or, length-append, length-drop}
use lib.Seq.{take_at, drop_at, drop-drop, length-take-le}
use Rattle.std.proofs.lemmas.List.{take_rest}
use Rattle.paper.specs.Lists.{All, keep}
use Rattle.paper.specs.Bits.{Bits, Pfx, starts, ◌▹◌}
use Rattle.paper.specs.Strings.{Node}
use Rattle.paper.specs.Tree.{key, Tree, fork, common, side, build}
use Rattle.paper.proofs.Lists.{in-all}
use Rattle.paper.proofs.Bits.{pfx-length, pfx-one-way, pfx-starts, length-snoc}
use Rattle.paper.proofs.Tree.{Free, common-most, common-next, side-all, side-below, side-free, sides-full}
use Rattle.paper.proofs.Walk.{no-starts}
use Rattle.bit_order.proofs.Sides.{ordered-free}
use Rattle.bit_order.proofs.Order.{rising-ordered}
use Rattle.leaf_row.proofs.Rows.{sized-long}
use Rattle.tree.specs.Stored.{children, flat, Sorted, Range}
use Rattle.tree.specs.declared.Children.{Children}
use Rattle.tree.proofs.Leaves.{long-short, some-leaves}
use Rattle.tree.proofs.Halves.{Halves, taken, before-sorted, behind-sorted}

-- each goes to one side
sides_all : (p : Bits) (S : List Node) → All (λ x. (b : Bool) × Pfx (p ▹ b) (key x)) S → length (side (p ▹ false) S) + length (side (p ▹ true) S) ≡ length S
unfolding side keep
sides_all p [] h = refl
sides_all p (x ∷ S) h = by h.0.0 h.0.1 (sides_all p S h.1)
  where
    by : (b : Bool) → Pfx (p ▹ b) (key x) → length (side (p ▹ false) S) + length (side (p ▹ true) S) ≡ length S
        → length (cond (starts (p ▹ false) (key x)) (x ∷ side (p ▹ false) S) (side (p ▹ false) S)) + length (cond (starts (p ▹ true) (key x)) (x ∷ side (p ▹ true) S) (side (p ▹ true) S)) ≡ suc (length S)
    by true w e = rw (pfx-starts (p ▹ true) (key x) w, no-starts (p ▹ false) (key x) (λ v. false≢true (pfx-one-way p false true v w))) (omega arith)
    by false w e = rw (pfx-starts (p ▹ false) (key x) w, no-starts (p ▹ true) (key x) (λ v. true≢false (pfx-one-way p true false v w))) (omega arith)

fork-size : (p : Bits) (l r : Tree) → length (flat (fork p l r)) ≡ length (flat l) + 1 + length (flat r)
unfolding flat
fork-size p l r = length-append (flat l) (children l r ∷ flat r) ∙ omega arith

build-flat : (n : ℕ) (q : Bits) (S : List Node) → Free S → All (λ y. length (key y) ≤ 256) S → All (λ y. Pfx q (key y)) S → 256 < n + length q → ¬ (S ≡ [])
    → length (flat (build n S)) + 1 ≡ length S
unfolding build flat
build-flat zero q [] f b h k ne = absurd (ne refl)
build-flat (suc n) q [] f b h k ne = absurd (ne refl)
build-flat zero q (x ∷ S) f b h k ne = absurd (omega (arith, pfx-length h.0, b.0))
build-flat (suc n) q (x ∷ []) f b h k ne = omega arith
build-flat (suc n) q (x ∷ y ∷ S) f b h k ne =
    let p = common x (y ∷ S) in
    let T = x ∷ y ∷ S in
    let half : (d : Bool) → length (flat (build n (side (p ▹ d) T))) + 1 ≡ length (side (p ▹ d) T) = λ d.
    build-flat n (p ▹ d) (side (p ▹ d) T) (side-free _ T f) (side-all _ _ T b) (side-below _ T) (omega (arith, length-snoc p d, pfx-length (common-most q x (y ∷ S) h))) (sides-full x y S f d) in
    omega (arith, fork-size p (build n (side (p ▹ false) T)) (build n (side (p ▹ true) T)), half false, half true, sides_all p T (in-all _ T (common-next x y S f)))

pub flat-size : (from : ℕ) (S : List Node) → Sorted S → Range from S → 1 ≤ from → 1 ≤ length S → length (flat (build 256 S)) ≡ length S - 1
flat-size from S w r l h =
    let short = long-short S (sized-long S w.sized) in
    omega (arith, build-flat 256 r.shared S (ordered-free S (rising-ordered S w.rises)) short r.shares (omega (arith, r.size)) (some-leaves S h))

-- ---- the slots of a fork, where leaves part

module _ (from : ℕ) (S : List Node) (k m : ℕ) (w : Sorted S) (h : Halves from S k m) (slots : List Children) (e : slots ≡ flat (build 256 S)) where
  abbrev low : Tree
  low = build 256 (take m S)

  abbrev high : Tree
  high = build 256 (drop m S)

  parts : slots ≡ flat low ++ (children low high ∷ flat high)
  unfolding flat
  parts = e ∙ ap flat h.tree

  low-size : length (flat low) ≡ m - 1
  low-size =
      let l = length-take-le m S (omega (arith, h.less)) in
      flat-size (k + 1) (take m S) (before-sorted S w m) h.left (omega arith) (omega (arith, l, h.least)) ∙ ap (λ i. i - 1) l

  high-size : length (flat high) ≡ length S - m - 1
  high-size =
      let l = length-drop m S in
      flat-size (k + 1) (drop m S) (behind-sorted S w m) h.right (omega arith) (omega (arith, l, h.less)) ∙ ap (λ i. i - 1) l

  pub slots-size : length slots ≡ length S - 1
  slots-size = ap length parts ∙ omega (arith, length-append (flat low) (children low high ∷ flat high), low-size, high-size, h.least, h.less)

  pub low-slots : take (m - 1) slots ≡ flat low
  low-slots = ap (take (m - 1)) parts ∙ take_at (flat low) _ (m - 1) low-size

  from-slot : drop (m - 1) slots ≡ children low high ∷ flat high
  from-slot = ap (drop (m - 1)) parts ∙ drop_at (flat low) _ (m - 1) low-size

  pub the-slot : (d : Children) → get_or slots (m - 1) d ≡ children low high
  the-slot d = first (m - 1) slots from-slot
    where
      first : (i : ℕ) (l : List Children) → drop i l ≡ children low high ∷ flat high → get_or l i d ≡ children low high
      first zero [] q = cc
      first zero (x ∷ l) q = cc
      first (suc i) [] q = cc
      first (suc i) (x ∷ l) q = first i l q

  pub high-slots : take (length slots - m) (drop m slots) ≡ flat high
  high-slots =
      let a : m ≡ m - 1 + 1 = omega (arith, h.least) in
      take_rest slots m ∙ ap (λ i. drop i slots) a ∙ sym (drop-drop 1 (m - 1) slots) ∙ ap (drop 1) from-slot

  -- the slots of the side that a bit takes
  pub inside-taken : (b : Bool) → cond b (take (length slots - m) (drop m slots)) (take (m - 1) slots) ≡ flat (build 256 (taken b m S))
  inside-taken true = high-slots
  inside-taken false = low-slots
