-- The two parts of leaves in order: each is in order, and the tree over all is a fork of the trees over them. Assumes nothing.
use mathlib.Core.Path.{◌≡◌, refl, sym, ap, ap₂, ◌∙◌}
use mathlib.Core.Bool.{Bool, true, false, cond}
use mathlib.Core.List.{List, []}
use Prim.Native.Nat.{ℕ, ◌+◌, ◌-◌, ◌≤◌, ◌<◌}
use native.Mathlib.Omega.{arith}
use lib.ListN.{length, take, drop, get_or, length-drop, take-append-drop}
use lib.Seq.{take-take, length-take-le}
use Rattle.paper.specs.Bytes.{Bytes}
use Rattle.paper.specs.Bits.{bits_of, lcp, first_difference}
use Rattle.paper.specs.Strings.{Node, nothing}
use Rattle.paper.specs.Tree.{key, fork, build, root}
use Rattle.paper.specs.Level.{rising}
use Rattle.paper.proofs.Lists.{all_take, all_drop}
use Rattle.bit_order.proofs.Order.{rising-ordered, rising-left, rising-right}
use Rattle.leaf_row.specs.Row.{as_nodes}
use Rattle.leaf_row.proofs.Rows.{nodes-length, node_at, sized-long}
use Rattle.tree.specs.Stored.{Sorted, Range, Part, Cut, Forked}
use Rattle.tree.proofs.Step.{left-range, right-range, deeper, fork-tree, root-step}

module _ (S : List Node) (w : Sorted S) (m : ℕ) where
  pub before-sorted : Sorted (take m S)
  before-sorted = record { sized = all_take _ m S w.sized; rises = rising-left (take m S) (drop m S) (ap rising (take-append-drop m S) ∙ w.rises) }

  pub behind-sorted : Sorted (drop m S)
  behind-sorted = record { sized = all_drop _ m S w.sized; rises = rising-right (take m S) (drop m S) (ap rising (take-append-drop m S) ∙ w.rises) }

-- what the first and the last label share
pub ends-differ : (row : List Bytes) → 2 ≤ length row → let S = as_nodes row in
    first_difference (take 32 (take 32 (get_or row 0 []))) (take 32 (take 32 (get_or row (length row - 1) []))) ≡ length (lcp (key (get_or S 0 nothing)) (key (get_or S (length S - 1) nothing)))
unfolding first_difference
ends-differ row h =
    let S = as_nodes row in
    let cut : (e : Bytes) → take 32 (take 32 e) ≡ take 32 e = λ e. take-take 32 32 e (omega arith) in
    let e : length row - 1 ≡ length S - 1 = ap (λ i. i - 1) (sym (nodes-length row)) in
    ap₂ (λ x y. length (lcp (bits_of x) (bits_of y))) (cut (get_or row 0 [])) (cut (get_or row (length row - 1) []))
    ∙ ap₂ (λ x y. length (lcp (key x) (key y))) (sym (node_at row 0 (omega arith))) (sym (node_at row (length row - 1) (omega arith)) ∙ ap (λ i. get_or S i nothing) e)

-- leaves, which share `from` bits, part behind k bits, and m of them go left
pub record Halves (from : ℕ) (S : List Node) (k m : ℕ) : Type 0 where
  pub small : k < 256
  pub deeper : from ≤ k
  pub least : 1 ≤ m
  pub less : m < length S
  pub left : Range (k + 1) (take m S)
  pub right : Range (k + 1) (drop m S)
  pub tree : build 256 S ≡ fork (take k (key (get_or S 0 nothing))) (build 256 (take m S)) (build 256 (drop m S))

pub halves : (from : ℕ) (S : List Node) (k m : ℕ) → Sorted S → 1 ≤ from → Range from S → Forked S k m → Halves from S k m
halves from S k m w l r f =
    let o = rising-ordered S w.rises in
    let long = sized-long S w.sized in
    record {
      small = f.small;
      deeper = deeper S k m o long f from r;
      least = f.least;
      less = f.less;
      left = left-range S k m o long f;
      right = right-range S k m o long f;
      tree = fork-tree S k m o long f from r l;
    }

-- the first m leaves, or the others
abbrev pub taken : Bool → ℕ → List Node → List Node
taken b m S = cond b (drop m S) (take m S)

pub build-taken : (b : Bool) (m : ℕ) (S : List Node) → build 256 (taken b m S) ≡ cond b (build 256 (drop m S)) (build 256 (take m S))
build-taken true m S = refl
build-taken false m S = refl

module _ {from : ℕ} {S : List Node} {k m : ℕ} (w : Sorted S) (h : Halves from S k m) where
  pub left-part : Part (k + 1) (take m S)
  left-part = record { some = omega (arith, h.least, length-take-le m S (omega (arith, h.less))); deep = omega arith; sorted = before-sorted S w m; range = h.left }

  pub right-part : Part (k + 1) (drop m S)
  right-part = record { some = omega (arith, h.less, length-drop m S); deep = omega arith; sorted = behind-sorted S w m; range = h.right }

  -- the side that a bit takes
  pub taken-part : (b : Bool) → Part (k + 1) (taken b m S)
  taken-part true = right-part
  taken-part false = left-part

-- the same at the root, which parts leaves at their first bit
pub record RootHalves (S : List Node) (m : ℕ) : Type 0 where
  pub most : m ≤ length S
  pub left : Range 1 (take m S)
  pub right : Range 1 (drop m S)
  pub tree : root S ≡ fork [] (build 256 (take m S)) (build 256 (drop m S))

pub root-halves : (S : List Node) (m : ℕ) → Sorted S → Cut 0 S m → RootHalves S m
root-halves S m w c =
    let h = root-step S m (sized-long S w.sized) c in
    record { most = c.most; left = h.left; right = h.right; tree = h.tree }

-- the side of the root that a bit takes
pub taken-sorted : (S : List Node) (m : ℕ) → Sorted S → RootHalves S m → (b : Bool) → Sorted (taken b m S) × Range 1 (taken b m S)
taken-sorted S m w h true = (behind-sorted S w m, h.right)
taken-sorted S m w h false = (before-sorted S w m, h.left)
