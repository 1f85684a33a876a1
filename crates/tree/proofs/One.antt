-- The contracts of `split`, `fork_of`, `store` and `StoredTree::store` leave one outcome. Assumes nothing.
use mathlib.Core.Path.{◌≡◌, sym, ap, ◌∙◌}
use mathlib.Core.Logic.{by_cases}
use mathlib.Core.Bool.{true, false}
use mathlib.Core.List.{List}
use Prim.Native.Nat.{ℕ, ◌+◌, ◌-◌, ◌≤◌, ◌<◌}
use native.Mathlib.Omega.{arith}
use native.Mathlib.Decide.{dec_lt}
use lib.ListN.{length, take, drop, get_or, length-drop, get_or-append}
use lib.Seq.{get_or-take, get_or-drop, length-take-le}
use Rattle.paper.specs.Bytes.{Bytes}
use Rattle.paper.specs.Bits.{Pfx}
use Rattle.paper.specs.Strings.{Node, nothing}
use Rattle.paper.specs.Tree.{key, digest, top, build}
use Rattle.paper.proofs.Lists.{not-both, all_get_d}
use Rattle.leaf_row.specs.Row.{as_nodes}
use Rattle.tree.specs.Stored.{Range, Cut, Forked, Laid}
use Rattle.tree.specs.declared.Children.{Children}
use Rattle.tree.specs.declared.Sides.{Sides}
use Rattle.tree.specs.declared.StoredTree.{StoredTree}
use Rattle.tree.proofs.Rising.{bit_at}

module _ (k : ℕ) (S : List Node) (m : ℕ) (c : Cut k S m) where
  low-at : (i : ℕ) → i < m → bit_at S k i ≡ false
  low-at i h = ap (λ x. get_or (key x) k false) (sym (get_or-take m S i nothing h)) ∙ all_get_d _ (take m S) nothing c.low i (omega (arith, length-take-le m S c.most))

  high-at : (i : ℕ) → m ≤ i → i < length S → bit_at S k i ≡ true
  high-at i h l =
      let e : i ≡ m + (i - m) = omega arith in
      ap (bit_at S k) e ∙ ap (λ x. get_or (key x) k false) (sym (get_or-drop m S (i - m) nothing)) ∙ all_get_d _ (drop m S) nothing c.high (i - m) (omega (arith, length-drop m S))

-- where leaves part at a bit
pub cut-one : (k : ℕ) (S : List Node) (m n : ℕ) → Cut k S m → Cut k S n → m ≡ n
cut-one k S m n c d = by_cases (dec_lt m n) (λ l. absurd (less m n c d l)) (λ l. by_cases (dec_lt n m) (λ h. absurd (less n m d c h)) (λ h. omega arith))
  where
    less : (m n : ℕ) → Cut k S m → Cut k S n → m < n → ⊥
    less m n c d l = not-both (high-at k S m c m (omega arith) (omega (arith, d.most))) (low-at k S n d m l)

-- a bit that all share is no bit at which they part
shared-bit : (S : List Node) (l k : ℕ) → Range l S → k < l → (i j : ℕ) → i < length S → j < length S → bit_at S k i ≡ bit_at S k j
shared-bit S l k r h i j p q = of i p ∙ sym (of j q)
  where
    of : (i : ℕ) → i < length S → bit_at S k i ≡ get_or r.shared k false
    of i p =
        let x = all_get_d (λ x. Pfx r.shared (key x)) S nothing r.shares i p in
        ap (λ y. get_or y k false) (sym x.eq) ∙ get_or-append r.shared x.rest false k (omega (arith, r.size))

-- where leaves part behind what they share
pub fork-one : (S : List Node) (k m l n : ℕ) → Forked S k m → Forked S l n → (k ≡ l) × (m ≡ n)
fork-one S k m l n f g =
    let e : k ≡ l = by_cases (dec_lt k l) (λ h. absurd (less k m l n f g h)) (λ h. by_cases (dec_lt l k) (λ q. absurd (less l n k m g f q)) (λ q. omega arith)) in
    (e, cut-one k S m n f.cut (rw e g.cut))
  where
    less : (k m l n : ℕ) → Forked S k m → Forked S l n → k < l → ⊥
    less k m l n f g h = not-both (high-at k S m f.cut m (omega arith) f.less)
        (shared-bit S l k g.shared h m 0 f.less (omega (arith, f.less)) ∙ low-at k S m f.cut 0 f.least)

-- the stored tree: the sides, and every slot
pub laid_one : (S : List Node) (old a b : List Children) (q r : Sides) → Laid S old a q → Laid S old b r → (a ≡ b) × (q ≡ r)
laid_one S old a b q r x y =
    let e = cut-one 0 S q.split r.split x.stored.cut y.stored.cut in
    let left : q.children.left ≡ r.children.left = x.stored.left.node ∙ ap (λ m. digest (top (build 256 (take m S)))) e ∙ sym y.stored.left.node in
    let right : q.children.right ≡ r.children.right = x.stored.right.node ∙ ap (λ m. digest (top (build 256 (drop m S)))) e ∙ sym y.stored.right.node in
    (x.whole ∙ rw e (sym y.whole), λ i. record { split = e i; children = record { left = left i; right = right i } })

-- and as `StoredTree::store` gives it: the leaves as well, which are those that it was lent
pub kept-one : (row : List Bytes) (old : List Children) (t u : StoredTree) → t.leaves.now ≡ row → Laid (as_nodes row) old t.slots.now t.sides → u.leaves.now ≡ row → Laid (as_nodes row) old u.slots.now u.sides
    → (t.leaves.now ≡ u.leaves.now) × (t.slots.now ≡ u.slots.now) × (t.sides ≡ u.sides)
kept-one row old t u a x b y = let (e, f) = laid_one (as_nodes row) old t.slots.now u.slots.now t.sides u.sides x y in (a ∙ sym b, e, f)
