-- The slots of a fork: those of both sides, and between them the digests of both. The slots of the root's sides, which are spare at
-- their ends. Assumes nothing.
use mathlib.Core.Path.{◌≡◌, refl, sym, ap, ap₂, ◌∙◌}
use mathlib.Core.List.{List, [], ◌∷◌, ◌++◌, append_assoc}
use Prim.Native.Nat.{ℕ, ◌+◌, ◌-◌, ◌≤◌}
use native.Mathlib.Omega.{arith}
use lib.ListN.{length, take, drop, get_or, set, length-append, length-take, length-drop}
use lib.Seq.{drop_at, take_at, set_at}
use Rattle.fips.specs.Sha256.{sha256}
use Rattle.paper.specs.Bytes.{Bytes}
use Rattle.paper.specs.Strings.{Node, nothing, inner, nothing_string}
use Rattle.paper.specs.Tree.{key, digest, top, root_digest}
use Rattle.leaf_row.proofs.Rows.{sized-long}
use Rattle.tree.specs.Stored.{flat, Sorted, Cut, BelowLaid, SideLaid, Stored, Laid, Kept, Lent}
use Rattle.tree.specs.declared.Children.{Children}
use Rattle.tree.specs.declared.Sides.{Sides}
use Rattle.tree.specs.declared.StoredTree.{StoredTree}
use Rattle.tree.proofs.Leaves.{bare, single}
use Rattle.tree.proofs.Step.{root-step}
use Rattle.tree.proofs.Halves.{Halves}

none : (l : List Children) → length l ≡ 0 → l ≡ []
none [] e = refl
none (x ∷ l) e = absurd (omega arith)

lone : (l : List Children) → length l ≡ 1 → (x : Children) × (l ≡ x ∷ [])
lone [] e = absurd (omega arith)
lone (x ∷ []) e = (x, refl)
lone (x ∷ y ∷ l) e = absurd (omega arith)

-- the slots of a left side u and its fork's own, which is laid last
pub laid-between : (o u : List Children) (m : ℕ) (c : Children) → 1 ≤ m → length o ≡ m → length u ≡ m - 1 → set (u ++ drop (m - 1) o) (m - 1) c ≡ u ++ (c ∷ [])
laid-between o u m c h l e =
    let (x, q) = lone (drop (m - 1) o) (omega (arith, length-drop (m - 1) o)) in
    ap (λ z. set (u ++ z) (m - 1) c) q ∙ set_at u x [] c (m - 1) e

-- ---- the tree below the root

pub below-one-leaf : (S : List Node) (d : Bytes) (slots : List Children) → length S ≡ 1 → d ≡ digest (get_or S 0 nothing) → length slots + 1 ≡ length S → BelowLaid S d slots
unfolding flat
below-one-leaf S d slots e h l =
    let t = single S e in
    record { node = h ∙ ap (λ x. digest (top x)) (sym t); inside = none slots (omega arith) ∙ ap flat (sym t) }

pub below-fork : (from : ℕ) (S : List Node) (k m : ℕ) (x y d : Bytes) (u v slots : List Children) → Halves from S k m → BelowLaid (take m S) x u → BelowLaid (drop m S) y v
    → d ≡ digest (inner (take k (key (get_or S 0 nothing))) x y) → slots ≡ (u ++ (record { left = x; right = y } ∷ [])) ++ v → BelowLaid S d slots
unfolding flat
below-fork from S k m x y d u v slots h l r e f =
    let p = take k (key (get_or S 0 nothing)) in
    record {
      node = e ∙ ap₂ (λ a b. digest (inner p a b)) l.node r.node ∙ ap (λ t. digest (top t)) (sym h.tree);
      inside = f ∙ append_assoc u (record { left = x; right = y } ∷ []) v ∙ (λ i. l.inside i ++ (record { left = l.node i; right = r.node i } ∷ r.inside i)) ∙ sym (ap flat h.tree);
    }

-- ---- the root's sides

pub side-none : (S : List Node) (d : Bytes) (o : List Children) → length S ≡ 0 → d ≡ sha256 nothing_string → length o ≡ length S → SideLaid S d o o
unfolding flat
side-none S d o e h l =
    let t = bare S e in
    let z : length S - 1 ≡ 0 = omega arith in
    record {
      stored = record { node = h ∙ ap (λ x. digest (top x)) (sym t); size = l; inside = none (take (length S - 1) o) (omega (arith, length-take (length S - 1) o)) ∙ ap flat (sym t) };
      whole = sym (ap₂ (λ x i. flat x ++ drop i o) t z);
    }

pub side-some : (S : List Node) (d : Bytes) (o u : List Children) → 1 ≤ length S → length o ≡ length S → length u ≡ length S - 1 → BelowLaid S d u → SideLaid S d o (u ++ drop (length S - 1) o)
side-some S d o u h l k b = record {
  stored = record {
    node = b.node;
    size = length-append u (drop (length S - 1) o) ∙ omega (arith, length-drop (length S - 1) o);
    inside = take_at u (drop (length S - 1) o) _ k ∙ b.inside;
  };
  whole = ap (λ z. z ++ drop (length S - 1) o) b.inside;
}

pub sides-laid : (S : List Node) (m : ℕ) (o u v slots : List Children) (x y : Bytes) → Cut 0 S m → length u ≡ m → SideLaid (take m S) x (take m o) u → SideLaid (drop m S) y (drop m o) v
    → slots ≡ u ++ v → Laid S o slots (record { split = m; children = record { left = x; right = y } })
sides-laid S m o u v slots x y c k l r e =
    let a : u ≡ take m slots = sym (ap (take m) e ∙ take_at u v m k) in
    let b : v ≡ drop m slots = sym (ap (drop m) e ∙ drop_at u v m k) in
    record {
      stored = record { cut = c; left = rw (← a) l.stored; right = rw (← b) r.stored };
      whole = e ∙ ap₂ (λ p q. p ++ q) l.whole r.whole;
    }

-- "The root has prefix length 0 and is always an inner node.": what `root` makes of stored sides
pub stored-root : (S : List Node) (slots : List Children) (r : Sides) → Sorted S → Stored S slots r → digest (inner [] r.children.left r.children.right) ≡ root_digest S
stored-root S slots r w h =
    let t = (root-step S r.split (sized-long S w.sized) h.cut).tree in
    ap₂ (λ a b. digest (inner [] a b)) h.left.node h.right.node ∙ ap (λ x. digest (top x)) (sym t)

-- a stored tree may be lent
pub kept-lent : (t : StoredTree) → Kept t → Lent t
kept-lent t k = record { rises = k.sorted.rises; stored = k.stored }
