-- Leaves in order part behind what the first and the last share, and the tree over them is a fork of the trees over the parts. And the
-- root, which parts at the first bit. Assumes nothing.
use mathlib.Core.Path.{◌≡◌, refl, sym, ap, ◌∙◌, subst}
use mathlib.Core.Logic.{⊎_elim, by_cases}
use mathlib.Core.Bool.{Bool, true, false, true≢false, false≢true}
use mathlib.Core.List.{List, [], ◌∷◌, ◌++◌}
use Prim.Native.Nat.{ℕ, zero, suc, ◌+◌, ◌-◌, ◌≤◌, ◌<◌}
use native.Mathlib.Omega.{arith}
use native.Mathlib.Decide.{dec_le}
use lib.ListN.{length, take, drop, get_or, length-drop, take-append-drop}
use lib.Seq.{length-take-le, take-length, take-suc}
use Rattle.paper.specs.Lists.{All}
use Rattle.paper.specs.Bits.{Bits, Pfx, ◌▹◌, lcp}
use Rattle.paper.specs.Strings.{Node, nothing}
use Rattle.paper.specs.Tree.{key, fork, build, root}
use Rattle.paper.proofs.Lists.{all_in, in-all, all_get_d, all_take, all_drop}
use Rattle.paper.proofs.Bits.{pfx-nil, pfx-trans, pfx-next, pfx-length, pfx-compare, pfx-one-way, length-snoc}
use Rattle.paper.proofs.Tree.{Below}
use Rattle.paper.proofs.Rebuild.{Beyond}
use Rattle.paper.proofs.Order.{Before, before-lcp}
use Rattle.bit_order.proofs.Order.{Ordered, ends-share}
use Rattle.bit_order.proofs.Cut.{pfx-is-take, pfx-goes-on}
use Rattle.bit_order.proofs.Sides.{Parts, ordered-free, root-parts, build-parts}
use Rattle.tree.specs.Stored.{Range, Cut, Forked}
use Rattle.tree.proofs.Leaves.{long-short}
use Rattle.tree.proofs.Rising.{ordered_at, bit-behind, bit-within}

-- neither part is empty: the tree over both is a fork
parts-tree : (p : Bits) (A B : List Node) → 1 ≤ length A → 1 ≤ length B → Parts p A B → Below (A ++ B) → build 256 (A ++ B) ≡ fork p (build 256 A) (build 256 B)
parts-tree p [] B h k w b = absurd (omega arith)
parts-tree p (x ∷ A) [] h k w b = absurd (omega arith)
parts-tree p (x ∷ A) (y ∷ B) h k w b = build-parts p x A y B w b

first_bit : (q : Bits) → 1 ≤ length q → (b : Bool) × Pfx ([] ▹ b) q
first_bit [] h = absurd (omega arith)
first_bit (b ∷ q) h = (b, record { rest = q; eq = refl })

-- a list with its first and its last
ends : (S : List Node) → 2 ≤ length S → S ≡ get_or S 0 nothing ∷ (take (length S - 2) (drop 1 S) ++ (get_or S (length S - 1) nothing ∷ []))
ends [] h = absurd (omega arith)
ends (x ∷ []) h = absurd (omega arith)
ends (x ∷ y ∷ S) h =
    let a : length S ≡ suc (suc (length S)) - 2 = omega arith in
    let b : suc (length S) ≡ suc (suc (length S)) - 1 = omega arith in
    ap (λ l. x ∷ l) (sym (take-length (y ∷ S)) ∙ take-suc (y ∷ S) (length S) nothing (omega arith))
    ∙ (λ i. x ∷ (take (a i) (y ∷ S) ++ (get_or (x ∷ y ∷ S) (b i) nothing ∷ [])))

-- leaves that share a prefix, cut behind it
cut_parts : (S : List Node) (p : Bits) (m : ℕ) → All (λ x. Pfx p (key x)) S → All (λ x. length p < length (key x)) S → Cut (length p) S m → Parts p (take m S) (drop m S)
cut_parts S p m share more c = record {
  low = beyond (take m S) false (all_take _ m S share) (all_take _ m S more) c.low;
  high = beyond (drop m S) true (all_drop _ m S share) (all_drop _ m S more) c.high;
}
  where
    beyond : (T : List Node) (b : Bool) → All (λ x. Pfx p (key x)) T → All (λ x. length p < length (key x)) T → All (λ x. get_or (key x) (length p) false ≡ b) T → Beyond p b T
    beyond [] b f g h = tt
    beyond (x ∷ T) b f g h = (subst (λ d. Pfx (p ▹ d) (key x)) h.0 (pfx-goes-on f.0 g.0), beyond T b f.1 g.1 h.1)

part-ranges : (S T : List Node) (p : Bits) (k : ℕ) → length p ≡ k → Parts p S T → Range (k + 1) S × Range (k + 1) T
part-ranges S T p k e w = (
  record { shared = p ▹ false; size = omega (arith, length-snoc p false); shares = w.low },
  record { shared = p ▹ true; size = omega (arith, length-snoc p true); shares = w.high },
)

-- ---- where leaves part

module _ (S : List Node) (o : Ordered key S) (long : All (λ x. length (key x) ≡ 256) S) (h : 2 ≤ length S) where
  abbrev first : Node
  first = get_or S 0 nothing

  abbrev last : Node
  last = get_or S (length S - 1) nothing

  abbrev p : Bits
  p = lcp (key first) (key last)

  abbrev k : ℕ
  k = length p

  abbrev between : List Node
  between = take (length S - 2) (drop 1 S)

  ordered-ends : Ordered key (first ∷ (between ++ (last ∷ [])))
  ordered-ends = subst (Ordered key) (ends S h) o

  -- all leaves share what the first and the last share
  pub shared-range : Range k S
  shared-range = record { shared = p; size = refl; shares = subst (All (λ x. Pfx p (key x))) (sym (ends S h)) (ends-share key first between last ordered-ends) }

  parted : Before (key first) (key last)
  parted = ordered_at S o 0 (length S - 1) (omega arith) (omega arith)

  first-low : get_or (key first) k false ≡ false
  first-low = bit-behind p (key first) false (subst (λ q. Pfx (q ▹ false) (key first)) (before-lcp (key first) (key last) parted) parted.low)

  last-high : get_or (key last) k false ≡ true
  last-high = bit-behind p (key last) true (subst (λ q. Pfx (q ▹ true) (key last)) (before-lcp (key first) (key last) parted) parted.high)

  small : k < 256
  small = omega (arith, bit-within (key last) k last-high, all_get_d (λ x. length (key x) ≡ 256) S nothing long (length S - 1) (omega arith))

  some : (m : ℕ) → Cut k S m → 1 ≤ m
  some zero c = absurd (true≢false (sym (all_get_d _ S nothing c.high 0 (omega arith)) ∙ first-low))
  some (suc m) c = omega arith

  few : (m : ℕ) → Cut k S m → m < length S
  few m c = by_cases (dec_le (suc m) (length S)) (λ q. q) (λ q.
      let e : m ≡ length S = omega (arith, c.most) in
      absurd (false≢true (sym (all_get_d _ S nothing (subst (All (λ x. get_or (key x) k false ≡ false)) (ap (λ i. take i S) e ∙ take-length S) c.low) (length S - 1) (omega arith)) ∙ last-high)))

  pub forked : (m : ℕ) → Cut k S m → Forked S k m
  forked m c = record { small = small; least = some m c; less = few m c; shared = shared-range; cut = c }

-- ---- the trees of the parts

module _ (S : List Node) (k m : ℕ) (o : Ordered key S) (long : All (λ x. length (key x) ≡ 256) S) (f : Forked S k m) where
  abbrev q : Bits
  q = f.shared.shared

  parts : Parts q (take m S) (drop m S)
  parts = cut_parts S q m f.shared.shares
      (in-all _ S (λ x i. omega (arith, f.small, f.shared.size, all_in (λ x. length (key x) ≡ 256) S long x i)))
      (rw f.shared.size f.cut)

  pub left-range : Range (k + 1) (take m S)
  left-range = (part-ranges _ _ q k f.shared.size parts).0

  pub right-range : Range (k + 1) (drop m S)
  right-range = (part-ranges _ _ q k f.shared.size parts).1

  module _ (from : ℕ) (r : Range from S) where
    -- leaves that share `from` bits part behind them
    pub deeper : from ≤ k
    deeper = ⊎_elim
        (λ u. ⊎_elim
        (λ e. omega (arith, ap length e, f.shared.size, r.size))
        (λ (b, w). absurd (false≢true (sides b w)))
        (pfx-next u))
        (λ u. omega (arith, pfx-length u, f.shared.size, r.size))
        (pfx-compare q r.shared (key (get_or S 0 nothing)) (all_get_d _ S nothing f.shared.shares 0 (omega (arith, f.less))) (all_get_d _ S nothing r.shares 0 (omega (arith, f.less))))
      where
        at_each : (T : List Node) (d b : Bool) → 1 ≤ length T → All (λ x. Pfx r.shared (key x)) T → Beyond q d T → Pfx (q ▹ b) r.shared → d ≡ b
        at_each [] d b l a c w = absurd (omega arith)
        at_each (x ∷ T) d b l a c w = pfx-one-way q d b c.0 (pfx-trans w a.0)

        sides : (b : Bool) → Pfx (q ▹ b) r.shared → false ≡ true
        sides b w =
            at_each (take m S) false b (omega (arith, f.least, length-take-le m S f.cut.most)) (all_take _ m S r.shares) parts.low w
            ∙ sym (at_each (drop m S) true b (omega (arith, f.less, length-drop m S)) (all_drop _ m S r.shares) parts.high w)

    -- and are those of a fork
    pub fork-tree : 1 ≤ from → build 256 S ≡ fork (take k (key (get_or S 0 nothing))) (build 256 (take m S)) (build 256 (drop m S))
    fork-tree l =
        ap (build 256) (sym (take-append-drop m S))
        ∙ parts-tree q (take m S) (drop m S) (omega (arith, f.least, length-take-le m S f.cut.most)) (omega (arith, f.less, length-drop m S)) parts (subst Below (sym (take-append-drop m S)) below)
        ∙ ap (λ p. fork p (build 256 (take m S)) (build 256 (drop m S))) (pfx-is-take (all_get_d _ S nothing f.shared.shares 0 (omega (arith, f.less))) ∙ ap (λ i. take i (key (get_or S 0 nothing))) f.shared.size)
      where
        below : Below S
        below =
            let (b, w) = first_bit r.shared (omega (arith, r.size)) in
            record {
              free = ordered-free S o;
              short = long-short S long;
              bit = b;
              shares = in-all _ S (λ x i. pfx-trans w (all_in _ S r.shares x i));
            }

-- ---- the root

pub root-range : (S : List Node) → Range 0 S
root-range S = record { shared = []; size = refl; shares = in-all _ S (λ x m. pfx-nil (key x)) }

pub record RootStep (m : ℕ) (S : List Node) : Type 0 where
  pub left : Range 1 (take m S)
  pub right : Range 1 (drop m S)
  pub tree : root S ≡ fork [] (build 256 (take m S)) (build 256 (drop m S))

pub root-step : (S : List Node) (m : ℕ) → All (λ x. length (key x) ≡ 256) S → Cut 0 S m → RootStep m S
unfolding root-range
root-step S m long c =
    let w = cut_parts S [] m (root-range S).shares (in-all _ S (λ x i. omega (arith, all_in (λ x. length (key x) ≡ 256) S long x i))) c in
    record {
      left = (part-ranges _ _ [] 0 refl w).0;
      right = (part-ranges _ _ [] 0 refl w).1;
      tree = ap root (sym (take-append-drop m S)) ∙ root-parts (take m S) (drop m S) w;
    }
