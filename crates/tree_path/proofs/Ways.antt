-- A label's way at a leaf, at a fork and at the root, and that it has few steps. Assumes nothing.
use mathlib.Core.Path.{◌≡◌, refl, sym, ap, ap₂, ◌∙◌}
use mathlib.Core.Bool.{Bool, true, false, cond}
use mathlib.Core.List.{List, [], ◌∷◌, ◌++◌, append_assoc}
use Prim.Native.Nat.{ℕ, suc, ◌+◌, ◌≤◌}
use native.Mathlib.Omega.{arith}
use native.Mathlib.Numerals.{add-one}
use lib.ListN.{length, take, get_or}
use lib.Seq.{length-take-le}
use Rattle.paper.specs.Bytes.{Bytes}
use Rattle.paper.specs.Bits.{Bits, starts, bits_of}
use Rattle.paper.specs.Strings.{Node, nothing}
use Rattle.paper.specs.Tree.{key, digest, Tree, empty, one, fork, top, build}
use Rattle.paper.specs.Path.{off, none, same_bits, end_at, way_steps, way_end}
use Rattle.paper.specs.Layout.{times_bytes}
use Rattle.paper.specs.Fields.{step_field}
use Rattle.paper.specs.Level.{entry_leaf}
use Rattle.paper.proofs.Lists.{all_get_d}
use Rattle.paper.proofs.Bytes.{bits_of-length}
use Rattle.paper.proofs.Way.{build-grown, grown-length, way-fork, way_down, down-count}
use Rattle.bit_order.proofs.Sides.{ordered-free}
use Rattle.tree.specs.Stored.{Sorted, Range}
use Rattle.leaf_row.proofs.Rows.{sized-long}
use Rattle.tree.proofs.Leaves.{long-short, some-leaves, bare}
use Rattle.bit_order.proofs.Order.{rising-ordered}
use Rattle.tree_path.specs.declared.EndKind.TheVariants as K
use Rattle.tree_path.specs.declared.Way.{Way}
use Rattle.tree_path.specs.Measured.{kind_of, way_of, end_bytes, way_bytes}

-- ---- no leaf, and one

pub none-way : (L : Bits) → way_of L empty ≡ record { steps = 0; kind = K.Nothing }
unfolding way_steps way_end
none-way L = refl

pub none-bytes : (L : Bits) → way_bytes L empty ≡ end_bytes none
unfolding way_bytes way_steps way_end times_bytes
none-bytes L = refl

one_way : (L : Bits) (x : Node) → way_of L (one x) ≡ record { steps = 0; kind = kind_of (end_at L x) }
unfolding way_steps way_end
one_way L x = refl

pub one-bytes : (L : Bits) (x : Node) → way_bytes L (one x) ≡ end_bytes (end_at L x)
unfolding way_bytes way_steps way_end times_bytes
one-bytes L x = refl

-- the end at a leaf is the leaf, or another one
leaf-kind : (L : Bits) (s : Bytes) (b : Bool) → same_bits (key (entry_leaf s)) L ≡ b → kind_of (end_at L (entry_leaf s)) ≡ cond b K.This K.Other
unfolding end_at
leaf-kind L s true e = rw e refl
leaf-kind L s false e = rw e refl

pub leaf-way : (L : Bits) (s : Bytes) (b : Bool) → same_bits (key (entry_leaf s)) L ≡ b → way_of L (one (entry_leaf s)) ≡ record { steps = 0; kind = cond b K.This K.Other }
leaf-way L s b e = one_way L (entry_leaf s) ∙ ap {B = Way} (λ k. record { steps = 0; kind = k }) (leaf-kind L s b e)

-- ---- a fork

module _ (L : Bits) (t : Tree) (p : Bits) (l r : Tree) (e : t ≡ fork p l r) where
  pub off-way : starts p L ≡ false → way_of L t ≡ record { steps = 0; kind = K.Off }
  unfolding way_steps way_end
  off-way h = ap (way_of L) e ∙ rw h refl

  pub off-bytes : starts p L ≡ false → way_bytes L t ≡ end_bytes (off p (digest (top l)) (digest (top r)))
  unfolding way_bytes way_steps way_end times_bytes
  off-bytes h = ap (way_bytes L) e ∙ rw h refl

  module _ (k : ℕ) (size : length p ≡ k) (h : starts p L ≡ true) (b : Bool) (q : get_or L k false ≡ b) where
    turn : (way_steps L t ≡ record { length = k; sibling = digest (top (cond b l r)) } ∷ way_steps L (cond b r l)) × (way_end L t ≡ way_end L (cond b r l))
    turn =
        let (x, y) = way-fork L p l r b h (ap (λ i. get_or L i false) size ∙ q) in
        (ap (way_steps L) e ∙ x ∙ ap (λ i. record { length = i; sibling = digest (top (cond b l r)) } ∷ way_steps L (cond b r l)) size, ap (way_end L) e ∙ y)

    pub turn-way : (w : Way) → w ≡ way_of L (cond b r l) → ◌≡◌ {A = Way} (record { steps = w.steps + 1; kind = w.kind }) (way_of L t)
    turn-way w g =
        let a : w.steps + 1 ≡ length (way_steps L t) = add-one w.steps ∙ ap (λ v. suc v.steps) g ∙ sym (ap length turn.0) in
        let d : w.kind ≡ kind_of (way_end L t) = ap (λ v. v.kind) g ∙ sym (ap kind_of turn.1) in
        (λ i. record { steps = a i; kind = d i })

    pub turn-bytes : way_bytes L t ≡ step_field.bytes (record { length = k; sibling = digest (top (cond b l r)) }) ++ way_bytes L (cond b r l)
    unfolding way_bytes times_bytes
    turn-bytes =
        ap₂ (λ x y. times_bytes step_field.bytes x ++ end_bytes y) turn.0 turn.1
        ∙ append_assoc (step_field.bytes (record { length = k; sibling = digest (top (cond b l r)) })) (times_bytes step_field.bytes (way_steps L (cond b r l))) (end_bytes (way_end L (cond b r l)))

-- every label begins with no bits
pub starts_none : (L : Bits) → starts [] L ≡ true
unfolding starts
starts_none L = refl

-- the prefix at which leaves part has k bits
pub prefix-size : (s : Bytes) (k : ℕ) → 68 ≤ length s → k ≤ 256 → length (take k (key (entry_leaf s))) ≡ k
prefix-size s k h l = length-take-le k (bits_of (take 32 s)) (omega (arith, bits_of-length (take 32 s), length-take-le 32 s (omega arith)))

pub fork-prefix : (S : List Node) (k : ℕ) → Sorted S → 1 ≤ length S → k ≤ 256 → length (take k (key (get_or S 0 nothing))) ≡ k
fork-prefix S k w h l = length-take-le k (key (get_or S 0 nothing)) (omega (arith, all_get_d (λ x. length (key x) ≡ 256) S nothing (sized-long S w.sized) 0 h))

-- ---- how many steps there are

pub steps-few : (from : ℕ) (S : List Node) (L : Bits) → Sorted S → Range from S → 1 ≤ from → length L ≡ 256 → length (way_steps L (build 256 S)) ≤ 255
unfolding way_steps
steps-few from [] L w r l size = rw (bare [] refl) (omega arith)
steps-few from (x ∷ T) L w r l size =
    let S = x ∷ T in
    let short = long-short S (sized-long S w.sized) in
    let g = build-grown 256 256 r.shared S (ordered-free S (rising-ordered S w.rises)) short (omega arith) r.shares (omega (arith, r.size)) (some-leaves S (omega arith)) in
    omega (arith, r.size, down-count (grown-length r.shared (build 256 S) g) (way_down L size r.shared (build 256 S) g))
