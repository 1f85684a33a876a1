-- Leaves in bit order: at the bit behind what they share no 0 stands behind a 1. Assumes nothing.
use mathlib.Core.Path.{◌≡◌, refl, sym, ap, ◌∙◌, subst}
use mathlib.Core.Logic.{⊎_elim}
use mathlib.Core.Bool.{Bool, true, false, not}
use mathlib.Core.List.{List, [], ◌∷◌}
use Prim.Native.Nat.{ℕ, zero, suc, ◌+◌, ◌≤◌, ◌<◌}
use native.Mathlib.Omega.{arith}
use native.Mathlib.Nat.{eq-or-lt_of_le}
use lib.Dec.{ltb}
use lib.ListN.{length, take, drop, get_or, length-drop, get_or-eq_default}
use lib.Seq.{get_or-take, get_or-drop, length-take-le}
use borrow.Author.Tests.{ltb-true, ltb-false, not-true, not-false}
use Rattle.std.specs.List.Sorted.{IsPartitionedBy, IsPartitionPoint}
use Rattle.paper.specs.Lists.{All}
use Rattle.paper.specs.Bytes.{Bytes}
use Rattle.paper.specs.Bits.{Bits, Pfx, ◌▹◌, bits_of}
use Rattle.paper.specs.Strings.{Node, nothing}
use Rattle.paper.specs.Tree.{key}
use Rattle.paper.specs.Level.{rising}
use Rattle.paper.proofs.Lists.{true-or-false, not-both, all_get_d}
use Rattle.paper.proofs.Bits.{pfx-trans, pfx-snoc, pfx-one-way, pfx-length, length-snoc}
use Rattle.paper.proofs.Order.{Before}
use Rattle.bit_order.proofs.Order.{before-once, Ordered, rising-ordered}
use Rattle.bit_order.proofs.Cut.{pfx-goes-on}
use Rattle.leaf_row.specs.Row.{as_nodes, Long}
use Rattle.leaf_row.proofs.Rows.{nodes-length, node_at}
use Rattle.tree.specs.Stored.{Range, Cut}

-- what holds at each place holds of all
pub all-at : {A : Type 0} (P : A → Type 0) (l : List A) (d : A) → ((i : ℕ) → i < length l → P (get_or l i d)) → All P l
all-at P [] d h = tt
all-at P (a ∷ l) d h = (h 0 (omega arith), all-at P l d (λ i k. h (suc i) (omega arith)))

pub ordered_at : (S : List Node) → Ordered key S → (i j : ℕ) → i < j → j < length S → Before (key (get_or S i nothing)) (key (get_or S j nothing))
ordered_at [] o i j h k = absurd (omega arith)
ordered_at (x ∷ S) o i zero h k = absurd (omega arith)
ordered_at (x ∷ S) o zero (suc j) h k = all_get_d (λ y. Before (key x) (key y)) S nothing o.0 j (omega arith)
ordered_at (x ∷ S) o (suc i) (suc j) h k = ordered_at S o.1 i j (omega arith) (omega arith)

-- the bit behind a prefix
pub bit-behind : (p x : Bits) (b : Bool) → Pfx (p ▹ b) x → get_or x (length p) false ≡ b
bit-behind p x b h = pfx-one-way p (get_or x (length p) false) b (pfx-goes-on (pfx-trans (pfx-snoc p b) h) (omega (arith, pfx-length h, length-snoc p b))) h

-- ---- the bit behind what leaves share

-- bit k of leaf i
abbrev pub bit_at : List Node → ℕ → ℕ → Bool
bit_at S k i = get_or (key (get_or S i nothing)) k false

pub bit-within : (x : Bits) (k : ℕ) → get_or x k false ≡ true → k < length x
bit-within x k e = ⊎_elim (λ h. ltb-true k (length x) h) (λ h. not-both e (get_or-eq_default x false (ltb-false k (length x) h))) (true-or-false (ltb k (length x)))

module _ (S : List Node) (k : ℕ) (o : Ordered key S) (r : Range k S) (long : All (λ x. length (key x) ≡ 256) S) where
  goes_on : (i : ℕ) → i < length S → k < 256 → Pfx (r.shared ▹ bit_at S k i) (key (get_or S i nothing))
  goes_on i h l = subst (λ j. Pfx (r.shared ▹ get_or (key (get_or S i nothing)) j false) (key (get_or S i nothing))) r.size
      (pfx-goes-on (all_get_d _ S nothing r.shares i h) (omega (arith, r.size, all_get_d _ S nothing long i h)))

  -- a leaf with a 1 has leaves with a 1 behind it
  pub climbs : (i j : ℕ) → i ≤ j → j < length S → bit_at S k i ≡ true → bit_at S k j ≡ true
  climbs i j h l e = ⊎_elim (λ q. ap (bit_at S k) (sym q) ∙ e) (λ q. ⊎_elim (λ w. w) (λ w. absurd (turned q w)) (true-or-false (bit_at S k j))) (eq-or-lt_of_le h)
    where
      small : k < 256
      small = omega (arith, bit-within (key (get_or S i nothing)) k e, all_get_d (λ x. length (key x) ≡ 256) S nothing long i (omega arith))

      turned : i < j → bit_at S k j ≡ false → ⊥
      turned q w = before-once (key (get_or S i nothing)) (key (get_or S j nothing)) (ordered_at S o i j q l)
          (record { at = r.shared; low = rw w at (goes_on j l small); high = rw e at (goes_on i (omega arith) small) })

  -- and one with a 0 leaves with a 0 before it
  pub sinks : (i j : ℕ) → i ≤ j → j < length S → bit_at S k j ≡ false → bit_at S k i ≡ false
  sinks i j h l e = ⊎_elim (λ w. not-both (climbs i j h l w) e) (λ w. w) (true-or-false (bit_at S k i))

-- a cut, told by places
pub cut_at : (S : List Node) (k m : ℕ) → m ≤ length S → ((i : ℕ) → i < m → bit_at S k i ≡ false) → ((i : ℕ) → m ≤ i → i < length S → bit_at S k i ≡ true) → Cut k S m
cut_at S k m h low high = record {
  most = h;
  low = all-at _ (take m S) nothing (λ i l.
      let q : i < m = omega (arith, length-take-le m S h) in
      rw (get_or-take m S i nothing q) (low i q));
  high = all-at _ (drop m S) nothing (λ i l. rw (get_or-drop m S i nothing) (high (m + i) (omega arith) (omega (arith, length-drop m S))));
}

-- ---- a cut of a row, as the bits of its labels tell it

get_or-same : {A : Type 0} (l : List A) (i : ℕ) (d e : A) → i < length l → get_or l i d ≡ get_or l i e
get_or-same [] i d e h = absurd (omega arith)
get_or-same (x ∷ l) zero d e h = refl
get_or-same (x ∷ l) (suc i) d e h = get_or-same l i d e (omega arith)

-- whether a leaf goes left at bit k
abbrev pub goes_left : ℕ → Bytes → Bool
goes_left k e = not (get_or (bits_of (take 32 e)) k false)

module _ (row : List Bytes) (k : ℕ) (o : rising (as_nodes row) ≡ true) (w : Long (as_nodes row)) (r : Range k (as_nodes row)) where
  left-at : (i : ℕ) (d : Bytes) → i < length row → goes_left k (get_or row i d) ≡ not (bit_at (as_nodes row) k i)
  left-at i d h = ap (goes_left k) (get_or-same row i d [] h) ∙ ap (λ x. not (get_or (key x) k false)) (sym (node_at row i h))

  pub left-first : IsPartitionedBy (goes_left k) row
  left-first i j d h l e =
      let f = not-true _ (sym (left-at j d l) ∙ e) in
      left-at i d (omega arith) ∙ ap not (sinks (as_nodes row) k (rising-ordered _ o) r w i j h (omega (arith, nodes-length row)) f)

  pub cut-row : (m : ℕ) → m ≤ length row → IsPartitionPoint (λ e. goes_left k e ≡ true) (λ e. goes_left k e ≡ false) row m → Cut k (as_nodes row) m
  cut-row m h p = cut_at (as_nodes row) k m (omega (arith, nodes-length row))
      (λ i l. not-true _ (sym (left-at i [] (omega arith)) ∙ p.0 i [] (omega arith) l))
      (λ i l q. let n : i < length row = omega (arith, nodes-length row) in not-false _ (sym (left-at i [] n) ∙ p.1 i [] l n))
