-- One step of the recursion: the range is cut behind what its first and its last record share, and the tree over it joins the trees
-- over the parts. And the root, which is cut at the first bit. Assumes nothing.
use mathlib.Core.Path.{◌≡◌, refl, sym, ap, ap₂, ◌∙◌, subst}
use mathlib.Core.Bool.{Bool, true, false}
use mathlib.Core.List.{List, [], ◌∷◌, ◌++◌}
use Prim.Native.Nat.{ℕ, zero, suc, ◌+◌, ◌-◌, ◌*◌, ◌≤◌, ◌<◌}
use native.Mathlib.Omega.{arith}
use lib.ListN.{length, take, drop, get_or, length-take, length-drop, length-map}
use Rattle.std.proofs.lemmas.List.{map-append}
use Rattle.paper.specs.Lists.{All}
use Rattle.paper.specs.Numbers.{wide}
use Rattle.paper.specs.Bytes.{Bytes, number}
use Rattle.paper.specs.Bits.{Bits, Pfx, ◌▹◌, lcp, bits_of, pack, first_difference}
use Rattle.paper.specs.Tree.{nodes, root}
use Rattle.paper.specs.Audit.{AuditRecord, record_key, in_order}
use Rattle.paper.proofs.Lists.{all_in, in-all, all_right, all_take, all_drop, all_map}
use Rattle.paper.proofs.Bits.{pfx-nil, pfx-trans, pfx-take, pfx-length, pfx-one-way, length-snoc, lcp-most}
use Rattle.paper.proofs.Bytes.{bits_of-length}
use Rattle.paper.proofs.Tree.{Below}
use Rattle.paper.proofs.Order.{Before, before-lcp}
use Rattle.bit_order.proofs.Order.{Ordered, in-order, order-left, order-right, ends-share, ends-longer}
use Rattle.bit_order.proofs.Cut.{pfx-is-take, uncut-lcp}
use Rattle.bit_order.proofs.Sides.{Parts, ordered-free}
use Rattle.audit_form.specs.Places.{label_at, key_at, record_at, records_at, rows_at, records_of, Formed, Listed, Rows}
use Rattle.audit_form.proofs.Places.{record-key, label-bits, labels-differ}
use Rattle.audit_form.proofs.Chunks.{rows-length, rows-records, rows-listed}
use Rattle.audit_root.specs.Built.{built, grown, hashed, or_nothing, joined, forked, nodes_of, bit_of, lefts, Range}
use Rattle.audit_root.proofs.Nodes.{nodes-all, nodes-ordered, nodes-most, nodes-append, grown-few, fork-grown, or-few, root-grown}
use Rattle.audit_root.proofs.Cutting.{lefts-most, lefts-some, lefts-less, Longer, Past, goes_on, cut_low, cut-whole, cut_high}

key-most : (r : Bytes) → length (key_at r 0) ≤ 256
unfolding key_at label_at
key-most r =
    let label = take wide (drop 3 r) in
    omega (arith, length-take (number (take 2 (drop 1 r))) (bits_of label), bits_of-length label, length-take wide (drop 3 r))

-- the nodes of a range in order, in parts
cut_parts : (rows : List Bytes) (p : Bits) → Past p rows → Ordered record_key (records_of rows) → (new : Bool)
    → Parts p (nodes_of new (records_of (take (lefts (length p) rows) rows))) (nodes_of new (records_of (drop (lefts (length p) rows) rows)))
cut_parts rows p past o new = record {
  low = nodes-all (Pfx (p ▹ false)) new _ (cut_low p rows past);
  high = nodes-all (Pfx (p ▹ true)) new _ (cut_high p rows past o);
}

-- a part of a list in layout is one, and its counts are small
rows-take : (m : ℕ) (rows : List Bytes) → Rows rows → Rows (take m rows)
rows-take m rows l = record { few = omega (arith, l.few, length-take m rows); each = all_take _ m rows l.each }

rows-drop : (m : ℕ) (rows : List Bytes) → Rows rows → Rows (drop m rows)
rows-drop m rows l = record { few = omega (arith, l.few, length-drop m rows); each = all_drop _ m rows l.each }

pub range-few : (rows : List Bytes) → in_order (records_of rows) ≡ true → (new : Bool) → hashed (grown (nodes_of new (records_of rows))) ≤ 2 * length rows
range-few rows e new =
    let R = records_of rows in
    omega (arith, grown-few (nodes_of new R) (ordered-free (nodes_of new R) (nodes-ordered new R (in-order R e))), nodes-most new R, length-map rows (λ r. record_at r 0))

-- ---- below the root

-- two records and more have a first, a last, and those between
last-at : (rows : List Bytes) (i : ℕ) → length rows ≡ suc i → (front : List Bytes) × (rows ≡ front ++ (get_or rows i [] ∷ []))
last-at [] i e = absurd (omega (arith, e))
last-at (r ∷ []) zero e = ([], refl)
last-at (r ∷ []) (suc i) e = absurd (omega (arith, e))
last-at (r ∷ q ∷ rows) zero e = absurd (omega (arith, e))
last-at (r ∷ q ∷ rows) (suc i) e = let (m, h) = last-at (q ∷ rows) i (omega (arith, e)) in (r ∷ m, ap (λ l. r ∷ l) h)

pub ends-at : (rows : List Bytes) → 2 ≤ length rows → (middle : List Bytes) × (rows ≡ get_or rows 0 [] ∷ (middle ++ (get_or rows (length rows - 1) [] ∷ [])))
ends-at [] h = absurd (omega arith)
ends-at (r ∷ rows) h =
    let e : length (r ∷ rows) - 1 ≡ suc (length rows - 1) = omega arith in
    let (m, q) = last-at rows (length rows - 1) (omega arith) in
    rw e (m, ap (λ l. r ∷ l) q)

-- what the cut behind the first k bits gives
pub record Step (rows : List Bytes) (first : Bytes) (from k m : ℕ) : Type 0 where
  pub deeper : from ≤ k
  pub small : k < 256
  pub least : 1 ≤ m
  pub less : m < length rows
  pub left : Range (take m rows) (k + 1)
  pub right : Range (drop m rows) (k + 1)
  pub joins : (new : Bool)
      → grown (nodes_of new (records_of rows))
      ≡ forked k (pack wide (take k (bits_of (label_at first 0)))) (grown (nodes_of new (records_of (take m rows)))) (grown (nodes_of new (records_of (drop m rows))))

first_bit : (q : Bits) → 1 ≤ length q → (b : Bool) × Pfx ([] ▹ b) q
first_bit [] h = absurd (omega arith)
first_bit (b ∷ q) h = (b, record { rest = q; eq = refl })

range-below : (rows : List Bytes) (from : ℕ) → Range rows from → (new : Bool) → Below (nodes_of new (records_of rows))
range-below rows from r new =
    let R = records_of rows in
    let (b, w) = first_bit r.shared (omega (arith, r.size, r.some)) in
    record {
      free = ordered-free (nodes_of new R) (nodes-ordered new R (in-order R r.rises));
      short = nodes-all (λ x. length x ≤ 256) new R (short rows);
      bit = b;
      shares = nodes-all (Pfx ([] ▹ b)) new R (in-all _ R (λ y m. pfx-trans w (all_in _ R r.shares y m)));
    }
  where
    short : (rows : List Bytes) → All (λ y. length (record_key y) ≤ 256) (records_of rows)
    short [] = tt
    short (q ∷ rows) = (rw (record-key q 0) (key-most q), short rows)

module _ (rows : List Bytes) (from : ℕ) (r : Range rows from) (first : Bytes) (middle : List Bytes) (last : Bytes) (e : rows ≡ first ∷ (middle ++ (last ∷ []))) where
  order : Ordered record_key (records_of rows)
  order = in-order (records_of rows) r.rises

  abbrev x : AuditRecord
  x = record_at first 0

  abbrev z : AuditRecord
  z = record_at last 0

  -- the range, with its first and its last record
  ends : records_of rows ≡ x ∷ (records_of middle ++ (z ∷ []))
  ends = ap records_of e ∙ ap (λ l. x ∷ l) (map-append (λ r. record_at r 0) middle (last ∷ []))

  ordered-ends : Ordered record_key (x ∷ (records_of middle ++ (z ∷ [])))
  ordered-ends = rw ends at order

  abbrev shared : Bits
  shared = lcp (record_key x) (record_key z)

  -- what holds of all between the ends
  within : (P : AuditRecord → Type 0) → All P (x ∷ (records_of middle ++ (z ∷ []))) → All (λ r. P (record_at r 0)) rows
  within P a = all_map P (λ r. record_at r 0) rows (subst (All P) (sym ends) a)

  past : Past shared rows
  past =
      let share = within (λ y. Pfx shared (record_key y)) (ends-share record_key x (records_of middle) z ordered-ends) in
      let longer = within (λ y. length shared < length (record_key y)) (ends-longer record_key x (records_of middle) z ordered-ends) in
      in-all (Longer shared) rows (λ y m. (rw (record-key y 0) at (all_in _ rows share y m), rw (record-key y 0) at (all_in _ rows longer y m)))

  past_ends : Longer shared first × Longer shared last
  past_ends =
      let h = subst (All (Longer shared)) e past in
      (h.0, (all_right (Longer shared) middle (last ∷ []) h.1).0)

  first-last : Before (record_key x) (record_key z)
  first-last = (all_right (λ y. Before (record_key x) (record_key y)) (records_of middle) (z ∷ []) ordered-ends.0).0

  -- the labels share what the keys share
  shared-size : length shared ≡ first_difference (take 32 (label_at first 0)) (take 32 (label_at last 0))
  unfolding key_at
  shared-size =
      ap₂ (λ x y. length (lcp x y)) (record-key first 0) (record-key last 0)
      ∙ ap length (uncut-lcp (bits_of (label_at first 0)) (bits_of (label_at last 0)) (number (take 2 (drop 1 first))) (number (take 2 (drop 1 last))) (rw (record-key first 0, record-key last 0) at first-last))
      ∙ sym (labels-differ first last 0 0)

  abbrev k : ℕ
  k = length shared

  abbrev m : ℕ
  m = lefts k rows

  deeper : from ≤ k
  deeper =
      let share = subst (All (λ y. Pfx r.shared (record_key y))) ends r.shares in
      omega (arith, r.size, pfx-length (lcp-most r.shared (record_key x) (record_key z) share.0 (all_right (λ y. Pfx r.shared (record_key y)) (records_of middle) (z ∷ []) share.1).0))

  -- the first record goes left, and the last one right
  parted : shared ≡ first-last.at
  parted = sym (before-lcp (record_key x) (record_key z) first-last)

  least : 1 ≤ m
  least =
      let low = pfx-one-way shared (bit_of k first) false (goes_on shared first past_ends.0) (rw parted first-last.low) in
      rw e (lefts-some k first (middle ++ (last ∷ [])) low)

  less : m < length rows
  less =
      let high = pfx-one-way shared (bit_of k last) true (goes_on shared last past_ends.1) (rw parted first-last.high) in
      rw e (lefts-less k (first ∷ middle) last high)

  -- the prefix is the first bits of the first label
  prefix : shared ≡ take k (bits_of (label_at first 0))
  unfolding key_at
  prefix = pfx-is-take (pfx-trans past_ends.0.0 (pfx-take (number (take 2 (drop 1 first))) (bits_of (label_at first 0))))

  whole : records_of rows ≡ records_of (take m rows) ++ records_of (drop m rows)
  whole = cut-whole m rows

  step : Step rows first from k m
  step = record {
    deeper = deeper;
    small = omega (arith, past_ends.0.1, key-most first);
    least = least;
    less = less;
    left = record {
      formed = rows-take m rows r.formed;
      rises = order-left (records_of (take m rows)) (records_of (drop m rows)) (rw whole at r.rises);
      some = omega arith;
      shared = shared ▹ false;
      size = omega (arith, length-snoc shared false);
      shares = cut_low shared rows past;
    };
    right = record {
      formed = rows-drop m rows r.formed;
      rises = order-right (records_of (take m rows)) (records_of (drop m rows)) (rw whole at r.rises);
      some = omega arith;
      shared = shared ▹ true;
      size = omega (arith, length-snoc shared true);
      shares = cut_high shared rows past order;
    };
    joins = λ new.
        let nodes = ap (nodes_of new) whole ∙ nodes-append new (records_of (take m rows)) (records_of (drop m rows)) in
        ap grown nodes
        ∙ fork-grown shared _ _ (cut_parts rows shared past order new) (subst Below nodes (range-below rows from r new))
        ∙ ap (λ p. forked k (pack wide p) (grown (nodes_of new (records_of (take m rows)))) (grown (nodes_of new (records_of (drop m rows))))) prefix;
  }

  pub range-step : (j : ℕ) → j ≡ first_difference (take 32 (label_at first 0)) (take 32 (label_at last 0)) → Step rows first from j (lefts j rows)
  range-step j q = subst (λ i. Step rows first from i (lefts i rows)) (shared-size ∙ sym q) step

-- ---- the root

pub record RootStep (rows : List Bytes) (m : ℕ) : Type 0 where
  pub most : m ≤ length rows
  pub left : Range (take m rows) 1
  pub right : Range (drop m rows) 1
  pub joins : (new : Bool)
      → joined 0 (pack wide []) (or_nothing (grown (nodes_of new (records_of (take m rows))))) (or_nothing (grown (nodes_of new (records_of (drop m rows)))))
      ≡ built (root (nodes_of new (records_of rows)))

key-some : (r : Bytes) → Formed r 0 → 0 < length (key_at r 0)
unfolding key_at
key-some r f = omega (arith, f.least, label-bits r 0 f.reach, length-take (number (take 2 (drop 1 r))) (bits_of (label_at r 0)))

module _ (rows : List Bytes) (l : Rows rows) (e : in_order (records_of rows) ≡ true) where
  root-past : Past [] rows
  root-past = in-all (Longer []) rows (λ y m. (pfx-nil _, key-some y (all_in _ rows l.each y m)))

  pub root-step : RootStep rows (lefts 0 rows)
  root-step =
      let m = lefts 0 rows in
      let R = records_of (take m rows) in
      let Q = records_of (drop m rows) in
      let whole = cut-whole m rows in
      let o = in-order (records_of rows) e in
      record {
        most = lefts-most 0 rows;
        left = record {
          formed = rows-take m rows l;
          rises = order-left R Q (rw whole at e);
          some = omega arith;
          shared = [] ▹ false;
          size = refl;
          shares = cut_low [] rows root-past;
        };
        right = record {
          formed = rows-drop m rows l;
          rises = order-right R Q (rw whole at e);
          some = omega arith;
          shared = [] ▹ true;
          size = refl;
          shares = cut_high [] rows root-past o;
        };
        joins = λ new. root-grown (nodes_of new R) (nodes_of new Q) (cut_parts rows [] root-past o new) ∙ ap (λ S. built (root S)) (sym (ap (nodes_of new) whole ∙ nodes-append new R Q));
      }

-- how many nodes are hashed for a root
pub sides-few : (rows : List Bytes) (m : ℕ) → RootStep rows m → (new : Bool)
    → (or_nothing (grown (nodes_of new (records_of (take m rows))))).count + (or_nothing (grown (nodes_of new (records_of (drop m rows))))).count ≤ 2 * length rows + 2
sides-few rows m k new = omega (
  arith,
  k.most,
  length-take m rows,
  length-drop m rows,
  or-few (grown (nodes_of new (records_of (take m rows)))),
  range-few (take m rows) k.left.rises new,
  or-few (grown (nodes_of new (records_of (drop m rows)))),
  range-few (drop m rows) k.right.rises new,
)

rows-few : (rows : List Bytes) → Rows rows → in_order (records_of rows) ≡ true → (new : Bool) → length (nodes (root (nodes_of new (records_of rows)))) ≤ 2 * length rows + 3
rows-few rows l e new =
    let k = root-step rows l e in
    omega (arith, ap (λ b. b.count) (k.joins new), sides-few rows (lefts 0 rows) k new)

pub root-few : (s : Bytes) (at n : ℕ) → Listed s at n → in_order (records_at s at n) ≡ true → (new : Bool) → length (nodes (root (nodes_of new (records_at s at n)))) ≤ 2 * n + 3
root-few s at n l e new =
    let q = rows-records s at n in
    rw (rows-length s at n, q) at (rows-few (rows_at s at n) (rows-listed s at n l) (rw q e) new)
