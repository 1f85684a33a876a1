-- A key and its opening by places. Assumes nothing.
use mathlib.Core.Path.{◌≡◌, refl, sym, ap, ◌∙◌}
use mathlib.Core.Logic.{◌⊎◌, inl, inr, by_cases}
use mathlib.Core.List.{[]}
use Prim.Native.Nat.{ℕ, suc, ◌+◌, ◌-◌, ◌≤◌, ◌<◌}
use native.Mathlib.Omega.{arith}
use native.Mathlib.Decide.{dec_le}
use lib.ListN.{length, drop, get_or, length-drop, drop_of_length-le}
use lib.Seq.{drop-drop}
use Rattle.paper.specs.Numbers.{wide, key_most}
use Rattle.paper.specs.Bytes.{Bytes, Bytewise}
use Rattle.paper.specs.Layout.{Read, got, bad, and_then, block, seq, led, view}
use Rattle.paper.specs.Fields.{digest_field, key_field}
use Rattle.paper.specs.Shows.{Item, item_field}
use Rattle.paper.proofs.Lists.{all_drop}
use Rattle.words.proofs.Number.{number-one}
use Rattle.fields.proofs.Flat.{flat-yes, flat-short, flat-no, flat-got, block-flat, within-flat, inside, outside}
use Rattle.fields.specs.After.{after_of, after_at}
use Rattle.shown.specs.Form.{item_in, ItemStands}
use Rattle.std.specs.Prelude.{Some, None}

-- no length is there
pub item-short : (s : Bytes) (at : ℕ) → length s ≤ at → after_at item_field s at ≡ None
unfolding view seq led
item-short s at h = rw (drop_of_length-le s h, flat-short (within-flat 1 1 key_most) [] tt (omega arith))

module _ (s : Bytes) (at : ℕ) (w : Bytewise s) where
  module _ (h : at < length s) where
    -- it is out of its range
    pub item-range : (get_or s at 0 < 1) ⊎ (64 < get_or s at 0) → after_at item_field s at ≡ None
    unfolding view seq led
    item-range o = rw (flat-no (within-flat 1 1 key_most) (drop at s) (all_drop _ at s w) (rw (number-one s at h) (outside 1 64 (get_or s at 0) o)))

    module _ (low : 1 ≤ get_or s at 0) (high : get_or s at 0 ≤ 64) where
      from-length : key_field.read (drop at s) ≡ (block (get_or s at 0)).read (drop (at + 1) s)
      unfolding led
      from-length =
          let n = number-one s at h in
          rw (flat-yes (within-flat 1 1 key_most) (drop at s) (all_drop _ at s w) (omega (arith, length-drop at s)) (rw n (inside 1 64 (get_or s at 0) low high)), n, drop-drop 1 at s)

      -- key and opening are not all there
      pub item-cut : length s - at < 33 + get_or s at 0 → after_at item_field s at ≡ None
      unfolding view seq
      item-cut k = rw from-length (by ((block (get_or s at 0)).read (drop (at + 1) s)) refl)
        where
          by : (m : Read Bytes) → (block (get_or s at 0)).read (drop (at + 1) s) ≡ m
              → after_of {A = Item} (length s) (and_then {A = Bytes × Bytes} (and_then m (λ x r. and_then (digest_field.read r) (λ y q. got (x, y) q))) (λ x r. got (record { key = x.0; opening = x.1 }) r)) ≡ None
          by bad e = refl
          by (got x r) e =
              let (l, _, _, b) = flat-got (block-flat (get_or s at 0)) (drop (at + 1) s) (all_drop _ (at + 1) s w) x r e in
              let z : length r < 32 = omega (arith, ap length b, length-drop (get_or s at 0) (drop (at + 1) s), length-drop (at + 1) s) in
              rw (flat-short (block-flat wide) r (rw (← b) (all_drop _ (get_or s at 0) _ (all_drop _ (at + 1) s w))) z)

      -- all is there
      pub item-good : at + 33 + get_or s at 0 ≤ length s → item_field.read (drop at s) ≡ got (item_in s at) (drop (at + 33 + get_or s at 0) s)
      unfolding view seq
      item-good k =
          let n = get_or s at 0 in
          let e : at + 1 + n + 32 ≡ at + 33 + n = omega arith in
          rw (
            from-length,
            flat-yes (block-flat n) (drop (at + 1) s) (all_drop _ (at + 1) s w) (omega (arith, length-drop (at + 1) s)) refl,
            drop-drop n (at + 1) s,
            flat-yes (block-flat wide) (drop (at + 1 + n) s) (all_drop _ (at + 1 + n) s w) (omega (arith, length-drop (at + 1 + n) s)) refl,
            drop-drop 32 (at + 1 + n) s,
            e,
          )

      pub item-after : at + 33 + get_or s at 0 ≤ length s → after_at item_field s at ≡ Some (at + 33 + get_or s at 0)
      item-after k =
          let e : length s - length (drop (at + 33 + get_or s at 0) s) ≡ at + 33 + get_or s at 0 = omega (arith, length-drop (at + 33 + get_or s at 0) s) in
          rw (item-good k, e)

  -- what was read stands at its places
  pub item-told : (i : Item) (r : Bytes) → item_field.read (drop at s) ≡ got i r → ItemStands s at × (item_in s at ≡ i)
  item-told i r e =
      let n = get_or s at 0 in
      by_cases (dec_le (suc at) (length s))
      (λ h. by_cases (dec_le 1 n)
      (λ low. by_cases (dec_le n 64)
      (λ high. by_cases (dec_le (at + 33 + n) (length s))
      (λ k. (record { room = k; most = high }, is (item-good h low high k)))
      (λ k. no (item-cut h low high (omega arith))))
      (λ high. no (item-range h (inr (omega arith)))))
      (λ low. no (item-range h (inl (omega arith)))))
      (λ h. no (item-short s at (omega arith)))
    where
      no : {A : Type 0} → after_at item_field s at ≡ None → A
      no q = let z : ◌≡◌ {A = ℕ} 0 1 = (let u : after_of (length s) (got i r) ≡ None = ap (after_of (length s)) (sym e) ∙ q in cc) in absurd (omega arith)

      is : {q : Bytes} → item_field.read (drop at s) ≡ got (item_in s at) q → item_in s at ≡ i
      is o = cc
