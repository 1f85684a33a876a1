-- A range in order is cut at the bit behind what its keys share: those with a 0 stand first, those with a 1 behind them. Assumes nothing.
use mathlib.Core.Path.{◌≡◌, refl, sym, ap, ◌∙◌}
use mathlib.Core.Bool.{Bool, true, false, cond}
use mathlib.Core.List.{List, [], ◌∷◌, ◌++◌}
use Prim.Native.Nat.{ℕ, suc, ◌+◌, ◌≤◌, ◌<◌}
use native.Mathlib.Omega.{arith}
use lib.ListN.{length, take, drop, length-take}
use native.Mathlib.Decide.{dec_lt}
use lib.Dec.{ltb}
use mathlib.Core.Logic.{by_cases}
use borrow.Author.Tests.{lt-ltb, le-ltb}
use Rattle.std.specs.Prelude.{None, Some}
use Rattle.std.specs.Option.{unwrap_or}
use Rattle.std.specs.List.{position_or_len}
use Rattle.std.proofs.lemmas.List.Recursion.{is_position_or_len}
use Rattle.std.proofs.lemmas.List.{get_or-take, take-append-drop, map-append}
use Rattle.paper.specs.Lists.{All}
use Rattle.paper.specs.Bytes.{Bytes, number}
use Rattle.paper.specs.Bits.{Bits, Pfx, ◌▹◌, bits_of}
use Rattle.paper.specs.Audit.{record_key}
use Rattle.bit_order.proofs.Order.{Ordered, ones}
use Rattle.bit_order.proofs.Cut.{pfx-goes-on}
use Rattle.audit_form.specs.Places.{label_at, key_at, record_at, records_of}
use Rattle.audit_form.proofs.Places.{record-key}
use Rattle.audit_root.specs.Built.{bit_of, lefts}

-- how many go left: no more than all, at least one where the first does, and not all where the last doesn't
lefts-none : (k : ℕ) → lefts k [] ≡ 0
unfolding lefts
lefts-none k = refl

lefts-cons : (k : ℕ) (r : Bytes) (rows : List Bytes) → lefts k (r ∷ rows) ≡ cond (bit_of k r) 0 (1 + lefts k rows)
unfolding lefts
lefts-cons k r rows = let e : suc (lefts k rows) ≡ 1 + lefts k rows = omega arith in rw e

pub lefts-most : (k : ℕ) (rows : List Bytes) → lefts k rows ≤ length rows
unfolding lefts
lefts-most k [] = omega arith
lefts-most k (r ∷ rows) = by (bit_of k r) (lefts-most k rows)
  where
    by : (b : Bool) → lefts k rows ≤ length rows → cond b 0 (suc (lefts k rows)) ≤ suc (length rows)
    by true h = omega arith
    by false h = omega arith

-- they are those before the first that goes right
pub lefts-found : (k : ℕ) (rows : List Bytes) → unwrap_or (cond (ltb (position_or_len (bit_of k) rows) (length rows)) (Some (position_or_len (bit_of k) rows)) None) (length rows) ≡ lefts k rows
lefts-found k rows =
    let e = is_position_or_len (lefts k) (bit_of k) (lefts-none k) (lefts-cons k) rows in
    rw (← e) (by_cases (dec_lt (lefts k rows) (length rows)) (λ h. rw (lt-ltb _ _ h)) (λ h. let l : length rows ≤ lefts k rows = omega arith in rw (le-ltb _ _ l) (omega (arith, lefts-most k rows))))

pub lefts-some : (k : ℕ) (r : Bytes) (rows : List Bytes) → bit_of k r ≡ false → 1 ≤ lefts k (r ∷ rows)
unfolding lefts
lefts-some k r rows e = rw e (omega arith)

pub lefts-less : (k : ℕ) (rows : List Bytes) (r : Bytes) → bit_of k r ≡ true → lefts k (rows ++ (r ∷ [])) < length (rows ++ (r ∷ []))
unfolding lefts
lefts-less k [] r e = rw e (omega arith)
lefts-less k (q ∷ rows) r e = by (bit_of k q) (lefts-less k rows r e)
  where
    by : (b : Bool) → lefts k (rows ++ (r ∷ [])) < length (rows ++ (r ∷ [])) → cond b 0 (suc (lefts k (rows ++ (r ∷ [])))) < suc (length (rows ++ (r ∷ [])))
    by true h = omega arith
    by false h = omega arith

-- a cut of the list
pub cut-whole : (m : ℕ) (rows : List Bytes) → records_of rows ≡ records_of (take m rows) ++ records_of (drop m rows)
cut-whole m rows = ap records_of (sym (take-append-drop m rows)) ∙ map-append (λ r. record_at r 0) (take m rows) (drop m rows)

module _ (p : Bits) where
  -- a key that begins with p and goes on
  abbrev pub Longer : Bytes → Type 0
  Longer r = Pfx p (key_at r 0) × (length p < length (key_at r 0))

  -- all keys of a range do
  abbrev pub Past : List Bytes → Type 0
  Past rows = All Longer rows

  -- behind a prefix of a key goes the bit of its label
  pub goes_on : (r : Bytes) → Longer r → Pfx (p ▹ bit_of (length p) r) (record_key (record_at r 0))
  unfolding key_at
  goes_on r h =
      let n = number (take 2 (drop 1 r)) in
      let short : length p < n = omega (arith, h.1, length-take n (bits_of (label_at r 0))) in
      rw (record-key r 0) (rw (get_or-take n (bits_of (label_at r 0)) (length p) false short) at (pfx-goes-on h.0 h.1))

  pub cut_low : (rows : List Bytes) → Past rows → All (λ r. Pfx (p ▹ false) (record_key r)) (records_of (take (lefts (length p) rows) rows))
  unfolding lefts
  cut_low [] h = tt
  cut_low (r ∷ rows) h = by (bit_of (length p) r) refl (cut_low rows h.1)
    where
      by : (b : Bool) → bit_of (length p) r ≡ b → All (λ r. Pfx (p ▹ false) (record_key r)) (records_of (take (lefts (length p) rows) rows))
          → All (λ r. Pfx (p ▹ false) (record_key r)) (records_of (take (cond b 0 (suc (lefts (length p) rows))) (r ∷ rows)))
      by true e k = tt
      by false e k = (rw e at (goes_on r h.0), k)

  bits : (rows : List Bytes) → Past rows → All (λ x. (d : Bool) × Pfx (p ▹ d) (record_key x)) (records_of rows)
  bits [] h = tt
  bits (r ∷ rows) h = ((bit_of (length p) r, goes_on r h.0), bits rows h.1)

  pub cut_high : (rows : List Bytes) → Past rows → Ordered record_key (records_of rows)
      → All (λ r. Pfx (p ▹ true) (record_key r)) (records_of (drop (lefts (length p) rows) rows))
  unfolding lefts
  cut_high [] h o = tt
  cut_high (r ∷ rows) h o = by (bit_of (length p) r) refl (cut_high rows h.1 o.1)
    where
      by : (b : Bool) → bit_of (length p) r ≡ b → All (λ r. Pfx (p ▹ true) (record_key r)) (records_of (drop (lefts (length p) rows) rows))
          → All (λ r. Pfx (p ▹ true) (record_key r)) (records_of (drop (cond b 0 (suc (lefts (length p) rows))) (r ∷ rows)))
      by true e k =
          let first = rw e at (goes_on r h.0) in
          (first, ones record_key p (record_at r 0) (records_of rows) o first (bits rows h.1))
      by false e k = k
