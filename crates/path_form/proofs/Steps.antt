-- A path's steps, one behind the other at 34 bytes each. Assumes nothing.
use mathlib.Core.Path.{◌≡◌, refl, ap, ◌∙◌}
use mathlib.Core.Logic.{◌⊎◌, inl, inr}
use mathlib.Core.Bool.{true, false}
use mathlib.Core.List.{List, [], ◌∷◌}
use Prim.Native.Nat.{ℕ, zero, suc, ◌+◌, ◌-◌, ◌*◌, ◌/◌, ◌≤◌, ◌<◌}
use native.Mathlib.Omega.{arith}
use native.Mathlib.Numerals.{add-one}
use lib.Dec.{leb}
use lib.ListN.{length, take, drop, get_or, length-drop, drop_of_length-le}
use lib.Seq.{drop-drop, take-take}
use Rattle.std.specs.Simd.{first_chunks}
use Rattle.ranges.proofs.Slices.{length_part}
use borrow.Author.Tests.{le-leb, lt-leb, leb-true}
use Rattle.paper.specs.Bytes.{Bytes, number}
use Rattle.paper.proofs.Lists.{and_left, drop-take}
use Rattle.paper.specs.Path.{last_length}
use Rattle.path_form.specs.Places.{step_in, steps_in, ranged, rising}
use Rattle.fields.proofs.Flat.{and-false}

pub steps-length : (m : ℕ) (t : Bytes) → length (steps_in m t) ≡ m
unfolding steps_in
steps-length zero t = refl
steps-length (suc m) t = ap suc (steps-length m (drop 34 t))

from_step : (i m : ℕ) (t : Bytes) → i < m → drop i (steps_in m t) ≡ step_in (drop (34 * i) t) ∷ drop (suc i) (steps_in m t)
unfolding steps_in
from_step i zero t h = absurd (omega arith)
from_step zero (suc m) t h = refl
from_step (suc i) (suc m) t h =
    let e : 34 + 34 * i ≡ 34 * suc i = omega arith in
    from_step i m (drop 34 t) (omega arith) ∙ ap (λ u. step_in u ∷ drop (suc i) (steps_in m (drop 34 t))) (drop-drop (34 * i) 34 t ∙ ap (λ n. drop n t) e)

-- step i of those from a place on, and the steps behind it
pub step-at : (s : Bytes) (at i m : ℕ) → i < m → drop i (steps_in m (drop at s)) ≡ step_in (drop (at + 34 * i) s) ∷ drop (i + 1) (steps_in m (drop at s))
step-at s at i m h = rw (add-one i, ← (drop-drop (34 * i) at s)) (from_step i m (drop at s) h)

pub no_more : (i m : ℕ) (t : Bytes) → m ≤ i → drop i (steps_in m t) ≡ []
no_more i m t h = drop_of_length-le (steps_in m t) {i = i} (omega (arith, steps-length m t))

-- the steps as chunks of 34 bytes: the length of each
chunk-number : (n : ℕ) (t : Bytes) (i : ℕ) → i < n → take 2 (get_or (first_chunks 34 n t) i []) ≡ take 2 (drop (34 * i) t)
chunk-number zero t i h = absurd (omega arith)
chunk-number (suc n) t zero h = take-take 2 34 t (omega arith)
chunk-number (suc n) t (suc i) h =
    let e : 34 + 34 * i ≡ 34 * suc i = omega arith in
    chunk-number n (drop 34 t) i (omega arith) ∙ ap (take 2) (drop-drop (34 * i) 34 t ∙ ap (λ k. drop k t) e)

module _ (s : Bytes) (at m : ℕ) (room : at + 34 * m ≤ length s) where
  abbrev part : Bytes
  part = take (at + 34 * m - at) (drop at s)

  pub chunks-many : length part / 34 ≡ m
  chunks-many = omega (arith, length_part s at (at + 34 * m - at) (omega arith))

  pub step-number : (c : List Bytes) → c ≡ first_chunks 34 (length part / 34) part → (i : ℕ) → i < m → number (take 2 (get_or c i [])) ≡ number (take 2 (drop (at + 34 * i) s))
  step-number c is i h =
      let e : at + 34 * m - at ≡ 34 * m = omega arith in
      ap (λ c. number (take 2 (get_or c i []))) (is ∙ ap (λ k. first_chunks 34 k part) chunks-many)
      ∙ ap number (chunk-number m part i h ∙ ap (λ k. take 2 (drop (34 * i) (take k (drop at s)))) e
      ∙ ap (take 2) (drop-take (34 * i) (34 * m) (drop at s)) ∙ take-take 2 (34 * m - 34 * i) (drop (34 * i) (drop at s)) (omega arith) ∙ ap (take 2) (drop-drop (34 * i) at s))

-- the last step's length
last_step : (m : ℕ) (t : Bytes) → last_length (steps_in (suc m) t) ≡ number (take 2 (drop (34 * m) t))
unfolding steps_in last_length
last_step zero t = refl
last_step (suc m) t =
    let e : 34 + 34 * m ≡ 34 * suc m = omega arith in
    last_step m (drop 34 t) ∙ ap (λ u. number (take 2 u)) (drop-drop (34 * m) 34 t ∙ ap (λ n. drop n t) e)

pub last-at : (s : Bytes) (at m : ℕ) → 1 ≤ m → last_length (steps_in m (drop at s)) ≡ number (take 2 (drop (at + 34 * (m - 1)) s))
last-at s at m h =
    let e : m ≡ suc (m - 1) = omega arith in
    ap (λ n. last_length (steps_in n (drop at s))) e ∙ last_step (m - 1) (drop at s) ∙ ap (λ u. number (take 2 u)) (drop-drop (34 * (m - 1)) at s)

-- ---- rising lengths

-- there is room for the steps, or not
pub rising-room : (m : ℕ) (t : Bytes) → 34 * m ≤ length t → rising m t ≡ ranged 0 0 (steps_in m t)
unfolding rising
rising-room m t h = rw (le-leb (34 * m) (length t) h)

pub rising-cut : (m : ℕ) (t : Bytes) → length t < 34 * m → rising m t ≡ false
unfolding rising
rising-cut m t h = rw (lt-leb (34 * m) (length t) h)

pub rising-there : (s : Bytes) (at m : ℕ) → at ≤ length s → rising m (drop at s) ≡ true → at + 34 * m ≤ length s
unfolding rising
rising-there s at m h e = omega (arith, length-drop at s, leb-true (34 * m) (length (drop at s)) (and_left (leb (34 * m) (length (drop at s))) _ e))

-- what the rest says, from step i on
module _ (s : Bytes) (at i m low high : ℕ) where
  pub rises-end : m ≤ i → ranged low high (drop i (steps_in m (drop at s))) ≡ true
  unfolding ranged
  rises-end h = rw (no_more i m (drop at s) h)

  module _ (k : ℕ) (h : i < m) (e : k ≡ number (take 2 (drop (at + 34 * i) s))) where
    pub rises-stop : (k < low) ⊎ (high < k) → ranged low high (drop i (steps_in m (drop at s))) ≡ false
    unfolding ranged
    rises-stop (inl l) = rw (step-at s at i m h, ← e, lt-leb low k l)
    rises-stop (inr l) = rw (step-at s at i m h, ← e, lt-leb k high l, and-false)

    pub rises-on : low ≤ k → k ≤ high → ranged low high (drop i (steps_in m (drop at s))) ≡ ranged (k + 1) 255 (drop (i + 1) (steps_in m (drop at s)))
    unfolding ranged
    rises-on l r = rw (step-at s at i m h, ← e, le-leb low k l, le-leb k high r, add-one k)
