-- The updates of a batch by their numbers. Assumes nothing.
use mathlib.Core.Path.{◌≡◌, refl, ap, ◌∙◌}
use mathlib.Core.Bool.{true, false}
use mathlib.Core.List.{[], ◌∷◌, ◌++◌, map, map-append}
use Prim.Native.Nat.{ℕ, suc, ◌+◌, ◌*◌, ◌≤◌, ◌<◌}
use native.Mathlib.Nat.{zero-add}
use native.Mathlib.Numerals.{add-one}
use native.Mathlib.Omega.{arith}
use lib.ListN.{length, take, drop, get_or, length-map, drop_of_length-le}
use lib.Seq.{drop-cons}
use Rattle.paper.specs.Lists.{◌∈◌, up_from, some}
use Rattle.paper.specs.Bytes.{Bytes, same}
use Rattle.paper.specs.Labelling.{plain, same_name}
use Rattle.paper.specs.Table.{Update}
use Rattle.paper.specs.Publish.{once}
use Rattle.paper.proofs.Lists.{up_from-length, up_from-snoc, get_or-up_from, in_map, map-in, in-up_from, up_from-in}
use Rattle.record.proofs.Places.{filled-first}
use Rattle.batch.specs.Places.{update_in, update_at, updates_in, bears_from}

pub name-part : (s : Bytes) (i : ℕ) → take (get_or s (i * 162) 0) (take 64 (drop (i * 162 + 1) s)) ≡ (update_at s i).name
unfolding update_at update_in
name-part s i = filled-first s (i * 162)

pub updates-length : (n : ℕ) (s : Bytes) → length (updates_in n s) ≡ n
unfolding updates_in
updates-length n s = length-map (up_from 0 n) (update_at s) ∙ up_from-length 0 n

pub updates-get_or : (n : ℕ) (s : Bytes) (i : ℕ) (d : Update) → i < n → get_or (updates_in n s) i d ≡ update_at s i
unfolding updates_in
updates-get_or n s i d h = get_or-up_from (update_at s) d 0 n i h ∙ ap (update_at s) (zero-add i)

pub updates-in : (n : ℕ) (s : Bytes) (i : ℕ) → i < n → update_at s i ∈ updates_in n s
unfolding updates_in
updates-in n s i h = in_map (update_at s) (up_from 0 n) i (in-up_from 0 n i (omega arith) (omega arith))

pub in-updates : (n : ℕ) (s : Bytes) (u : Update) → u ∈ updates_in n s → (i : ℕ) × (i < n) × (u ≡ update_at s i)
unfolding updates_in
in-updates n s u m =
    let (i, k, e) = map-in (update_at s) (up_from 0 n) u m in
    (i, omega (arith, (up_from-in 0 n i k).1), e)

pub updates-snoc : (n : ℕ) (s : Bytes) → updates_in (suc n) s ≡ updates_in n s ++ (update_at s n ∷ [])
unfolding updates_in
updates-snoc n s = ap (map (update_at s)) (up_from-snoc 0 n) ∙ map-append (update_at s) (up_from 0 n) ((0 + n) ∷ []) ∙ ap (λ i. map (update_at s) (up_from 0 n) ++ (update_at s i ∷ [])) (zero-add n)

-- what is left from update i on
pub updates-from : (n : ℕ) (s : Bytes) (i : ℕ) → i < n → drop i (updates_in n s) ≡ update_at s i ∷ drop (suc i) (updates_in n s)
updates-from n s i h =
    drop-cons (updates_in n s) i (update_at s i) (omega (arith, updates-length n s)) ∙ ap (λ u. u ∷ drop (suc i) (updates_in n s)) (updates-get_or n s i (update_at s i) h)

pub updates-end : (n : ℕ) (s : Bytes) (i : ℕ) → n ≤ i → drop i (updates_in n s) ≡ []
updates-end n s i h = drop_of_length-le (updates_in n s) {i = i} (omega (arith, updates-length n s))

-- ---- a name twice

module _ (n : ℕ) (s : Bytes) (i : ℕ) where
  pub bears-none : (j : ℕ) → n ≤ j → bears_from s n i j ≡ false
  unfolding bears_from some
  bears-none j h = rw (updates-end n s j h) refl

  pub bears-pass : (j : ℕ) → j < n → same (update_at s j).name (update_at s i).name ≡ false → bears_from s n i j ≡ bears_from s n i (j + 1)
  unfolding bears_from some same_name
  bears-pass j h e = rw (updates-from n s j h, e, add-one j) refl

  pub bears-hit : (j : ℕ) → j < n → same (update_at s j).name (update_at s i).name ≡ true → bears_from s n i j ≡ true
  unfolding bears_from some same_name
  bears-hit j h e = rw (updates-from n s j h, e) refl

  pub once-end : n ≤ i → once plain (drop i (updates_in n s)) ≡ true
  unfolding once
  once-end h = rw (updates-end n s i h) refl

  pub once-pass : i < n → bears_from s n i (suc i) ≡ false → once plain (drop i (updates_in n s)) ≡ once plain (drop (i + 1) (updates_in n s))
  unfolding once bears_from
  once-pass h e = rw (updates-from n s i h, e, add-one i) refl

  pub once-hit : i < n → bears_from s n i (suc i) ≡ true → once plain (drop i (updates_in n s)) ≡ false
  unfolding once bears_from
  once-hit h e = rw (updates-from n s i h, e) refl
