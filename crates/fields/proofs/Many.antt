-- Values of one size, one behind the other: the test of all is the test of each at its place, and so are the values. Assumes nothing.
use mathlib.Core.Path.{◌≡◌, refl, sym, ap, ap₂, ◌∙◌}
use mathlib.Core.Logic.{⊎_elim}
use mathlib.Core.Bool.{Bool, true, false, ◌&&◌}
use mathlib.Core.List.{◌∷◌, map}
use Prim.Native.Nat.{ℕ, zero, suc, ◌+◌, ◌*◌, ◌≤◌, ◌<◌}
use native.Mathlib.Nat.{zero-mul, suc-mul, mul-le-mul_right}
use native.Mathlib.Omega.{arith}
use lib.Dec.{leb-zero}
use lib.ListN.{length, drop, length-drop}
use lib.Seq.{drop-drop}
use Rattle.paper.specs.Lists.{every, up_from}
use Rattle.paper.specs.Bytes.{Bytes, Bytewise}
use Rattle.paper.specs.Layout.{Read, got, bad, in_layout, times_read}
use Rattle.paper.proofs.Lists.{true-or-false, not-both, all_in, in-all, all_drop, every-all, all-every, in-up_from, up_from-in}
use Rattle.fields.proofs.Flat.{Flat, flat_in, flat-yes, flat-no, flat-as, flat_map, flat-then}

-- counted from one further on
map-shift : {A : Type 0} (f g : ℕ → A) (a n : ℕ) → ((i : ℕ) → f i ≡ g (suc i)) → map f (up_from a n) ≡ map g (up_from (suc a) n)
unfolding up_from
map-shift f g a zero e = refl
map-shift f g a (suc n) e = ap₂ (λ x l. x ∷ l) (e a) (map-shift f g (suc a) n e)

every-shift : (f g : ℕ → Bool) (a n : ℕ) → ((i : ℕ) → f i ≡ g (suc i)) → every f (up_from a n) ≡ every g (up_from (suc a) n)
unfolding up_from every
every-shift f g a zero e = refl
every-shift f g a (suc n) e = ap₂ ◌&&◌ (e a) (every-shift f g (suc a) n e)

next : (w i : ℕ) → w + i * w ≡ suc i * w
next w i = omega (arith, suc-mul i w)

-- the place of a value, seen from the first one's end
further : (w i : ℕ) (s : Bytes) → drop (i * w) (drop w s) ≡ drop (suc i * w) s
further w i s = drop-drop (i * w) w s ∙ ap (λ k. drop k s) (next w i)

pub many-flat : {A : Type 0} {read : Bytes → Read A} {w : ℕ} {ok : Bytes → Bool} {value : Bytes → A} → Flat read w ok value → (n : ℕ)
    → Flat (times_read read n) (n * w) (λ s. every (λ i. ok (drop (i * w) s)) (up_from 0 n)) (λ s. map (λ i. value (drop (i * w) s)) (up_from 0 n))
unfolding times_read every up_from
many-flat {w = w} f zero = record { reads = λ s h. rw (zero-mul w, leb-zero (length s)) }
many-flat {w = w} {ok = ok} {value = value} f (suc n) = flat-as (next w n)
    (λ s. rw (zero-mul w) (ap (λ b. ok s && b) (every-shift (λ i. ok (drop (i * w) (drop w s))) (λ i. ok (drop (i * w) s)) 0 n (λ i. ap ok (further w i s)))))
    (λ s. rw (zero-mul w) (ap (λ l. value s ∷ l) (map-shift (λ i. value (drop (i * w) (drop w s))) (λ i. value (drop (i * w) s)) 0 n (λ i. ap value (further w i s)))))
    (flat-then f (λ x. flat_map (λ l. x ∷ l) (many-flat f n)))

-- ---- values that are tested one by one

module _ {A : Type 0} {read : Bytes → Read A} {w : ℕ} {ok : Bytes → Bool} {value : Bytes → A} (f : Flat read w ok value) (s : Bytes) (b : Bytewise s) (n : ℕ) (room : n * w ≤ length s) where
  -- whether value i is in layout
  abbrev formed : ℕ → Bool
  formed i = in_layout (read (drop (i * w) s))

  tested : (i : ℕ) → i < n → formed i ≡ ok (drop (i * w) s)
  tested i h = flat_in f (drop (i * w) s) (all_drop _ (i * w) s b) (omega (arith, length-drop (i * w) s, suc-mul i w, mul-le-mul_right {m = suc i} {n = n} w h))

  -- all are: what is read are the values that stand there
  pub many-yes : ((i : ℕ) → i < n → formed i ≡ true) → times_read read n s ≡ got (map (λ i. value (drop (i * w) s)) (up_from 0 n)) (drop (n * w) s)
  many-yes h = flat-yes (many-flat f n) s b room (all-every _ (up_from 0 n) (in-all _ (up_from 0 n) (λ i m.
      let l : i < n = omega (arith, (up_from-in 0 n i m).1) in
      sym (tested i l) ∙ h i l)))

  -- one is not
  pub many-no : (i : ℕ) → i < n → formed i ≡ false → times_read read n s ≡ bad
  many-no i h e = ⊎_elim
      (λ t. not-both (tested i h ∙ all_in _ (up_from 0 n) (every-all _ (up_from 0 n) t) i (in-up_from 0 n i (omega arith) (omega arith))) e)
      (λ t. flat-no (many-flat f n) s b t)
      (true-or-false (every (λ i. ok (drop (i * w) s)) (up_from 0 n)))
