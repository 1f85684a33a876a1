-- The fields of a path by places: its steps, and each kind of end. Assumes nothing.
use mathlib.Core.Path.{◌≡◌, refl, sym, ap, ◌∙◌}
use mathlib.Core.Bool.{Bool, true, false, ◌&&◌}
use mathlib.Core.List.{List, [], ◌∷◌}
use Prim.Native.Nat.{ℕ, zero, suc, ◌*◌}
use native.Mathlib.Omega.{arith}
use lib.Dec.{leb, eqb, leb-zero, leb-suc-zero, eqb-suc-zero}
use lib.ListN.{length, take, drop}
use lib.Seq.{drop-drop}
use Rattle.paper.specs.Lists.{every}
use Rattle.paper.specs.Numbers.{wide}
use Rattle.paper.specs.Bytes.{Bytes, number, same}
use Rattle.paper.specs.Bits.{bits_of}
use Rattle.paper.specs.Layout.{block, fixed, within, seq, times, times_read, such}
use Rattle.paper.specs.Fields.{digest_field, epoch_field, label_field, prefix_field, step_field, rise_from, rise, end_of}
use Rattle.paper.specs.Path.{Step, End, this, other, off, none}
use Rattle.path_form.specs.Places.{step_in, steps_in, ranged, prefix_length, prefix_bytes, prefix_good}
use Rattle.fields.proofs.Flat.{Flat, and-true, and-false, flat-as, flat_map, flat-then, block-flat, within-flat, seq-flat, led-flat, view-flat, such-flat, epoch-flat}

digest-flat : Flat digest_field.read 32 (λ s. true) (take 32)
digest-flat = block-flat wide

-- ---- steps

abbrev short : Step → Bool
short t = leb t.length 255

step-flat : Flat step_field.read 34 (λ s. short (step_in s)) step_in
step-flat = flat-as refl (λ s. rw (leb-zero (number (take 2 s)), and-true (leb (number (take 2 s)) 255))) (λ s. refl)
    (view-flat _ _ _ (seq-flat (within 2 0 255) (λ _. digest_field) (within-flat 2 0 255) (λ _. digest-flat)))

many-flat : (m : ℕ) → Flat (times_read step_field.read m) (34 * m) (λ s. every short (steps_in m s)) (steps_in m)
unfolding times_read steps_in every
many-flat zero = record { reads = λ s w. rw (leb-zero (length s)) }
many-flat (suc m) = flat-as (omega arith) (λ s. refl) (λ s. refl) (flat-then step-flat (λ x. flat_map (λ l. x ∷ l) (many-flat m)))

-- "Lengths begin at 0, rise strictly and are at most 255", read as one range after the other
rest-ranged : (low : ℕ) (l : List Step) → (every short l && rise_from low l) ≡ ranged low 255 l
unfolding every rise_from ranged
rest-ranged low [] = refl
rest-ranged low (t ∷ l) =
    let k = t.length in
    and-mix (leb k 255) (every short l) (leb low k) (rise_from (suc k) l) ∙ ap (λ b. leb low k && (leb k 255 && b)) (rest-ranged (suc k) l)
  where
    and-mix : (a b c d : Bool) → ((a && b) && (c && d)) ≡ (c && (a && (b && d)))
    and-mix true b true d = refl
    and-mix true b false d = and-false b
    and-mix false b c d = sym (and-false c)

steps-ranged : (l : List Step) → (every short l && rise l) ≡ ranged 0 0 l
unfolding every rise ranged
steps-ranged [] = refl
steps-ranged (t ∷ l) = by t.length refl
  where
    by : (k : ℕ) → t.length ≡ k → (every short (t ∷ l) && rise (t ∷ l)) ≡ ranged 0 0 (t ∷ l)
    by zero e = rw e (rest-ranged 1 l)
    by (suc k) e = rw (e, eqb-suc-zero k, leb-suc-zero k, leb-zero (suc k), and-false)

pub steps-flat : (m : ℕ) → Flat (such (times m step_field) rise).read (34 * m) (λ s. ranged 0 0 (steps_in m s)) (steps_in m)
unfolding times
steps-flat m = flat-as refl (λ s. steps-ranged (steps_in m s)) (λ s. refl) (such-flat (times m step_field) rise (many-flat m))

-- ---- ends

abbrev pub this_in : Bytes → End
this_in s = this (take 32 s) (number (take 4 (drop 32 s)))

abbrev pub other_in : Bytes → End
other_in s = other (bits_of (take 32 s)) (take 32 (drop 32 s)) (number (take 4 (drop 64 s)))

abbrev pub off_in : Bytes → End
off_in s = off (take (prefix_length s) (bits_of (prefix_bytes s))) (take 32 (drop 34 s)) (take 32 (drop 66 s))

nothing-flat : Flat (fixed []).read 0 (λ s. true) (λ s. tt)
unfolding fixed same
nothing-flat = record { reads = λ s w. rw (leb-zero (length s)) }

module _ (m : ℕ) where
  pub this-flat : Flat (end_of m 0).read 36 (λ s. true) this_in
  unfolding end_of
  this-flat = view-flat _ _ _ (seq-flat digest_field (λ _. epoch_field) digest-flat (λ _. epoch-flat))

  pub other-flat : Flat (end_of m 1).read 68 (λ s. true) other_in
  unfolding end_of
  other-flat = flat-as refl (λ s. refl) (λ s. rw (drop-drop 32 32 s))
      (view-flat _ _ _ (seq-flat label_field (λ _. seq digest_field (λ _. epoch_field)) (view-flat _ _ _ digest-flat) (λ _. seq-flat digest_field (λ _. epoch_field) digest-flat (λ _. epoch-flat))))

  pub off-flat : Flat (end_of m 2).read 98 prefix_good off_in
  unfolding end_of prefix_good
  off-flat = flat-as refl (λ s. and-true (prefix_good s)) (λ s. rw (drop-drop 32 34 s))
      (view-flat _ _ _ (seq-flat prefix_field (λ _. seq digest_field (λ _. digest_field))
      (led-flat _ _ _ (within-flat 2 1 255) (λ n. view-flat _ _ _ (such-flat (block wide) _ digest-flat)))
      (λ _. seq-flat digest_field (λ _. digest_field) digest-flat (λ _. digest-flat))))

  pub none-flat : Flat (end_of m 3).read 0 (λ s. eqb m 1) (λ s. none)
  unfolding end_of
  none-flat = such-flat _ _ (view-flat (fixed []) _ _ nothing-flat)
