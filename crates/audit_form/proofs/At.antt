-- What a layout reads at a place of a string, as a test and a value: one law for each layout. Assumes nothing.
use mathlib.Core.Path.{◌≡◌, refl, sym, ap, ◌∙◌}
use mathlib.Core.Logic.{by_cases}
use mathlib.Core.Bool.{Bool, true, false, cond, ◌&&◌}
use Prim.Native.Nat.{ℕ, ◌+◌, ◌<◌}
use native.Mathlib.Omega.{arith}
use native.Mathlib.Decide.{dec_le}
use lib.Dec.{leb}
use lib.ListN.{length, take, drop, length-drop}
use lib.Seq.{drop-drop}
use borrow.Author.Tests.{le-leb, lt-leb}
use Rattle.paper.specs.Bytes.{Bytes, Bytewise, number, same}
use Rattle.paper.specs.Layout.{Read, got, bad, Layout, and_then, block, fixed, within, seq, led, such, view}
use Rattle.paper.proofs.Lists.{all_drop}
use Rattle.fields.proofs.Flat.{Flat}

-- read at place `at` of s: the value x, and the place `next` behind it, if the test t holds
pub record ReadAt {A : Type 0} (a : Layout A) (s : Bytes) (at : ℕ) (t : Bool) (x : A) (next : ℕ) : Type 0 where
  pub reads : a.read (drop at s) ≡ cond t (got x (drop next s)) bad

-- a string is long enough behind a place just when it reaches the next
reaches : (s : Bytes) (at n next : ℕ) → 0 < n → at + n ≡ next → leb n (length (drop at s)) ≡ leb next (length s)
reaches s at n next h e = by_cases (dec_le next (length s))
    (λ k. le-leb n _ (omega (arith, length-drop at s)) ∙ sym (le-leb next _ k))
    (λ k. lt-leb n _ (omega (arith, length-drop at s)) ∙ sym (lt-leb next _ (omega arith)))

behind : (s : Bytes) (at n next : ℕ) → at + n ≡ next → drop n (drop at s) ≡ drop next s
behind s at n next e = drop-drop n at s ∙ ap (λ i. drop i s) e

pub block_at : (n : ℕ) (s : Bytes) (at next : ℕ) → 0 < n → at + n ≡ next → ReadAt (block n) s at (leb next (length s)) (take n (drop at s)) next
unfolding block
block_at n s at next h e = record { reads = rw (reaches s at n next h e, behind s at n next e) }

-- a layout of a fixed size
pub flat-at : {A : Type 0} (a : Layout A) {n : ℕ} {ok : Bytes → Bool} {value : Bytes → A} → Flat a.read n ok value → (s : Bytes) → Bytewise s → (at next : ℕ) → 0 < n → at + n ≡ next
    → ReadAt a s at (leb next (length s) && ok (drop at s)) (value (drop at s)) next
flat-at a {n = n} f s w at next h e = record { reads = f.reads (drop at s) (all_drop _ at s w) ∙ rw (reaches s at n next h e, behind s at n next e) }

pub fixed-at : (x s : Bytes) (at next : ℕ) → at + length x ≡ next → ReadAt (fixed x) s at (same (take (length x) (drop at s)) x) tt next
unfolding fixed
fixed-at x s at next e = record { reads = rw (behind s at (length x) next e) }

pub within-at : (k low high : ℕ) (s : Bytes) (at next : ℕ) → 0 < k → at + k ≡ next
    → ReadAt (within k low high) s at (leb next (length s) && (leb low (number (take k (drop at s))) && leb (number (take k (drop at s))) high)) (number (take k (drop at s))) next
unfolding within
within-at k low high s at next h e = record { reads = rw (reaches s at k next h e, behind s at k next e) }

-- reading on, and taking over
pub then-cond : {A B : Type 0} (t u : Bool) (x : A) (r : Bytes) (f : A → Bytes → Read B) (y : B) (q : Bytes) → f x r ≡ cond u (got y q) bad
    → and_then (cond t (got x r) bad) f ≡ cond (t && u) (got y q) bad
then-cond true u x r f y q e = e
then-cond false u x r f y q e = refl

pub over-cond : {A B : Type 0} (t : Bool) (x : A) (r : Bytes) (g : A → B) → and_then (cond t (got x r) bad) (λ x r. got (g x) r) ≡ cond t (got (g x) r) bad
over-cond true x r g = refl
over-cond false x r g = refl

module _ {s : Bytes} {at next : ℕ} where
  pub seq-at : {A B : Type 0} {a : Layout A} {b : Layout B} {t u : Bool} {x : A} {y : B} {m : ℕ} → ReadAt a s at t x m → ReadAt b s m u y next → ReadAt (seq a (λ _. b)) s at (t && u) (x, y) next
  unfolding seq
  seq-at {b = b} {t = t} {u = u} {x = x} {y = y} {m = m} h k = record {
    reads = ap (λ z. and_then z (λ x r. and_then (b.read r) (λ y q. got (x, y) q))) h.reads
        ∙ then-cond t u x (drop m s) _ (x, y) (drop next s) (ap (λ z. and_then z (λ y q. got (x, y) q)) k.reads ∙ over-cond u y (drop next s) (λ y. (x, y)));
  }

  pub led-at : {A : Type 0} (size : A → ℕ) (a : ℕ → Layout A) {n : Layout ℕ} {t u : Bool} {k : ℕ} {x : A} {m : ℕ} → ReadAt n s at t k m → ReadAt (a k) s m u x next → ReadAt (led n size a) s at (t && u) x next
  unfolding led
  led-at size a {t = t} {u = u} {k = k} {x = x} {m = m} h g = record {
    reads = ap (λ z. and_then z (λ k r. (a k).read r)) h.reads ∙ then-cond t u k (drop m s) (λ k r. (a k).read r) x (drop next s) g.reads;
  }

  pub view-at : {A B : Type 0} (to : A → B) (from : B → A) {a : Layout A} {t : Bool} {x : A} → ReadAt a s at t x next → ReadAt (view a to from) s at t (to x) next
  unfolding view
  view-at to from {t = t} {x = x} h = record {
    reads = ap (λ z. and_then z (λ x r. got (to x) r)) h.reads ∙ over-cond t x (drop next s) to;
  }

  pub such-at : {A : Type 0} (test : A → Bool) {a : Layout A} {t : Bool} {x : A} → ReadAt a s at t x next → ReadAt (such a test) s at (t && test x) x next
  unfolding such
  such-at test {t = t} {x = x} h = record {
    reads = ap (λ z. and_then z (λ x r. cond (test x) (got x r) bad)) h.reads ∙ then-cond t (test x) x (drop next s) (λ x r. cond (test x) (got x r) bad) x (drop next s) refl;
  }
