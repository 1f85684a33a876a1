-- The last number that passes a test, and the bucket of a name. Assumes nothing.
use mathlib.Core.Path.{◌≡◌, refl, sym, ap, ◌∙◌}
use mathlib.Core.Bool.{Bool, true, false, cond}
use mathlib.Core.List.{[], ◌∷◌}
use Rattle.std.specs.Prelude.{Option, None, Some}
use Prim.Native.Nat.{ℕ, zero, suc, ◌+◌, ◌*◌, ◌%◌, ◌≤◌, ◌<◌}
use native.Mathlib.Nat.{mod-lt}
use native.Mathlib.Numerals.{add-one}
use native.Mathlib.Omega.{arith}
use lib.ListN.{length, drop, get_or, drop_of_length-le}
use lib.Seq.{drop-cons}
use Rattle.paper.specs.Bytes.{Bytes}
use Rattle.paper.proofs.Lists.{not-both}
use Rattle.table.specs.Index.{buckets, linked, mixed, bucket_of, last_where, up_to}

-- ---- the last number that passes

pub some-none : {o : Option ℕ} {k : ℕ} → o ≡ Some k → o ≡ None → ⊥
some-none p q = cc

pub some-one : {o : Option ℕ} {j k : ℕ} → o ≡ Some j → o ≡ Some k → j ≡ k
some-one p q = cc

-- entries that say the same are one
pub linked-one : (a b : ℕ) → linked a ≡ linked b → a ≡ b
linked-one zero zero e = refl
linked-one zero (suc k) e = absurd (some-none refl (sym e))
linked-one (suc j) zero e = absurd (some-none refl e)
linked-one (suc j) (suc k) e = ap suc (some-one refl e)

module _ (t : ℕ → Bool) where
  pub last_none : last_where t 0 ≡ None
  unfolding last_where
  last_none = refl

  pub last-yes : (n : ℕ) → t n ≡ true → last_where t (suc n) ≡ Some n
  unfolding last_where
  last-yes n e = rw e

  pub last-no : (n : ℕ) → t n ≡ false → last_where t (suc n) ≡ last_where t n
  unfolding last_where
  last-no n e = rw e

  pub last-most : (n k : ℕ) → last_where t n ≡ Some k → k < n
  last-most zero k h = absurd (some-none h last_none)
  last-most (suc n) k h = by (t n) refl (last-most n k)
    where
      by : (b : Bool) → t n ≡ b → (last_where t n ≡ Some k → k < n) → k < suc n
      by true e f = let q : n ≡ k = some-one (last-yes n e) h in omega (arith, q)
      by false e f = omega (arith, f (sym (last-no n e) ∙ h))

  -- it passes
  pub last-passes : (n k : ℕ) → last_where t n ≡ Some k → t k ≡ true
  last-passes zero k h = absurd (some-none h last_none)
  last-passes (suc n) k h = by (t n) refl (last-passes n k)
    where
      by : (b : Bool) → t n ≡ b → (last_where t n ≡ Some k → t k ≡ true) → t k ≡ true
      by true e f = ap t (sym (some-one (last-yes n e) h)) ∙ e
      by false e f = f (sym (last-no n e) ∙ h)

-- what passes below n decides
pub last-same : (t u : ℕ → Bool) (n : ℕ) → ((k : ℕ) → k < n → t k ≡ u k) → last_where t n ≡ last_where u n
unfolding last_where
last-same t u zero h = refl
last-same t u (suc n) h = rw (h n (omega arith), last-same t u n (λ k l. h k (omega arith)))

-- where all that pass one test pass another, the last that passes the first is not above the last that passes the second
pub last-below : (t u : ℕ → Bool) → ((k : ℕ) → u k ≡ true → t k ≡ true) → (n : ℕ) → last_where u n ≡ last_where u (up_to (last_where t n))
unfolding last_where
last-below t u h zero = refl
last-below t u h (suc n) = by (t n) refl (u n) refl (last-below t u h n)
  where
    by : (b : Bool) → t n ≡ b → (c : Bool) → u n ≡ c → last_where u n ≡ last_where u (up_to (last_where t n))
        → cond c (Some n) (last_where u n) ≡ last_where u (up_to (cond b (Some n) (last_where t n)))
    by true p true q e = sym (last-yes u n q)
    by true p false q e = sym (last-no u n q)
    by false p true q e = not-both (h n q) p
    by false p false q e = e

-- ---- buckets

mixed-lt : (h : ℕ) (s : Bytes) → h < buckets → mixed h s < buckets
unfolding mixed
mixed-lt h [] l = l
mixed-lt h (b ∷ s) l = mixed-lt ((h * 31 + b) % buckets) s (mod-lt (h * 31 + b) (omega arith))

pub bucket-lt : (name : Bytes) → bucket_of name < buckets
unfolding bucket_of
bucket-lt name = mixed-lt 0 name (omega arith)

-- as it is mixed: from nothing, one byte more, all
pub bucket-start : (name : Bytes) → bucket_of name ≡ mixed 0 (drop 0 name)
unfolding bucket_of
bucket-start name = refl

pub bucket-more : (h : ℕ) (name : Bytes) (i : ℕ) → i < length name → mixed h (drop i name) ≡ mixed ((h * 31 + get_or name i 0) % buckets) (drop (i + 1) name)
unfolding mixed
bucket-more h name i l = rw (add-one i, drop-cons name i 0 l)

pub bucket-all : (h : ℕ) (name : Bytes) (i : ℕ) → length name ≤ i → mixed h (drop i name) ≡ h
unfolding mixed
bucket-all h name i l = rw (drop_of_length-le name l)
