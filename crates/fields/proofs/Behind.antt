-- What stands behind a reading stands in the same bytes, further on. Assumes nothing.
use mathlib.Core.Path.{◌≡◌, refl, sym, ap, ◌∙◌}
use mathlib.Core.List.{List, ◌∷◌}
use Prim.Native.Nat.{ℕ, suc, ◌+◌, ◌-◌, ◌≤◌, ◌<◌}
use native.Mathlib.Omega.{arith}
use lib.ListN.{length, drop, length-append, length-drop}
use lib.Seq.{drop_at, drop-drop}
use Rattle.paper.specs.Bytes.{Bytes, Bytewise}
use Rattle.paper.specs.Layout.{Layout, Read, got, bad, and_then, times, times_read}
use Rattle.paper.proofs.Lists.{all_drop}
use Rattle.paper.proofs.Layouts.{Lawful, then-got}
use Rattle.fields.specs.After.{after_of, after_at}
use Rattle.std.specs.Prelude.{Some, None}

-- what was read in s from `at` on: it fits, its bytes stand there, and the rest behind them
pub record Stood {A : Type 0} (a : Layout A) (s : Bytes) (at : ℕ) (x : A) (r : Bytes) : Type 0 where
  pub fits : a.Fits x
  pub place : length s - length r ≡ at + length (a.bytes x)
  pub room : at + length (a.bytes x) ≤ length s
  pub rest : drop (at + length (a.bytes x)) s ≡ r

-- m + 1 values that stand in s from `at` on, and r behind them: the first, and those behind it
pub record First {A : Type 0} (a : Layout A) (s : Bytes) (at m : ℕ) (xs : List A) (r : Bytes) : Type 0 where
  pub value : A
  pub others : List A
  pub next : ℕ
  pub is : value ∷ others ≡ xs
  pub reads : a.read (drop at s) ≡ got value (drop next s)
  pub rest : (times m a).read (drop next s) ≡ got others r
  pub room : next ≤ length s

module _ {A : Type 0} {a : Layout A} (h : Lawful a) (s : Bytes) (w : Bytewise s) where
  pub stood : (at : ℕ) (x : A) (r : Bytes) → at ≤ length s → a.read (drop at s) ≡ got x r → Stood a s at x r
  stood at x r l e =
      let (f, b) = h.tells (drop at s) x r (all_drop _ at s w) e in
      let n : length (a.bytes x) + length r ≡ length s - at = sym (length-append (a.bytes x) r) ∙ ap length b ∙ length-drop at s in
      record {
        fits = f;
        place = omega arith;
        room = omega arith;
        rest = sym (drop-drop (length (a.bytes x)) at s) ∙ ap (drop (length (a.bytes x))) (sym b) ∙ drop_at (a.bytes x) r (length (a.bytes x)) refl;
      }

  pub first_of : (at m : ℕ) (xs : List A) (r : Bytes) → at ≤ length s → (times (suc m) a).read (drop at s) ≡ got xs r → First a s at m xs r
  unfolding times times_read
  first_of at m xs r l e =
      let (x, q, e₁, e₂) = then-got (a.read (drop at s)) _ xs r e in
      let (k, p, e₃, e₄) = then-got (times_read a.read m q) _ xs r e₂ in
      let t = stood at x q l e₁ in
      let z : p ≡ r = cc in
      record {
        value = x;
        others = k;
        next = at + length (a.bytes x);
        is = cc;
        reads = rw t.rest e₁;
        rest = rw t.rest (e₃ ∙ ap (got k) z);
        room = t.room;
      }

  -- the place behind is no place outside
  pub after-within : (at next : ℕ) → at ≤ length s → after_at a s at ≡ Some next → next ≤ length s
  after-within at next l e = by (a.read (drop at s)) refl e
    where
      by : (m : Read A) → a.read (drop at s) ≡ m → after_of (length s) m ≡ Some next → next ≤ length s
      by bad q e = let z : ◌≡◌ {A = ℕ} 0 1 = cc in absurd (omega arith)
      by (got x r) q e = let p : length s - length r ≡ next = cc in omega arith

  -- n values one behind the other: the first is read, and the others behind it; or it is not
  pub times-on : (n at next : ℕ) → at ≤ length s → after_at a s at ≡ Some next → after_at (times (suc n) a) s at ≡ after_at (times n a) s next
  unfolding times times_read
  times-on n at next l e = by (a.read (drop at s)) refl e
    where
      many : (x : A) (m : Read (List A)) → after_of (length s) (and_then m (λ k q. got (x ∷ k) q)) ≡ after_of (length s) m
      many x bad = refl
      many x (got k q) = refl

      by : (m : Read A) → a.read (drop at s) ≡ m → after_of (length s) m ≡ Some next
          → after_of (length s) (and_then m (λ x r. and_then (times_read a.read n r) (λ k q. got (x ∷ k) q))) ≡ after_of (length s) (times_read a.read n (drop next s))
      by bad q e = let z : ◌≡◌ {A = ℕ} 0 1 = cc in absurd (omega arith)
      by (got x r) q e =
          let t = stood at x r l q in
          let p : next ≡ at + length (a.bytes x) = (let u : length s - length r ≡ next = cc in sym u ∙ t.place) in
          many x (times_read a.read n r) ∙ ap (λ u. after_of (length s) (times_read a.read n u)) (sym t.rest ∙ ap (λ i. drop i s) (sym p))

  pub times-stop : (n at : ℕ) → after_at a s at ≡ None → after_at (times (suc n) a) s at ≡ None
  unfolding times times_read
  times-stop n at e = by (a.read (drop at s)) e
    where
      by : (m : Read A) → after_of (length s) m ≡ None
          → after_of (length s) (and_then m (λ x r. and_then (times_read a.read n r) (λ k q. got (x ∷ k) q))) ≡ None
      by bad e = refl
      by (got x r) e = let z : ◌≡◌ {A = ℕ} 0 1 = cc in absurd (omega arith)

  pub times_none : (at : ℕ) → at ≤ length s → after_at (times 0 a) s at ≡ Some at
  unfolding times times_read
  times_none at l = let e : length s - length (drop at s) ≡ at = omega (arith, length-drop at s) in ap Some e

  -- as a loop goes: i of n are behind
  module _ (n i at : ℕ) (l : at ≤ length s) where
    pub loop-on : (next : ℕ) → i < n → after_at a s at ≡ Some next → after_at (times (n - i) a) s at ≡ after_at (times (n - (i + 1)) a) s next
    loop-on next k e = let j : n - i ≡ suc (n - (i + 1)) = omega arith in rw j (times-on (n - (i + 1)) at next l e)

    pub loop-stop : i < n → after_at a s at ≡ None → after_at (times (n - i) a) s at ≡ None
    loop-stop k e = let j : n - i ≡ suc (n - (i + 1)) = omega arith in rw j (times-stop (n - (i + 1)) at e)

    pub loop-end : n ≤ i → after_at (times (n - i) a) s at ≡ Some at
    loop-end k = let j : n - i ≡ 0 = omega arith in rw j (times_none at l)
