-- A name's own records, by the last of them: it decides what may follow. Assumes nothing.
use mathlib.Core.Path.{◌≡◌, refl, sym, ap, ap₂, ◌∙◌, subst}
use mathlib.Core.Bool.{Bool, true, false, cond, ◌&&◌, and-true, and-false, and_assoc}
use mathlib.Core.List.{List, [], ◌∷◌, ◌++◌, append-nil}
use Prim.Native.Nat.{ℕ, zero, suc, ◌+◌, ◌<◌}
use native.Mathlib.Omega.{arith}
use lib.Dec.{eqb, ltb}
use lib.ListN.{length, length-append}
use borrow.Author.Tests.{lt-ltb, ltb-true}
use Rattle.paper.specs.Lists.{All, every, keep}
use Rattle.paper.specs.Bytes.{Bytes}
use Rattle.paper.specs.Labelling.{plain, same_name}
use Rattle.paper.specs.Table.{Record, own_records, in_shape, last_version}
use Rattle.paper.proofs.Lists.{all_in, in-all, all-every, keep_append, keep_one}
use Rattle.paper.proofs.Records.{Runs, own_runs}
use Rattle.record.specs.Places.{record_at, records_in}
use Rattle.record.proofs.Places.{records-none, records-snoc}
use Rattle.table.specs.Index.{last_where, named}
use Rattle.table.specs.Shape.{version_follows}
use Rattle.std.specs.Prelude.{None, Some}
use Rattle.table.proofs.Last.{some-none, some-one, last_none, last-yes, last-no}

-- ---- lists with one more at the end

pub every-snoc : {A : Type 0} (t : A → Bool) (l : List A) (x : A) → every t (l ++ (x ∷ [])) ≡ (every t l && t x)
unfolding every
every-snoc t [] x = and-true (t x)
every-snoc t (a ∷ l) x = ap (λ b. t a && b) (every-snoc t l x) ∙ sym (and_assoc (t a) (every t l) (t x))

-- where the others pass if the last does, the last decides
pub every-last : {A : Type 0} (t : A → Bool) (l : List A) (x : A) → (t x ≡ true → All (λ a. t a ≡ true) l) → every t (l ++ (x ∷ [])) ≡ t x
every-last t l x h = every-snoc t l x ∙ by (t x) refl
  where
    by : (b : Bool) → t x ≡ b → (every t l && b) ≡ b
    by true e = rw (all-every t l (h e))
    by false e = and-false (every t l)

pub last_snoc : (l : List Record) (r : Record) → last_version (l ++ (r ∷ [])) ≡ r.version
unfolding last_version
last_snoc [] r = refl
last_snoc (q ∷ []) r = refl
last_snoc (q ∷ x ∷ l) r = last_snoc (x ∷ l) r

-- the last of a run has the version behind the others', and an epoch above theirs
runs-snoc : (k e : ℕ) (l : List Record) (r : Record) → Runs k e (l ++ (r ∷ [])) → (r.version ≡ suc (k + length l)) × All (λ q. q.epoch < r.epoch) l × (e < r.epoch)
runs-snoc k e [] r h = (omega arith, tt, h.1)
runs-snoc k e (q ∷ l) r h =
    let (v, a, b) = runs-snoc (suc k) q.epoch l r h.2 in
    (omega arith, (b, a), omega arith)

-- ---- those of the first n records that pass a test

module _ (u : Record → Bool) (s : Bytes) where
  abbrev kept : ℕ → List Record
  kept n = keep u (records_in n s)

  abbrev passes : ℕ → Bool
  passes k = u (record_at s k)

  kept-suc : (n : ℕ) → kept (suc n) ≡ kept n ++ cond (passes n) (record_at s n ∷ []) []
  kept-suc n = ap (keep u) (records-snoc n s) ∙ keep_append u (records_in n s) (record_at s n ∷ []) ∙ ap (λ l. kept n ++ l) (keep_one u (record_at s n))

  pub kept-yes : (n : ℕ) → passes n ≡ true → kept (suc n) ≡ kept n ++ (record_at s n ∷ [])
  kept-yes n e = kept-suc n ∙ ap (λ b. kept n ++ cond b (record_at s n ∷ []) []) e

  pub kept-no : (n : ℕ) → passes n ≡ false → kept (suc n) ≡ kept n
  kept-no n e = kept-suc n ∙ ap (λ b. kept n ++ cond b (record_at s n ∷ []) []) e ∙ append-nil (kept n)

  pub kept-zero : kept 0 ≡ []
  unfolding keep
  kept-zero = ap (keep u) (records-none s)

  -- there is none, or there is a last one
  pub kept-none : (n : ℕ) → last_where passes n ≡ None → kept n ≡ []
  kept-none zero h = kept-zero
  kept-none (suc n) h = by (passes n) refl (kept-none n)
    where
      by : (b : Bool) → passes n ≡ b → (last_where passes n ≡ None → kept n ≡ []) → kept (suc n) ≡ []
      by true e f = absurd (some-none (last-yes passes n e) h)
      by false e f = kept-no n e ∙ f (sym (last-no passes n e) ∙ h)

  pub kept-last : (n k : ℕ) → last_where passes n ≡ Some k → kept n ≡ kept k ++ (record_at s k ∷ [])
  kept-last zero k h = absurd (some-none h (last_none passes))
  kept-last (suc n) k h = by (passes n) refl (kept-last n k)
    where
      by : (b : Bool) → passes n ≡ b → (last_where passes n ≡ Some k → kept n ≡ kept k ++ (record_at s k ∷ [])) → kept (suc n) ≡ kept k ++ (record_at s k ∷ [])
      by true e f = let q : n ≡ k = some-one (last-yes passes n e) h in rw (← q) (kept-yes n e)
      by false e f = kept-no n e ∙ f (sym (last-no passes n e) ∙ h)

-- ---- a name's own records among the first n

module _ (s name : Bytes) where
  abbrev own : ℕ → List Record
  own n = own_records plain name (records_in n s)

  -- there is none, or there is a last one
  pub own-none : (n : ℕ) → last_where (named s name) n ≡ None → own n ≡ []
  unfolding own_records
  own-none n h = kept-none (λ r. same_name plain r.name name) s n h

  pub own-last : (n k : ℕ) → last_where (named s name) n ≡ Some k → own n ≡ own k ++ (record_at s k ∷ [])
  unfolding own_records
  own-last n k h = kept-last (λ r. same_name plain r.name name) s n k h

  -- the version of the last, or 0
  pub version-none : (n : ℕ) → last_where (named s name) n ≡ None → 0 ≡ last_version (own n)
  unfolding last_version
  version-none n h = sym (ap last_version (own-none n h))

  pub version-last : (n k : ℕ) → last_where (named s name) n ≡ Some k → (record_at s k).version ≡ last_version (own n)
  version-last n k h = sym (ap last_version (own-last n k h) ∙ last_snoc (own k) (record_at s k))

-- ---- what may follow the first n records, which are in shape

module _ (s : Bytes) (n : ℕ) (r : Record) where
  pub follows-none : last_where (named s r.name) n ≡ None → version_follows (records_in n s) r ≡ eqb r.version 1
  unfolding every
  follows-none h = rw (own-none s r.name n h) (and-true (eqb r.version 1))

  pub follows-last : (epoch : ℕ) → in_shape plain epoch [] (records_in n s) ≡ true → (k : ℕ) → last_where (named s r.name) n ≡ Some k
      → version_follows (records_in n s) r ≡ (eqb r.version (suc (record_at s k).version) && ltb (record_at s k).epoch r.epoch)
  follows-last epoch shape k h =
      let q = record_at s k in
      let l = own s r.name k in
      let o : own s r.name n ≡ l ++ (q ∷ []) = own-last s r.name n k h in
      let (v, a, _) = runs-snoc 0 0 l q (subst (Runs 0 0) o (own_runs plain r.name epoch (records_in n s) shape)) in
      let m : length (own s r.name n) ≡ q.version = ap length o ∙ omega (arith, length-append l (q ∷ [])) in
      let t : Record → Bool = λ x. ltb x.epoch r.epoch in
      let e : every t (own s r.name n) ≡ t q = ap (every t) o ∙ every-last t l q
      (λ p. in-all _ l (λ x i. lt-ltb x.epoch r.epoch (omega (arith, all_in _ l a x i, ltb-true q.epoch r.epoch p)))) in
      ap₂ (λ x y. eqb r.version (suc x) && y) m e
