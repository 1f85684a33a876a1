-- The rules of records, by the record before and record by record. Assumes nothing.
use mathlib.Core.Path.{◌≡◌, sym, ap, ◌∙◌}
use mathlib.Core.Logic.{by_cases}
use mathlib.Core.Bool.{Bool, true, false, ◌&&◌, and-true, and-false, and_assoc}
use mathlib.Core.List.{List, [], ◌∷◌, ◌++◌, append-nil, append_assoc}
use Prim.Native.Nat.{ℕ, zero, suc, ◌-◌, ◌≤◌, ◌<◌}
use native.Mathlib.Omega.{arith}
use native.Mathlib.Decide.{dec_lt}
use lib.Dec.{leb}
use borrow.Author.Tests.{le-leb, lt-leb, leb-true}
use Rattle.paper.specs.Lists.{every}
use Rattle.paper.specs.Bytes.{Bytes}
use Rattle.paper.specs.Labelling.{Labelling, plain}
use Rattle.paper.specs.Table.{Record, follows, in_shape}
use Rattle.paper.proofs.Lists.{all_in, in-all, and_right}
use Rattle.paper.proofs.Records.{follows-facts}
use Rattle.record.specs.Places.{record_at, records_in}
use Rattle.record.proofs.Places.{records-none, records-snoc}
use Rattle.table.specs.Shape.{epoch_follows, version_follows}
use Rattle.table.proofs.Own.{every-last}

-- the two parts of what is asked
pub follows-parts : (epoch : ℕ) (earlier : List Record) (r : Record) → follows plain epoch earlier r ≡ (epoch_follows epoch earlier r && version_follows earlier r)
unfolding follows
follows-parts epoch earlier r =
    let e = r.epoch in
    let low = leb 1 e in
    let high = leb e epoch in
    let level = every (λ q. leb q.epoch e) earlier in
    sym (and_assoc low (high && level) (version_follows earlier r) ∙ ap (λ b. low && b) (and_assoc high level (version_follows earlier r)))

-- ---- record by record

shape-snoc : (lab : Labelling) (c : ℕ) (earlier l : List Record) (r : Record) → in_shape lab c earlier (l ++ (r ∷ [])) ≡ (in_shape lab c earlier l && follows lab c (earlier ++ l) r)
unfolding in_shape
shape-snoc lab c earlier [] r = and-true (follows lab c earlier r) ∙ ap (λ l. follows lab c l r) (sym (append-nil earlier))
shape-snoc lab c earlier (x ∷ l) r =
    ap (λ b. follows lab c earlier x && b) (shape-snoc lab c (earlier ++ (x ∷ [])) l r ∙ ap (λ k. in_shape lab c (earlier ++ (x ∷ [])) l && follows lab c k r) (append_assoc earlier (x ∷ []) l))
    ∙ sym (and_assoc (follows lab c earlier x) (in_shape lab c (earlier ++ (x ∷ [])) l) (follows lab c (earlier ++ (x ∷ l)) r))

module _ (s : Bytes) (epoch : ℕ) where
  abbrev shape : ℕ → Type 0
  shape n = in_shape plain epoch [] (records_in n s) ≡ true

  shape-suc : (n : ℕ) → in_shape plain epoch [] (records_in (suc n) s) ≡ (in_shape plain epoch [] (records_in n s) && follows plain epoch (records_in n s) (record_at s n))
  shape-suc n = ap (in_shape plain epoch []) (records-snoc n s) ∙ shape-snoc plain epoch [] (records_in n s) (record_at s n)

  pub shape-none : shape 0
  unfolding in_shape
  shape-none = ap (in_shape plain epoch []) (records-none s)

  pub shape-more : (n : ℕ) → shape n → follows plain epoch (records_in n s) (record_at s n) ≡ true → shape (suc n)
  shape-more n h e = shape-suc n ∙ rw (h, e)

  pub shape-stop : (n i : ℕ) → i < n → follows plain epoch (records_in i s) (record_at s i) ≡ false → in_shape plain epoch [] (records_in n s) ≡ false
  shape-stop zero i h e = absurd (omega arith)
  shape-stop (suc n) i h e =
      shape-suc n
      ∙ by_cases (dec_lt i n)
      (λ l. rw (shape-stop n i l e))
      (λ l. let q : i ≡ n = omega arith in rw (rw q at e) (and-false (in_shape plain epoch [] (records_in n s))))

  -- ---- epochs

  module _ (n : ℕ) where
    abbrev here : Record
    here = record_at s n

    pub epoch-low : here.epoch < 1 → epoch_follows epoch (records_in n s) here ≡ false
    epoch-low h = rw (lt-leb 1 here.epoch h)

    pub epoch-high : epoch < here.epoch → epoch_follows epoch (records_in n s) here ≡ false
    epoch-high h = rw (lt-leb here.epoch epoch h, and-false)

    module _ (low : 1 ≤ here.epoch) (high : here.epoch ≤ epoch) where
      pub epoch-first : n ≡ 0 → epoch_follows epoch (records_in n s) here ≡ true
      unfolding every
      epoch-first z = rw (le-leb 1 here.epoch low, le-leb here.epoch epoch high) (ap (every _) (ap (λ m. records_in m s) z ∙ records-none s))

      pub epoch-next : shape n → 0 < n → epoch_follows epoch (records_in n s) here ≡ leb (record_at s (n - 1)).epoch here.epoch
      epoch-next h k =
          let m = n - 1 in
          let z : n ≡ suc m = omega arith in
          let q = record_at s m in
          let t : Record → Bool = λ x. leb x.epoch here.epoch in
          let o : records_in n s ≡ records_in m s ++ (q ∷ []) = ap (λ i. records_in i s) z ∙ records-snoc m s in
          let g = and_right (in_shape plain epoch [] (records_in m s)) _ (sym (shape-suc m) ∙ ap (λ i. in_shape plain epoch [] (records_in i s)) (sym z) ∙ h) in
          let f = follows-facts plain [] epoch (records_in m s) q g in
          rw (le-leb 1 here.epoch low, le-leb here.epoch epoch high)
          (ap (every t) o ∙ every-last t (records_in m s) q
          (λ p. in-all _ (records_in m s) (λ x i. le-leb x.epoch here.epoch
          (omega (arith, leb-true x.epoch q.epoch (all_in _ (records_in m s) f.level x i), leb-true q.epoch here.epoch p)))))
