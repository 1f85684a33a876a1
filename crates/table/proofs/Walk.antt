-- The index over names: a walk along a bucket finds the last record of a name, and a record more is entered by two stores. Assumes
-- nothing.
use mathlib.Core.Path.{◌≡◌, refl, sym, ap, ◌∙◌, subst}
use mathlib.Core.Logic.{by_cases}
use mathlib.Core.Bool.{true, false}
use mathlib.Core.List.{List}
use Prim.Native.Nat.{ℕ, suc, ◌+◌, ◌*◌, ◌≤◌, ◌<◌}
use native.Mathlib.Numerals.{add-one}
use native.Mathlib.Omega.{arith}
use native.Mathlib.Decide.{dec_lt, ℕ_discrete}
use lib.ListN.{length, take, get_or, set, replicate, length-set, length-replicate, get_or-replicate, get_or-eq_default}
use lib.Seq.{get_or-set_same, get_or-set_other}
use lib.Dec.{eqb}
use borrow.Author.Tests.{eq-eqb, ne_eqb, eqb-true}
use Rattle.paper.specs.Numbers.{record_size, records_most}
use Rattle.paper.specs.Bytes.{Bytes, same}
use Rattle.paper.specs.Labelling.{same_name}
use Rattle.paper.proofs.Bytes.{same-eq}
use Rattle.record.specs.Places.{record_at, Stands}
use Rattle.record.proofs.Places.{at_same, stands_same}
use Rattle.table.specs.Index.{buckets, linked, bucket_of, last_where, up_to, named, falls, Indexed, Unlinked}
use Rattle.table.specs.declared.index.Index.{Index}
use Rattle.std.specs.Prelude.{Option, None, Some}
use Rattle.table.proofs.Last.{last_none, last-yes, last-no, last-most, last-passes, last-same, last-below, bucket-lt}

-- names as they are spelled
pub named-same : (s name : Bytes) (k : ℕ) → named s name k ≡ same (record_at s k).name name
unfolding same_name
named-same s name k = refl

-- a record of a name falls in the name's bucket
named-falls : (s name : Bytes) (k : ℕ) → named s name k ≡ true → falls s (bucket_of name) k ≡ true
named-falls s name k e = eq-eqb _ _ (ap bucket_of (same-eq _ name (sym (named-same s name k) ∙ e)))

-- how far a bucket has been walked: the record sought is not above `at`, which is in the bucket, if there is one
pub record Walked (s name : Bytes) (n : ℕ) (at : Option ℕ) : Type 0 where
  pub within : (k : ℕ) → at ≡ Some k → k < n
  pub inside : (k : ℕ) → at ≡ Some k → falls s (bucket_of name) k ≡ true
  pub below : last_where (named s name) n ≡ last_where (named s name) (up_to at)

module _ (s : Bytes) (n : ℕ) (x : Index) (h : Indexed s n x) (name : Bytes) where
  -- from record number m on, the last record of the bucket below it
  from : (m : ℕ) (at : Option ℕ) → m ≤ n → at ≡ last_where (falls s (bucket_of name)) m → last_where (named s name) n ≡ last_where (named s name) m → Walked s name n at
  from m at l e q =
      let t = falls s (bucket_of name) in
      record {
        within = λ k z. omega (arith, last-most t m k (sym e ∙ z));
        inside = λ k z. last-passes t m k (sym e ∙ z);
        below = q ∙ last-below t (named s name) (named-falls s name) m ∙ ap (λ o. last_where (named s name) (up_to o)) (sym e);
      }

  pub walk_start : (b : ℕ) → b ≡ bucket_of name → Walked s name n (linked (get_or x.first b 0))
  walk_start b e = rw e (from n (linked (get_or x.first (bucket_of name) 0)) (omega arith) (h.heads (bucket_of name) (bucket-lt name)) refl)

  module _ (k : ℕ) (w : Walked s name n (Some k)) where
    pub walk-found : same (record_at s k).name name ≡ true → Some k ≡ last_where (named s name) n
    walk-found e = sym (w.below ∙ last-yes (named s name) k (named-same s name k ∙ e))

    pub walk-on : same (record_at s k).name name ≡ false → Walked s name n (linked (get_or x.next k 0))
    walk-on e =
        let l : k < n = w.within k refl in
        let q : bucket_of (record_at s k).name ≡ bucket_of name = eqb-true _ _ (w.inside k refl) in
        from k (linked (get_or x.next k 0)) (omega arith) (h.links k l ∙ ap (λ b. last_where (falls s b) k) q)
        (w.below ∙ last-no (named s name) k (named-same s name k ∙ e))

    pub walk-less : up_to (linked (get_or x.next k 0)) < suc k
    walk-less = by (linked (get_or x.next k 0)) (h.links k (w.within k refl))
      where
        by : (o : Option ℕ) → o ≡ last_where (falls s (bucket_of (record_at s k).name)) k → up_to o < suc k
        by None e = omega arith
        by (Some j) e = omega (arith, last-most _ k j (sym e))

  pub walk_end : Walked s name n None → None ≡ last_where (named s name) n
  walk_end w = sym (w.below ∙ last_none (named s name))

-- ---- entering

pub index-none : (s : Bytes) (x : Index) → x.first ≡ replicate buckets 0 → x.next ≡ replicate records_most 0 → Indexed s 0 x
index-none s x e q = record {
  stands = λ k h. absurd (omega arith);
  width = ap length e ∙ length-replicate {A = ℕ} buckets 0;
  room = ap length q ∙ length-replicate {A = ℕ} records_most 0;
  heads = λ b h. ap linked (ap (λ l. get_or l b 0) e ∙ get_or-replicate buckets b 0 0 h) ∙ sym (last_none (falls s b));
  links = λ k h. absurd (omega arith);
  few = omega arith;
}

pub unlinked-none : (x : Index) → x.next ≡ replicate records_most 0 → Unlinked 0 x
unlinked-none x q k h =
    ap (λ l. get_or l k 0) q
    ∙ by_cases (dec_lt k records_most) (λ l. get_or-replicate records_most k 0 0 l) (λ l. let m : length (replicate {A = ℕ} records_most 0) ≤ k = omega (arith, length-replicate {A = ℕ} records_most 0) in get_or-eq_default (replicate records_most 0) 0 m)

-- the records of an index stand, and one more
pub stands-more : {s : Bytes} {n : ℕ} {x : Index} → Indexed s n x → Stands s n → (k : ℕ) → k ≤ n → Stands s k
stands-more {n = n} x here k h = by_cases (dec_lt k n) (λ l. x.stands k l) (λ l. let q : k ≡ n = omega arith in rw q here)

module _ (s : Bytes) (n : ℕ) (y : Index) (x : Indexed s n y) (here : Stands s n) (room : n < records_most) (b : ℕ) (e : b ≡ bucket_of (record_at s n).name) where
  abbrev more : List ℕ
  more = set y.first b (n + 1)

  abbrev chained : List ℕ
  chained = set y.next n (get_or y.first b 0)

  in-width : b < length y.first
  in-width = omega (arith, e, bucket-lt (record_at s n).name, x.width)

  heads-more : (c : ℕ) → c < buckets → linked (get_or more c 0) ≡ last_where (falls s c) (suc n)
  heads-more c h = by_cases (ℕ_discrete c b)
      (λ q. ap linked (ap (λ c. get_or more c 0) q ∙ get_or-set_same y.first b (n + 1) 0 in-width ∙ add-one n) ∙ sym (last-yes (falls s c) n (eq-eqb _ c (sym e ∙ sym q))))
      (λ q. ap linked (get_or-set_other y.first b c (n + 1) 0 q) ∙ x.heads c h ∙ sym (last-no (falls s c) n (ne_eqb _ c (λ z. q (sym z ∙ sym e)))))

  links-more : (k : ℕ) → k < suc n → linked (get_or chained k 0) ≡ last_where (falls s (bucket_of (record_at s k).name)) k
  links-more k h = by_cases (dec_lt k n)
      (λ l. ap linked (get_or-set_other y.next n k (get_or y.first b 0) 0 (λ q. omega arith)) ∙ x.links k l)
      (λ l. let q : k ≡ n = omega arith in rw q
      (ap linked (get_or-set_same y.next n (get_or y.first b 0) 0 (omega (arith, x.room))) ∙ x.heads b (omega (arith, in-width, x.width)) ∙ ap (λ c. last_where (falls s c) n) e))

  pub index-more : (z : Index) → z.first ≡ more → z.next ≡ chained → Indexed s (suc n) z
  index-more z p q = record {
    stands = λ k h. stands-more x here k (omega arith);
    width = ap length p ∙ length-set y.first b (n + 1) ∙ x.width;
    room = ap length q ∙ length-set y.next n (get_or y.first b 0) ∙ x.room;
    heads = λ c h. ap (λ l. linked (get_or l c 0)) p ∙ heads-more c h;
    links = λ k h. ap (λ l. linked (get_or l k 0)) q ∙ links-more k h;
    few = room;
  }

  pub unlinked-more : (z : Index) → z.next ≡ chained → Unlinked n y → Unlinked (suc n) z
  unlinked-more z q u k h = ap (λ l. get_or l k 0) q ∙ get_or-set_other y.next n k (get_or y.first b 0) 0 (λ q. omega arith) ∙ u k (omega arith)

-- ---- an index and the table that it is of

module _ (x : Index) {s : Bytes} {n : ℕ} (e : x.records.now ≡ s) (q : x.count ≡ n) (P : Bytes → ℕ → Type 0) where
  pub of-table : P x.records.now x.count → P s n
  of-table h = subst (λ t. P t n) e (subst (P x.records.now) q h)

  pub of-index : P s n → P x.records.now x.count
  of-index h = subst (P x.records.now) (sym q) (subst (λ t. P t n) (sym e) h)

-- ---- the same records

-- an index is one of every table with these records, whatever stands behind them
pub index_same : (s t : Bytes) (n : ℕ) (y : Index) → n * record_size ≤ length t → take (n * record_size) s ≡ take (n * record_size) t → Indexed s n y → Indexed t n y
index_same s t n y room e x =
    let at : (k : ℕ) → k < n → record_at s k ≡ record_at t k = λ k h. at_same s t (n * record_size) k (omega arith) e in
    let same : (b m : ℕ) → m ≤ n → last_where (falls s b) m ≡ last_where (falls t b) m = λ b m l. last-same (falls s b) (falls t b) m (λ k h. ap (λ r. eqb (bucket_of r.name) b) (at k (omega arith))) in
    record {
      stands = λ k h. stands_same s t (n * record_size) k (omega arith) room e (x.stands k h);
      width = x.width;
      room = x.room;
      few = x.few;
      heads = λ b h. x.heads b h ∙ same b n (omega arith);
      links = λ k h. x.links k h ∙ same (bucket_of (record_at s k).name) k (omega arith) ∙ ap (λ r. last_where (falls t (bucket_of r.name)) k) (at k h);
    }
