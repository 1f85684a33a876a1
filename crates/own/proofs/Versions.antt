-- A name's versions by an epoch, among more and more records, and by the last of them. Assumes nothing.
use mathlib.Core.Path.{◌≡◌, refl, sym, ap, ◌∙◌, subst}
use mathlib.Core.Bool.{Bool, true, false, cond, ◌&&◌}
use mathlib.Core.List.{List, [], ◌∷◌, ◌++◌, map}
use native.Mathlib.Numerals.{add-one}
use Rattle.std.specs.List.{filter, range_with_len}
use Rattle.paper.specs.Lists.{up_from}
use Prim.Native.Nat.{ℕ, zero, suc, ◌+◌, ◌≤◌, ◌<◌}
use lib.Dec.{leb}
use lib.ListN.{length}
use borrow.Author.Tests.{le-leb, lt-leb}
use Rattle.paper.specs.Lists.{keep}
use Rattle.paper.specs.Bytes.{Bytes, same}
use Rattle.paper.specs.Labelling.{plain, same_name}
use Rattle.paper.specs.Table.{Record, by_epoch, own_records, in_shape, last_version}
use Rattle.paper.specs.Write.{versions_by, item_of, last_item}
use Rattle.paper.proofs.Records.{versions-run, run-count}
use Rattle.record.specs.Places.{record_at, records_in}
use Rattle.std.specs.Prelude.{None, Some}
use Rattle.table.specs.Index.{last_where}
use Rattle.table.proofs.Own.{kept-zero, kept-yes, kept-no, kept-none, kept-last, last_snoc}
use Rattle.own.specs.Own.{own_by}

-- two tests are one
keep-both : {A : Type 0} (t u : A → Bool) (l : List A) → keep t (keep u l) ≡ keep (λ a. u a && t a) l
unfolding keep
keep-both t u [] = refl
keep-both t u (a ∷ l) = by (u a) (t a) refl (keep-both t u l)
  where
    by : (b c : Bool) → t a ≡ c → keep t (keep u l) ≡ keep (λ a. u a && t a) l
        → keep t (cond b (a ∷ keep u l) (keep u l)) ≡ cond (b && c) (a ∷ keep (λ a. u a && t a) l) (keep (λ a. u a && t a) l)
    by true true p e = rw p (ap (λ m. a ∷ m) e)
    by true false p e = rw p e
    by false c p e = e

item-snoc : (l : List Record) (r : Record) → last_item (l ++ (r ∷ [])) ≡ item_of r ∷ []
unfolding last_item
item-snoc [] r = refl
item-snoc (q ∷ []) r = refl
item-snoc (q ∷ x ∷ l) r = item-snoc (x ∷ l) r

module _ (s name : Bytes) (t : ℕ) where
  abbrev versions : ℕ → List Record
  versions n = versions_by plain name t (records_in n s)

  abbrev passes : Record → Bool
  passes r = leb r.epoch t && same_name plain r.name name

  -- one record: too late, or by its name
  pub own-later : (k : ℕ) → t < (record_at s k).epoch → own_by s name t k ≡ false
  own-later k h = rw (lt-leb (record_at s k).epoch t h)

  pub own-then : (k : ℕ) → (record_at s k).epoch ≤ t → own_by s name t k ≡ same (record_at s k).name name
  unfolding same_name
  own-then k h = rw (le-leb (record_at s k).epoch t h)

  versions-keep : (n : ℕ) → versions n ≡ keep passes (records_in n s)
  unfolding own_records by_epoch
  versions-keep n = keep-both (λ r. same_name plain r.name name) (λ r. leb r.epoch t) (records_in n s)

  -- as many as the numbers of the records that pass
  counted : (a n : ℕ) → length (filter (own_by s name t) (range_with_len a n)) ≡ length (keep passes (map (record_at s) (up_from a n)))
  unfolding keep up_from
  counted a zero = refl
  counted a (suc n) = by (passes (record_at s a)) (subst (λ m. length (filter (own_by s name t) (range_with_len (a + 1) n)) ≡ length (keep passes (map (record_at s) (up_from m n)))) (add-one a) (counted (a + 1) n))
    where
      by : (b : Bool) → length (filter (own_by s name t) (range_with_len (a + 1) n)) ≡ length (keep passes (map (record_at s) (up_from (suc a) n)))
          → length (cond b (a ∷ filter (own_by s name t) (range_with_len (a + 1) n)) (filter (own_by s name t) (range_with_len (a + 1) n)))
          ≡ length (cond b (record_at s a ∷ keep passes (map (record_at s) (up_from (suc a) n))) (keep passes (map (record_at s) (up_from (suc a) n))))
      by true e = ap suc e
      by false e = e

  pub versions-counted : (n : ℕ) → length (filter (own_by s name t) (range_with_len 0 n)) ≡ length (versions n)
  unfolding records_in
  versions-counted n = counted 0 n ∙ sym (ap length (versions-keep n))

  -- no records, and one more
  pub versions-zero : versions 0 ≡ []
  versions-zero = versions-keep 0 ∙ kept-zero passes s

  pub versions-yes : (n : ℕ) → own_by s name t n ≡ true → versions (suc n) ≡ versions n ++ (record_at s n ∷ [])
  versions-yes n e = versions-keep (suc n) ∙ kept-yes passes s n e ∙ ap (λ l. l ++ (record_at s n ∷ [])) (sym (versions-keep n))

  pub versions-no : (n : ℕ) → own_by s name t n ≡ false → versions (suc n) ≡ versions n
  versions-no n e = versions-keep (suc n) ∙ kept-no passes s n e ∙ sym (versions-keep n)

  -- there is none, or there is a last one
  pub versions-none : (n : ℕ) → last_where (own_by s name t) n ≡ None → versions n ≡ []
  versions-none n h = versions-keep n ∙ kept-none passes s n h

  pub versions-last : (n k : ℕ) → last_where (own_by s name t) n ≡ Some k → versions n ≡ versions k ++ (record_at s k ∷ [])
  versions-last n k h = versions-keep n ∙ kept-last passes s n k h ∙ ap (λ l. l ++ (record_at s k ∷ [])) (sym (versions-keep k))

  -- "the name's last version with epoch at most t, or version 0"
  pub version-none : (n : ℕ) → last_where (own_by s name t) n ≡ None → last_version (versions n) ≡ 0
  unfolding last_version
  version-none n h = ap last_version (versions-none n h)

  pub version-last : (n k : ℕ) → last_where (own_by s name t) n ≡ Some k → last_version (versions n) ≡ (record_at s k).version
  version-last n k h = ap last_version (versions-last n k h) ∙ last_snoc (versions k) (record_at s k)

  -- its key and opening
  pub item-none : (n : ℕ) → last_where (own_by s name t) n ≡ None → last_item (versions n) ≡ []
  unfolding last_item
  item-none n h = ap last_item (versions-none n h)

  pub item-last : (n k : ℕ) → last_where (own_by s name t) n ≡ Some k → last_item (versions n) ≡ item_of (record_at s k) ∷ []
  item-last n k h = ap last_item (versions-last n k h) ∙ item-snoc (versions k) (record_at s k)

  -- "each name's versions run 1, 2, 3": in tables in shape the last version is the number of versions
  pub versions-number : (n current : ℕ) → in_shape plain current [] (records_in n s) ≡ true → last_version (versions n) ≡ length (versions n)
  versions-number n current e = run-count (versions n) (versions-run plain name current t (records_in n s) e)
