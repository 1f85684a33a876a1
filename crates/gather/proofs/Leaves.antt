-- The leaves of one record, case by case, and those of more and more records. Assumes nothing.
use mathlib.Core.Path.{◌≡◌, refl, sym, ap, ◌∙◌}
use mathlib.Core.List.{List, [], ◌∷◌, ◌++◌, append-nil, append_assoc, flat_map}
use Prim.Native.Nat.{ℕ, zero, suc, ◌-◌, ◌*◌, ◌^◌, ◌≤◌, ◌<◌}
use native.Mathlib.Omega.{arith}
use native.Mathlib.Decide.{dec_le, ℕ_discrete}
use mathlib.Core.Logic.{by_cases}
use lib.ListN.{length, take, drop, get_or, length-take, length-append}
use borrow.Author.Tests.{eq-eqb, ne_eqb, le-leb, lt-leb, lt-ltb, le-ltb}
use Rattle.fips.specs.Sha256.{sha256}
use Rattle.paper.specs.Numbers.{wide}
use Rattle.paper.specs.Bytes.{Bytes, zeros}
use Rattle.paper.specs.Bits.{bits_of, log2}
use Rattle.paper.specs.Strings.{Node, leaf, label_string, commitment_string}
use Rattle.paper.specs.Labelling.{plain}
use Rattle.paper.specs.Lists.{keep}
use Rattle.paper.specs.Table.{Record, by_epoch, all_leaves, old_leaves}
use Rattle.paper.proofs.Lists.{keep_append}
use Rattle.paper.specs.declared.Which.{Which}
use Rattle.paper.specs.declared.Which.TheVariants.{OfAll, OfOld}
use Rattle.record.specs.Places.{record_in, record_at, records_in}
use Rattle.record.proofs.Places.{records-none, records-snoc}
use Rattle.gather.specs.Gathered.{leaves_of, leaves_by}

-- a name and a key are short enough for their strings
pub name-few : (s : Bytes) (i : ℕ) → length (record_at s i).name ≤ 64
unfolding record_at record_in
name-few s i = let t = drop (i * 168) s in omega (arith, length-take (get_or t 0 0) (take 64 (drop 1 t)), length-take 64 (drop 1 t))

pub key-few : (s : Bytes) (i : ℕ) → length (record_at s i).key ≤ 64
unfolding record_at record_in
key-few s i = let t = drop (i * 168) s in omega (arith, length-take (get_or t 71 0) (take 64 (drop 72 t)), length-take 64 (drop 72 t))

-- ---- the leaves of a record

module _ (r : Record) where
  abbrev pub version_leaf : Node
  version_leaf = leaf (bits_of (sha256 (label_string 1 r.version r.name))) (sha256 (commitment_string r.opening r.key)) r.epoch

  abbrev pub marker_leaf : Node
  marker_leaf = leaf (bits_of (sha256 (label_string 2 (log2 r.version) r.name))) (zeros wide) r.epoch

  abbrev pub replaced_leaf : Node
  replaced_leaf = leaf (bits_of (sha256 (label_string 1 (r.version - 1) r.name))) (zeros wide) r.epoch

  pub all-unmarked : ¬ (2 ^ log2 r.version ≡ r.version) → all_leaves plain r ≡ version_leaf ∷ []
  unfolding all_leaves
  all-unmarked n = rw (ne_eqb (2 ^ log2 r.version) r.version n)

  pub all-marked : 2 ^ log2 r.version ≡ r.version → all_leaves plain r ≡ version_leaf ∷ marker_leaf ∷ []
  unfolding all_leaves
  all-marked e = rw (eq-eqb (2 ^ log2 r.version) r.version e)

  pub old-none : r.version ≤ 1 → old_leaves plain r ≡ []
  unfolding old_leaves
  old-none h = rw (le-ltb 1 r.version h)

  pub old-one : 1 < r.version → old_leaves plain r ≡ replaced_leaf ∷ []
  unfolding old_leaves
  old-one h = rw (lt-ltb 1 r.version h)

  -- "The tree of epoch t has the leaves with epoch at most t."
  pub by-later : (which : Which) (t : ℕ) → t < r.epoch → leaves_by which t (r ∷ []) ≡ []
  unfolding by_epoch keep flat_map
  by-later which t h = rw (lt-leb r.epoch t h)

  pub by-then : (which : Which) (t : ℕ) → r.epoch ≤ t → leaves_by which t (r ∷ []) ≡ leaves_of which r
  unfolding by_epoch keep flat_map
  by-then which t h = rw (le-leb r.epoch t h) (append-nil (leaves_of which r))

  pub few-leaves : (which : Which) (t : ℕ) → length (leaves_by which t (r ∷ [])) ≤ 2
  few-leaves which t = by_cases (dec_le r.epoch t)
      (λ h. rw (by-then which t h) (few which))
      (λ h. rw (by-later which t (omega arith)) (omega arith))
    where
      few : (which : Which) → length (leaves_of which r) ≤ 2
      few OfOld = by_cases (dec_le r.version 1) (λ h. rw (old-none h) (omega arith)) (λ h. rw (old-one (omega arith)) (omega arith))
      few OfAll = by_cases (ℕ_discrete (2 ^ log2 r.version) r.version) (λ e. rw (all-marked e) (omega arith)) (λ n. rw (all-unmarked n) (omega arith))

flat_append : {A B : Type 0} (f : A → List B) (l m : List A) → flat_map f (l ++ m) ≡ flat_map f l ++ flat_map f m
unfolding flat_map
flat_append f [] m = refl
flat_append f (x ∷ l) m = ap (λ k. f x ++ k) (flat_append f l m) ∙ sym (append_assoc (f x) (flat_map f l) (flat_map f m))

pub by_append : (which : Which) (t : ℕ) (rs qs : List Record) → leaves_by which t (rs ++ qs) ≡ leaves_by which t rs ++ leaves_by which t qs
unfolding by_epoch
by_append which t rs qs = ap (flat_map (leaves_of which)) (keep_append _ rs qs) ∙ flat_append (leaves_of which) _ _

-- no records, and one more
pub by-none : (which : Which) (t : ℕ) (s : Bytes) → leaves_by which t (records_in 0 s) ≡ []
unfolding by_epoch keep flat_map
by-none which t s = rw (records-none s) refl

pub by-snoc : (which : Which) (t : ℕ) (s : Bytes) (i : ℕ) → leaves_by which t (records_in (suc i) s) ≡ leaves_by which t (records_in i s) ++ leaves_by which t (record_at s i ∷ [])
by-snoc which t s i = ap (leaves_by which t) (records-snoc i s) ∙ by_append which t (records_in i s) (record_at s i ∷ [])

-- a record gives two leaves at most
pub by-few : (which : Which) (t : ℕ) (s : Bytes) (n : ℕ) → length (leaves_by which t (records_in n s)) ≤ 2 * n
by-few which t s zero = rw (by-none which t s) (omega arith)
by-few which t s (suc n) =
    rw (by-snoc which t s n) (omega (arith, length-append (leaves_by which t (records_in n s)) (leaves_by which t (record_at s n ∷ [])), by-few which t s n, few-leaves (record_at s n) which t))
