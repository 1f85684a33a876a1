-- What a proof is to show absent is not there, unless two different label strings have one digest. Assumes nothing.
use mathlib.Core.Path.{◌≡◌, refl, sym, ap, subst}
use mathlib.Core.Logic.{◌⊎◌, inl, inr, ⊎_elim}
use mathlib.Core.Bool.{Bool, true, false, cond, not, ◌||◌}
use mathlib.Core.List.{List, [], ◌∷◌, ◌++◌, flat_map}
use Prim.Native.Nat.{ℕ, zero, suc, ◌-◌, ◌^◌, ◌<◌, ◌≤◌}
use native.Mathlib.Omega.{arith}
use lib.Dec.{eqb, ltb}
use lib.ListN.{length}
use lib.Pow.{pow_mono}
use borrow.Author.Tests.{ltb-true}
use Rattle.paper.specs.Lists.{◌∈◌, All, every}
use Rattle.paper.specs.Numbers.{wide, version_most}
use Rattle.paper.specs.Bytes.{Bytes, zeros}
use Rattle.paper.specs.Bits.{bits_of, top_power, log2}
use Rattle.paper.specs.Strings.{Kind, version, marker, kind_byte}
use Rattle.paper.specs.Labelling.{Labelling, same_name, Telling}
use Rattle.paper.specs.Tree.{key}
use Rattle.paper.specs.Shows.{Place, in_all, in_old, as_marker, kind_of, number_of, Asked, missing, label_at}
use Rattle.paper.specs.Table.{Record, by_epoch, own_records, leaf_of, all_leaves, old_leaves, all_at, old_at, in_shape, holds}
use Rattle.paper.specs.Write.{versions_by, leaves_at}
use Rattle.paper.specs.Arrow.{Collision}
use Rattle.paper.specs.Standing.{RecordFits}
use Rattle.paper.proofs.Lists.{all_in, in-all, all-every, in_left, in_right, in-keep, keep-in}
use Rattle.paper.proofs.Bytes.{eq-same}
use Rattle.paper.proofs.Marker.{log2-spec, pow_below}
use Rattle.paper.proofs.Honest.{not-held}
use Rattle.paper.proofs.Asked.{Gone, later, last, above, Only, a-version, an-old, a-marker, not_there}
use Rattle.paper.proofs.Records.{versions-run, runs-most}
use Rattle.paper.proofs.Leaves.{runs-few, in-flat, all-flat}
use Rattle.paper.proofs.Collide.{OneToOne, collide-or-not}
use Rattle.paper.proofs.Labelling.{label-tells, other-kind}
use Rattle.directory.specs.Clash.{record_strings, asked_strings, label_strings}

-- ---- records by an epoch, and a name's own

pub by_in : (t : ℕ) (rs : List Record) (r : Record) → r ∈ by_epoch t rs → r ∈ rs
unfolding by_epoch
by_in t rs r m = keep-in _ rs r m

pub in-own : (lab : Labelling) (name : Bytes) (rs : List Record) (q : Record) → q ∈ rs → lab.person q.name ≡ lab.person name → q ∈ own_records lab name rs
unfolding own_records same_name
in-own lab name rs q m e = in-keep _ rs q m (eq-same e)

-- ---- numbers of labels are small

no-log : log2 zero ≤ 9
unfolding log2 top_power
no-log = omega arith

pub small-log : (v : ℕ) → v ≤ version_most → log2 v ≤ 9
small-log zero h = no-log
small-log (suc v) h = pow_below (log2 (suc v)) 9 (suc v) (log2-spec (suc v) (omega arith) (omega arith)).0 (omega arith)

module _ (lab : Labelling) (name : Bytes) (t c : ℕ) (rs : List Record) (fits : All RecordFits rs) (shape : in_shape lab c [] rs ≡ true) where
  abbrev mine : List Record
  mine = versions_by lab name t rs

  fits_by : (r : Record) → r ∈ by_epoch t rs → RecordFits r
  fits_by r i = all_in RecordFits rs fits r (by_in t rs r i)

  mine-in : (r : Record) → r ∈ mine → r ∈ by_epoch t rs
  unfolding own_records
  mine-in r m = keep-in _ (by_epoch t rs) r m

  pub few : length mine ≤ version_most
  few = runs-few mine (versions-run lab name c t rs shape) (in-all _ mine (λ r m. fits_by r (mine-in r m)))

  own-most : (r : Record) → r ∈ mine → r.version ≤ length mine
  own-most r m = omega (arith, all_in _ mine (runs-most 0 0 mine (versions-run lab name c t rs shape)) r m)

  -- ---- the strings of a record's leaves

  module _ (r : Record) where
    abbrev its : Kind → ℕ → List Bytes
    its k n = lab.strings k n (lab.person r.name)

    abbrev marked : Bool → List Bytes
    marked b = cond b (its marker (log2 r.version)) []

    abbrev replaced : Bool → List Bytes
    replaced b = cond b (its version (r.version - 1)) []

    abbrev rest : List Bytes
    rest = marked (eqb (2 ^ log2 r.version) r.version) ++ replaced (ltb 1 r.version)

    version-in : All (λ s. s ∈ record_strings lab r) (its version r.version)
    unfolding record_strings
    version-in = in-all (λ s. s ∈ record_strings lab r) (its version r.version) (λ s j. in_left s (its version r.version) rest j)

    marker-in : eqb (2 ^ log2 r.version) r.version ≡ true → All (λ s. s ∈ record_strings lab r) (its marker (log2 r.version))
    unfolding record_strings
    marker-in e = in-all (λ s. s ∈ record_strings lab r) (its marker (log2 r.version))
        (λ s j. in_right s (its version r.version) rest (in_left s (marked (eqb (2 ^ log2 r.version) r.version)) _ (subst (λ b. s ∈ marked b) (sym e) j)))

    old-in : ltb 1 r.version ≡ true → All (λ s. s ∈ record_strings lab r) (its version (r.version - 1))
    unfolding record_strings
    old-in e = in-all (λ s. s ∈ record_strings lab r) (its version (r.version - 1))
        (λ s j. in_right s (its version r.version) rest (in_right s (marked (eqb (2 ^ log2 r.version) r.version)) _ (subst (λ b. s ∈ replaced b) (sym e) j)))

  module _ (telling : Telling lab) (asked : List Asked) (one : OneToOne (label_strings lab name t rs asked)) (x : Place) (m : missing x ∈ asked) (small : number_of x < 2 ^ 16) where
    -- a record's leaf with the label of what is asked is the name's own, of the same kind and number
    told : (r : Record) → r ∈ by_epoch t rs → (k : Kind) (n : ℕ) → n < 2 ^ 16 → All (λ s. s ∈ record_strings lab r) (lab.strings k n (lab.person r.name))
        → bits_of (lab.label k n (lab.person r.name)) ≡ label_at lab name x → (k ≡ kind_of x) × (n ≡ number_of x) × (r.version ≤ length mine)
    told r i k n h there e =
        let A : List Bytes = flat_map (asked_strings lab name) asked in
        let B : List Bytes = flat_map (record_strings lab) (by_epoch t rs) in
        let v : All (λ s. s ∈ label_strings lab name t rs asked) (its r k n) =
        in-all (λ s. s ∈ label_strings lab name t rs asked) (its r k n)
        (λ s j. in_right s A B (in-flat (record_strings lab) (by_epoch t rs) r s i (all_in (λ s. s ∈ record_strings lab r) (its r k n) there s j))) in
        let w : All (λ s. s ∈ label_strings lab name t rs asked) (asked_strings lab name (missing x)) =
        in-all (λ s. s ∈ label_strings lab name t rs asked) (asked_strings lab name (missing x)) (λ s j. in_left s A B (in-flat (asked_strings lab name) asked (missing x) s m j)) in
        let (a, b, p) = label-tells telling (label_strings lab name t rs asked) one k (kind_of x) n (number_of x) (lab.person r.name) (lab.person name) h small v w e in
        (a, b, own-most r (in-own lab name (by_epoch t rs) r i p))

    none-in-all : ((r : Record) → RecordFits r → ¬ ((version ≡ kind_of x) × (r.version ≡ number_of x) × (r.version ≤ length mine)))
        → ((r : Record) → RecordFits r → ¬ ((marker ≡ kind_of x) × (log2 r.version ≡ number_of x) × (r.version ≤ length mine)))
        → holds (label_at lab name x) (all_at lab t rs) ≡ false
    unfolding all_leaves
    none-in-all v w = not-held _ _ (all-flat _ (all_leaves lab) (by_epoch t rs) (in-all _ (by_epoch t rs) (λ r i. (first r i, second r i (eqb (2 ^ log2 r.version) r.version) refl))))
      where
        first : (r : Record) → r ∈ by_epoch t rs → ¬ (bits_of (lab.label version r.version (lab.person r.name)) ≡ label_at lab name x)
        first r i e = v r (fits_by r i) (told r i version r.version (omega (arith, (fits_by r i).most)) (version-in r) e)

        second : (r : Record) → r ∈ by_epoch t rs → (b : Bool) → eqb (2 ^ log2 r.version) r.version ≡ b
            → All (λ y. ¬ (key y ≡ label_at lab name x)) (cond b (leaf_of lab marker (log2 r.version) r.name (zeros wide) r.epoch ∷ []) [])
        second r i true q = (λ e. w r (fits_by r i) (told r i marker (log2 r.version) (omega (arith, small-log r.version (fits_by r i).most)) (marker-in r q) e), tt)
        second r i false q = tt

    none-in-old : ((r : Record) → 1 < r.version → ¬ ((version ≡ kind_of x) × (r.version - 1 ≡ number_of x) × (r.version ≤ length mine)))
        → holds (label_at lab name x) (old_at lab t rs) ≡ false
    unfolding old_leaves
    none-in-old v = not-held _ _ (all-flat _ (old_leaves lab) (by_epoch t rs) (in-all _ (by_epoch t rs) (λ r i. by r i (ltb 1 r.version) refl)))
      where
        by : (r : Record) → r ∈ by_epoch t rs → (b : Bool) → ltb 1 r.version ≡ b
            → All (λ y. ¬ (key y ≡ label_at lab name x)) (cond b (leaf_of lab version (r.version - 1) r.name (zeros wide) r.epoch ∷ []) [])
        by r i true q = (λ e. v r (ltb-true _ _ q) (told r i version (r.version - 1) (omega (arith, (fits_by r i).most)) (old-in r q) e), tt)
        by r i false q = tt

  -- what is not there while the name has its versions
  module _ (telling : Telling lab) (asked : List Asked) (one : OneToOne (label_strings lab name t rs asked)) where
    gone : (x : Place) → missing x ∈ asked → Gone (length mine) x → holds (label_at lab name x) (leaves_at lab name t rs x) ≡ false
    gone x m (later i l u) =
        let p = pow_mono {i = suc (log2 (length mine))} {j = 10} (omega (arith, small-log (length mine) few)) in
        none-in-all telling asked one (in_all i) m (omega (arith, p, u)) (λ r f (k, n, o). omega (arith, n, o, l)) (λ r f (k, n, o). other-kind (sym (ap kind_byte k)))
    gone x m last = none-in-old telling asked one (in_old (length mine)) m (omega (arith, few)) (λ r h (k, n, o). omega (arith, h, n, o))
    gone x m (above j l u) =
        none-in-all telling asked one (as_marker j) m (omega (arith, u)) (λ r f (k, n, o). other-kind (ap kind_byte k))
        (λ r f (k, n, o).
        let v = log2-spec r.version f.least (omega (arith, f.most)) in
        let w = log2-spec (length mine) (omega (arith, f.least, o)) (omega (arith, few)) in
        let b = pow_below (log2 r.version) (log2 (length mine)) (length mine) (omega (arith, v.0, o)) w.1 in
        omega (arith, b, n, l (omega (arith, f.least, o))))

    each : (a : Asked) → a ∈ asked → Only (length mine) a → (a.there || not (holds (label_at lab name a.place) (leaves_at lab name t rs a.place))) ≡ true
    each a m (a-version j l) = refl
    each a m (an-old i l u) = refl
    each a m (a-marker j l u) = refl
    each a m (not_there x g) = ap not (gone x m g)

  -- so where only such labels are asked absent, none is there, or two strings collide
  pub gone-or-collide : Telling lab → (asked : List Asked) → ((a : Asked) → a ∈ asked → Only (length mine) a)
      → (every (λ a. a.there || not (holds (label_at lab name a.place) (leaves_at lab name t rs a.place))) asked ≡ true) ⊎ Collision (label_strings lab name t rs asked)
  gone-or-collide telling asked only = ⊎_elim inr (λ one. inl (all-every _ asked (in-all _ asked (λ a m. each telling asked one a m (only a m))))) (collide-or-not (label_strings lab name t rs asked))
