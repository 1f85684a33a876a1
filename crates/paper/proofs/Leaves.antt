-- The leaves that records put into the trees of an epoch. Assumes nothing.
use mathlib.Core.Path.{◌≡◌, sym, ap, ◌∙◌, subst}
use mathlib.Core.Logic.{inl, inr}
use mathlib.Core.Bool.{Bool, true, false, cond}
use mathlib.Core.List.{List, [], ◌∷◌, flat_map}
use Prim.Native.Nat.{ℕ, zero, suc, ◌-◌, ◌^◌, ◌<◌, ◌≤◌}
use native.Mathlib.Omega.{arith}
use lib.Dec.{eqb, leb, ltb}
use lib.ListN.{length, length-replicate}
use lib.Pow.{pow_pos}
use borrow.Author.Tests.{leb-true, eq-eqb, lt-ltb}
use Rattle.fips.specs.Sha256.{sha256}
use Rattle.paper.specs.Lists.{◌∈◌, All}
use Rattle.paper.specs.Numbers.{wide, version_most}
use Rattle.paper.specs.Bytes.{Bytes, Bytewise, zeros, same}
use Rattle.paper.specs.Bits.{bits_of, log2}
use Rattle.paper.specs.Strings.{leaf, Kind, version, marker, commitment_string}
use Rattle.paper.specs.Labelling.{Labelling, Sized, same_name}
use Rattle.paper.specs.Layout.{block, within, seq, led, such, view}
use Rattle.paper.specs.Shows.{in_all, in_old, as_marker, label_at}
use Rattle.paper.specs.Table.{Record, record_field, by_epoch, own_records, leaf_of, all_leaves, old_leaves, all_at, old_at}
pub use Rattle.paper.specs.Standing.{RecordFits}
use Rattle.paper.proofs.Lists.{all_in, in-all, all_append, all_get_d, keep-in, keep_all, keep-passes, in_left, in_right}
use Rattle.paper.proofs.Bytes.{same-eq, bits_of-length}
use Rattle.paper.proofs.Marker.{log2-unique}
use Rattle.paper.proofs.Fits.{Wide, digest-wide, digest-fits, epoch-fits}
use Rattle.paper.proofs.Honest.{LeafSized}
use Rattle.paper.proofs.Records.{Runs, runs-at}

-- ---- what fits a record

pub record-fits : (r : Record) → record_field.Fits r → RecordFits r
unfolding view seq such led within block
record-fits r f =
    let g = f.0.1 in
    record {
      least = g.0.0;
      most = g.0.1;
      epoch = epoch-fits r.epoch g.1.0;
      item = record {
        least = g.1.1.0.0.0;
        most = g.1.1.0.0.1;
        bytes = g.1.1.0.1.0.0.1;
        opening = digest-fits r.opening g.1.1.1;
      };
    }

-- a name has few versions
pub runs-few : (l : List Record) → Runs 0 0 l → All RecordFits l → length l ≤ version_most
runs-few [] r f = omega arith
runs-few (x ∷ l) r f =
    omega (arith, (runs-at 0 0 (x ∷ l) x (omega arith) r (length l) (omega arith)).0, (all_get_d RecordFits (x ∷ l) x f (length l) (omega arith)).most)

pub zeros-bytes : (n : ℕ) → Bytewise (zeros n)
zeros-bytes zero = tt
zeros-bytes (suc n) = (omega arith, zeros-bytes n)

pub zeros-wide : Wide (zeros wide)
zeros-wide = record { size = length-replicate {A = ℕ} wide 0; bytes = zeros-bytes wide }

-- ---- members of a list of lists

pub in-flat : {A B : Type 0} (f : A → List B) (l : List A) (a : A) (b : B) → a ∈ l → b ∈ f a → b ∈ flat_map f l
unfolding flat_map
in-flat f (x ∷ l) a b (inl e) m = in_left b (f x) (flat_map f l) (subst (λ y. b ∈ f y) e m)
in-flat f (x ∷ l) a b (inr k) m = in_right b (f x) (flat_map f l) (in-flat f l a b k m)
in-flat {A = A} {B = B} f [] a b k m = elim k [ ]

pub all-flat : {A B : Type 0} (P : B → Type 0) (f : A → List B) (l : List A) → All (λ a. All P (f a)) l → All P (flat_map f l)
unfolding flat_map
all-flat P f [] h = tt
all-flat P f (x ∷ l) h = all_append P (f x) (flat_map f l) h.0 (all-flat P f l h.1)

-- ---- the leaves of records

module _ (lab : Labelling) (sized : Sized lab) where
  pub label-long : (kind : Kind) (n : ℕ) (name : Bytes) → length (bits_of (lab.label kind n name)) ≡ 256
  label-long kind n name = omega (arith, bits_of-length (lab.label kind n name), sized.size kind n name)

  all-leaves-sized : (r : Record) → RecordFits r → All LeafSized (all_leaves lab r)
  unfolding all_leaves
  all-leaves-sized r f = ((label-long _ _ _, digest-wide _, f.epoch), by (eqb (2 ^ log2 r.version) r.version))
    where
      by : (b : Bool) → All LeafSized (cond b (leaf_of lab marker (log2 r.version) r.name (zeros wide) r.epoch ∷ []) [])
      by true = ((label-long _ _ _, zeros-wide, f.epoch), tt)
      by false = tt

  old-leaves-sized : (r : Record) → RecordFits r → All LeafSized (old_leaves lab r)
  unfolding old_leaves
  old-leaves-sized r f = by (ltb 1 r.version)
    where
      by : (b : Bool) → All LeafSized (cond b (leaf_of lab version (r.version - 1) r.name (zeros wide) r.epoch ∷ []) [])
      by true = ((label-long _ _ _, zeros-wide, f.epoch), tt)
      by false = tt

  by-epoch-all : (P : Record → Type 0) (t : ℕ) (rs : List Record) → All P rs → All P (by_epoch t rs)
  unfolding by_epoch
  by-epoch-all P t rs h = keep_all P _ rs h

  pub all-at-sized : (t : ℕ) (rs : List Record) → All RecordFits rs → All LeafSized (all_at lab t rs)
  all-at-sized t rs h =
      all-flat LeafSized (all_leaves lab) (by_epoch t rs) (in-all _ (by_epoch t rs) (λ r m. all-leaves-sized r (all_in RecordFits (by_epoch t rs) (by-epoch-all RecordFits t rs h) r m)))

  pub old-at-sized : (t : ℕ) (rs : List Record) → All RecordFits rs → All LeafSized (old_at lab t rs)
  old-at-sized t rs h =
      all-flat LeafSized (old_leaves lab) (by_epoch t rs) (in-all _ (by_epoch t rs) (λ r m. old-leaves-sized r (all_in RecordFits (by_epoch t rs) (by-epoch-all RecordFits t rs h) r m)))

  -- ---- the leaves of a name's own records

  module _ (name : Bytes) (t : ℕ) (rs : List Record) (r : Record) (mine : r ∈ own_records lab name (by_epoch t rs)) where
    there : r ∈ by_epoch t rs
    unfolding own_records
    there = keep-in _ (by_epoch t rs) r mine

    person : lab.person r.name ≡ lab.person name
    unfolding own_records same_name
    person = same-eq _ _ (all_in (λ q. same (lab.person q.name) (lab.person name) ≡ true) (own_records lab name (by_epoch t rs)) (keep-passes (λ q. same (lab.person q.name) (lab.person name)) (by_epoch t rs)) r mine)

    -- its epoch is reached
    pub own-epoch : r.epoch ≤ t
    unfolding by_epoch
    own-epoch = leb-true _ t (all_in (λ q. leb q.epoch t ≡ true) (by_epoch t rs) (keep-passes (λ q. leb q.epoch t) rs) r there)

    pub own_in : r ∈ rs
    unfolding by_epoch
    own_in = keep-in _ rs r there

    label_same : (kind : Kind) (n : ℕ) → bits_of (lab.label kind n (lab.person r.name)) ≡ bits_of (lab.label kind n (lab.person name))
    label_same kind n = ap (λ p. bits_of (lab.label kind n p)) person

    -- "tree *all* gains the leaf of version v with its commitment"
    pub version-leaf : leaf (label_at lab name (in_all r.version)) (sha256 (commitment_string r.opening r.key)) r.epoch ∈ all_at lab t rs
    unfolding all_leaves
    version-leaf = in-flat (all_leaves lab) (by_epoch t rs) r _ there (inl (ap (λ m. leaf m (sha256 (commitment_string r.opening r.key)) r.epoch) (sym (label_same version r.version))))

    -- "if v is 2^j it also gains marker j"
    pub marker-leaf : (j : ℕ) → r.version ≡ 2 ^ j → r.version < 2 ^ 32 → leaf (label_at lab name (as_marker j)) (zeros wide) r.epoch ∈ all_at lab t rs
    unfolding all_leaves
    marker-leaf j e h =
        let q : j ≡ log2 r.version = log2-unique r.version j h (omega arith) (omega (arith, pow_pos j)) in
        let p : eqb (2 ^ log2 r.version) r.version ≡ true = eq-eqb _ _ (ap (λ i. 2 ^ i) (sym q) ∙ sym e) in
        in-flat (all_leaves lab) (by_epoch t rs) r _ there (inr (rw p (inl (ap (λ m. leaf m (zeros wide) r.epoch) (ap (λ i. bits_of (lab.label marker i (lab.person name))) q ∙ sym (label_same marker (log2 r.version)))))))

    -- "Tree *old* gains version v-1 if v is above 1."
    pub old-leaf : (i : ℕ) → r.version ≡ suc i → 0 < i → leaf (label_at lab name (in_old i)) (zeros wide) r.epoch ∈ old_at lab t rs
    unfolding old_leaves
    old-leaf i e z =
        let p : ltb 1 r.version ≡ true = lt-ltb 1 r.version (omega arith) in
        let q : r.version - 1 ≡ i = omega arith in
        in-flat (old_leaves lab) (by_epoch t rs) r _ there (rw p (inl (ap (λ m. leaf m (zeros wide) r.epoch) (ap (λ i. bits_of (lab.label version i (lab.person name))) (sym q) ∙ sym (label_same version (r.version - 1))))))
