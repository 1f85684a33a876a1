-- No two leaves of a tree over a table in shape share a label, unless two different label strings have one digest. Assumes nothing.
use mathlib.Core.Path.{◌≡◌, refl, sym, ap, ap₂, ◌∙◌, subst}
use mathlib.Core.Logic.{◌⊎◌, inl, inr, ⊎_elim}
use mathlib.Core.Bool.{Bool, true, false, cond, not, ◌&&◌}
use mathlib.Core.List.{List, [], ◌∷◌, ◌++◌, flat_map}
use Prim.Native.Nat.{ℕ, suc, ◌-◌, ◌^◌, ◌<◌, ◌≤◌}
use native.Mathlib.Omega.{arith}
use lib.Dec.{eqb, ltb}
use borrow.Author.Tests.{ltb-true, eqb-true}
use Rattle.paper.specs.Lists.{◌∈◌, All}
use Rattle.paper.specs.Numbers.{wide, version_most}
use Rattle.paper.specs.Bytes.{Bytes, zeros}
use Rattle.paper.specs.Bits.{bits_of, log2}
use Rattle.fips.specs.Sha256.{sha256}
use Rattle.paper.specs.Strings.{Kind, version, marker, kind_byte, Node, commitment_string}
use Rattle.paper.specs.Labelling.{Labelling, same_name, Telling}
use Rattle.paper.specs.Tree.{key}
use Rattle.paper.specs.Table.{Record, by_epoch, own_records, in_shape, leaf_of, all_leaves, old_leaves, all_at, old_at, distinct}
use Rattle.paper.specs.Arrow.{Collision}
use Rattle.paper.proofs.Lists.{all_in, in-all, all_left, all_right, all_append, and_both}
use Rattle.paper.proofs.Bytes.{eq-same}
use Rattle.paper.proofs.Honest.{not-held}
use Rattle.paper.proofs.Records.{Runs, own-cons, versions-run, runs-above}
use Rattle.paper.proofs.Leaves.{in-flat, all-flat}
use Rattle.paper.proofs.Collide.{OneToOne, collide-or-not}
use Rattle.paper.proofs.Labelling.{label-tells, other-kind}
use Rattle.directory.specs.Clash.{record_strings, tree_strings}
use Rattle.directory.proofs.Clashes.{by_in, in-own, small-log}

-- ---- leaves that differ in their labels, pair by pair

abbrev Differ : List Node → Type 0
Differ [] = Unit {0}
Differ (x ∷ S) = All (λ y. ¬ (key y ≡ key x)) S × Differ S

differ-distinct : (S : List Node) → Differ S → distinct S ≡ true
unfolding distinct
differ-distinct [] d = refl
differ-distinct (x ∷ S) d = and_both (ap not (not-held (key x) S d.0)) (differ-distinct S d.1)

differ-append : (a b : List Node) → Differ a → Differ b → All (λ x. All (λ y. ¬ (key y ≡ key x)) b) a → Differ (a ++ b)
differ-append [] b d e c = e
differ-append (x ∷ a) b d e c = (all_append (λ y. ¬ (key y ≡ key x)) a b d.0 c.0, differ-append a b d.1 e c.1)

-- tree *all* has version v and, where v is 2^j, marker j; tree *old* has version v-1: the version by kind and number
abbrev in_all : Kind → ℕ → ℕ
in_all version n = n
in_all marker n = 2 ^ n

abbrev in_old : Kind → ℕ → ℕ
in_old k n = suc n

module _ (lab : Labelling) where
  -- ---- no two records of a table in shape have one name and one version

  abbrev Parted : List Record → Type 0
  Parted [] = Unit {0}
  Parted (r ∷ rs) = All (λ q. ¬ ((lab.person q.name ≡ lab.person r.name) × (q.version ≡ r.version))) rs × Parted rs

  -- each name's own records run on from some number
  abbrev Running : List Record → Type 0
  Running rs = (name : Bytes) → (k : ℕ) × (e : ℕ) × Runs k e (own_records lab name rs)

  own_first : (r : Record) (rs : List Record) → own_records lab r.name (r ∷ rs) ≡ r ∷ own_records lab r.name rs
  unfolding same_name
  own_first r rs = own-cons lab r.name r rs ∙ ap (λ b. cond b (r ∷ own_records lab r.name rs) (own_records lab r.name rs)) (eq-same {s = lab.person r.name} refl)

  running-on : (r : Record) (rs : List Record) → Running (r ∷ rs) → Running rs
  running-on r rs h name = let (k, e, runs) = h name in by k e (same_name lab r.name name) (subst (λ l. Runs k e l) (own-cons lab name r rs) runs)
    where
      by : (k e : ℕ) (b : Bool) → Runs k e (cond b (r ∷ own_records lab name rs) (own_records lab name rs)) → (k : ℕ) × (e : ℕ) × Runs k e (own_records lab name rs)
      by k e true runs = (suc k, r.epoch, runs.2)
      by k e false runs = (k, e, runs)

  parted : (rs : List Record) → Running rs → Parted rs
  parted [] h = tt
  parted (r ∷ rs) h = (in-all (λ q. ¬ ((lab.person q.name ≡ lab.person r.name) × (q.version ≡ r.version))) rs (λ q m (p, v). later q m p v), parted rs (running-on r rs h))
    where
      later : (q : Record) → q ∈ rs → lab.person q.name ≡ lab.person r.name → q.version ≡ r.version → ⊥
      later q m p v =
          let (k, e, runs) = h r.name in
          let own : Runs k e (r ∷ own_records lab r.name rs) = subst (λ l. Runs k e l) (own_first r rs) runs in
          omega (arith, v, own.0, all_in (λ q. suc k < q.version) (own_records lab r.name rs) (runs-above (suc k) r.epoch (own_records lab r.name rs) own.2) q (in-own lab r.name rs q m p))

  -- ---- their leaves, where a label tells kind, number and name

  module _ (telling : Telling lab) (U : List Bytes) (one : OneToOne U) where
    -- a leaf of a record: its label's strings are of the list, and its kind and number tell the version
    record Of (W : Kind → ℕ → ℕ) (r : Record) (y : Node) : Type 0 where
      kind : Kind
      number : ℕ
      small : number < 2 ^ 16
      there : All (λ s. s ∈ U) (lab.strings kind number (lab.person r.name))
      is : key y ≡ bits_of (lab.label kind number (lab.person r.name))
      told : r.version ≡ W kind number

    apart : (W : Kind → ℕ → ℕ) (r q : Record) → ¬ ((lab.person q.name ≡ lab.person r.name) × (q.version ≡ r.version)) → (x y : Node) → Of W r x → Of W q y → ¬ (key y ≡ key x)
    apart W r q n x y o p e =
        let (k, m, z) = label-tells telling U one p.kind o.kind p.number o.number (lab.person q.name) (lab.person r.name) p.small o.small p.there o.there (sym p.is ∙ e ∙ o.is) in
        n (z, p.told ∙ ap₂ W k m ∙ sym o.told)

    flat : (W : Kind → ℕ → ℕ) (f : Record → List Node) (l : List Record) → Parted l → ((r : Record) → r ∈ l → All (Of W r) (f r) × Differ (f r)) → Differ (flat_map f l)
    unfolding flat_map
    flat W f [] p h = tt
    flat W f (r ∷ l) p h = differ-append (f r) (flat_map f l) (h r (inl refl)).1 (flat W f l p.1 (λ q m. h q (inr m)))
        (in-all (λ x. All (λ y. ¬ (key y ≡ key x)) (flat_map f l)) (f r) (λ x i.
        all-flat (λ y. ¬ (key y ≡ key x)) f l (in-all (λ q. All (λ y. ¬ (key y ≡ key x)) (f q)) l (λ q m.
        in-all (λ y. ¬ (key y ≡ key x)) (f q) (λ y j. apart W r q (all_in _ l p.0 q m) x y (all_in (Of W r) (f r) (h r (inl refl)).0 x i) (all_in (Of W q) (f q) (h q (inr m)).0 y j))))))

    module _ (r : Record) (most : r.version ≤ version_most) (strings : All (λ s. s ∈ U) (record_strings lab r)) where
      abbrev its : Kind → ℕ → List Bytes
      its k n = lab.strings k n (lab.person r.name)

      abbrev parts : Bool → Bool → List Bytes
      parts b c = its version r.version ++ (cond b (its marker (log2 r.version)) [] ++ cond c (its version (r.version - 1)) [])

      version-leaf : Node
      version-leaf = leaf_of lab version r.version r.name (sha256 (commitment_string r.opening r.key)) r.epoch

      marker-leaf : Node
      marker-leaf = leaf_of lab marker (log2 r.version) r.name (zeros wide) r.epoch

      version-of : (b c : Bool) → All (λ s. s ∈ U) (parts b c) → Of in_all r version-leaf
      unfolding version-leaf
      version-of b c u = record { kind = version; number = r.version; small = omega (arith, most); there = all_left (λ s. s ∈ U) (its version r.version) _ u; is = refl; told = refl }

      marker-of : (c : Bool) → eqb (2 ^ log2 r.version) r.version ≡ true → All (λ s. s ∈ U) (parts true c) → Of in_all r marker-leaf
      unfolding marker-leaf
      marker-of c q u = record {
        kind = marker;
        number = log2 r.version;
        small = omega (arith, small-log r.version most);
        there = all_left (λ s. s ∈ U) (its marker (log2 r.version)) _ (all_right (λ s. s ∈ U) (its version r.version) _ u);
        is = refl;
        told = sym (eqb-true _ _ q);
      }

      -- of one record, the kinds of the two leaves differ
      marker-apart : (c : Bool) → All (λ s. s ∈ U) (parts true c) → ¬ (key marker-leaf ≡ key version-leaf)
      unfolding version-leaf marker-leaf
      marker-apart c u e =
          let v : All (λ s. s ∈ U) (its version r.version) = all_left (λ s. s ∈ U) (its version r.version) _ u in
          let m : All (λ s. s ∈ U) (its marker (log2 r.version)) = all_left (λ s. s ∈ U) (its marker (log2 r.version)) _ (all_right (λ s. s ∈ U) (its version r.version) _ u) in
          other-kind (sym (ap kind_byte (label-tells telling U one marker version (log2 r.version) r.version (lab.person r.name) (lab.person r.name) (omega (arith, small-log r.version most)) (omega (arith, most)) m v e).0))

      all_of : All (Of in_all r) (all_leaves lab r) × Differ (all_leaves lab r)
      unfolding all_leaves record_strings version-leaf marker-leaf
      all_of = by (eqb (2 ^ log2 r.version) r.version) refl strings
        where
          by : (b : Bool) → eqb (2 ^ log2 r.version) r.version ≡ b → All (λ s. s ∈ U) (parts b (ltb 1 r.version))
              → All (Of in_all r) (version-leaf ∷ cond b (marker-leaf ∷ []) []) × Differ (version-leaf ∷ cond b (marker-leaf ∷ []) [])
          by true q u =
              let v = version-of true (ltb 1 r.version) u in
              let m = marker-of (ltb 1 r.version) q u in
              ((v, (m, tt)), ((marker-apart (ltb 1 r.version) u, tt), (tt, tt)))
          by false q u = ((version-of false (ltb 1 r.version) u, tt), (tt, tt))

      old_of : All (Of in_old r) (old_leaves lab r) × Differ (old_leaves lab r)
      unfolding old_leaves record_strings
      old_of =
          let rest : All (λ s. s ∈ U) (cond (eqb (2 ^ log2 r.version) r.version) (its marker (log2 r.version)) [] ++ cond (ltb 1 r.version) (its version (r.version - 1)) []) =
          all_right (λ s. s ∈ U) (its version r.version) _ strings in
          by (ltb 1 r.version) refl (all_right (λ s. s ∈ U) (cond (eqb (2 ^ log2 r.version) r.version) (its marker (log2 r.version)) []) _ rest)
        where
          by : (c : Bool) → ltb 1 r.version ≡ c → All (λ s. s ∈ U) (cond c (its version (r.version - 1)) [])
              → All (Of in_old r) (cond c (leaf_of lab version (r.version - 1) r.name (zeros wide) r.epoch ∷ []) []) × Differ (cond c (leaf_of lab version (r.version - 1) r.name (zeros wide) r.epoch ∷ []) [])
          by true q u = ((record { kind = version; number = r.version - 1; small = omega (arith, most); there = u; is = refl; told = omega (arith, ltb-true 1 r.version q) }, tt), (tt, tt))
          by false q u = (tt, tt)

  -- ---- so either tree of a table in shape is clear, or two strings collide

  module _ (telling : Telling lab) (c t : ℕ) (rs : List Record) (shape : in_shape lab c [] rs ≡ true) (few : All (λ r. r.version ≤ version_most) rs) where
    split : Parted (by_epoch t rs)
    split = parted (by_epoch t rs) (λ name. (0, 0, versions-run lab name c t rs shape))

    small : (r : Record) → r ∈ by_epoch t rs → r.version ≤ version_most
    small r m = all_in (λ r. r.version ≤ version_most) rs few r (by_in t rs r m)

    its-in : (r : Record) → r ∈ by_epoch t rs → All (λ s. s ∈ tree_strings lab t rs) (record_strings lab r)
    its-in r m = in-all (λ s. s ∈ tree_strings lab t rs) (record_strings lab r) (λ s j. in-flat (record_strings lab) (by_epoch t rs) r s m j)

    pub clear-or-collide : (distinct (all_at lab t rs) && distinct (old_at lab t rs) ≡ true) ⊎ Collision (tree_strings lab t rs)
    clear-or-collide = ⊎_elim inr
        (λ one. inl (and_both
        (differ-distinct (all_at lab t rs) (flat telling (tree_strings lab t rs) one in_all (all_leaves lab) (by_epoch t rs) split (λ r m. all_of telling (tree_strings lab t rs) one r (small r m) (its-in r m))))
        (differ-distinct (old_at lab t rs) (flat telling (tree_strings lab t rs) one in_old (old_leaves lab) (by_epoch t rs) split (λ r m. old_of telling (tree_strings lab t rs) one r (small r m) (its-in r m))))))
        (collide-or-not (tree_strings lab t rs))
