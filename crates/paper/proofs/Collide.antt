-- A list of strings has two that collide, or none: then what was hashed is determined by its digest. Assumes nothing.
use mathlib.Core.Path.{◌≡◌, sym, ◌∙◌}
use mathlib.Core.Logic.{◌⊎◌, inl, inr, ⊎_elim}
use mathlib.Core.HLevel.{Discrete}
use mathlib.Core.List.{List, List-discrete}
use native.Mathlib.Decide.{ℕ_discrete}
use lib.ListN.{length}
use Rattle.fips.specs.Sha256.{sha256}
use Rattle.paper.specs.Lists.{◌∈◌, All}
use Rattle.paper.specs.Numbers.{wide}
use Rattle.paper.specs.Bytes.{Bytes}
use Rattle.paper.specs.Strings.{node_string, head_string, commitment_string}
use Rattle.paper.specs.Arrow.{Collision}
pub use Rattle.paper.specs.Arrow.{OneToOne}
use Rattle.paper.proofs.Lists.{all_in, some-or-all}
use Rattle.paper.proofs.Strings.{NodeSized, HeadSized, node-inj, head-inj, commitment-inj}
use Rattle.paper.proofs.Chain.{Hashed}

bytes? : Discrete Bytes
bytes? = List-discrete ℕ_discrete

-- a pair collides, or its digests tell it apart
pair : (x y : Bytes) → ((¬ (x ≡ y)) × (sha256 x ≡ sha256 y)) ⊎ (sha256 x ≡ sha256 y → x ≡ y)
pair x y = by (bytes? x y) (bytes? (sha256 x) (sha256 y))
  where
    by : Dec (x ≡ y) → Dec (sha256 x ≡ sha256 y) → ((¬ (x ≡ y)) × (sha256 x ≡ sha256 y)) ⊎ (sha256 x ≡ sha256 y → x ≡ y)
    by (yes e) d = inr (λ _. e)
    by (no n) (yes e) = inl (n, e)
    by (no n) (no m) = inr (λ e. absurd (m e))

pub collide-or-not : (U : List Bytes) → Collision U ⊎ OneToOne U
collide-or-not U = ⊎_elim
    (λ (x, i, (y, j, (n, e))). inl (record { one = x; two = y; in_one = i; in_two = j; differ = n; same = e }))
    (λ h. inr (λ x y i j. all_in _ U (all_in _ U h x i) y j))
    (some-or-all
    (λ x. (y : Bytes) × (y ∈ U) × ((¬ (x ≡ y)) × (sha256 x ≡ sha256 y)))
    (λ x. All (λ y. sha256 x ≡ sha256 y → x ≡ y) U)
    (λ x. some-or-all _ _ (pair x) U) U)

-- what was hashed, where no two strings of the list collide
abbrev pub hashed_in : (U : List Bytes) → OneToOne U → Hashed
hashed_in U f = record {
  trees = record {
    In = λ x. NodeSized x × (node_string x ∈ U);
    inj = λ x y (s, i) (t, j) e. node-inj x y s t (f _ _ i j e);
  };
  HeadIn = λ h. HeadSized h × (head_string h ∈ U);
  head-inj = λ x y (s, i) (t, j) e. head-inj x y s t (f _ _ i j e);
  CommitmentIn = λ o k. (length o ≡ wide) × (commitment_string o k ∈ U);
  commitment-inj = λ o k p l (s, i) (t, j) e. commitment-inj (s ∙ sym t) (f _ _ i j e);
}
