-- How names become labels. Everything above takes the labelling as a parameter.
use Rattle.std.specs.Prelude.{◌≡◌, Bool, List, [], ◌∷◌, ◌++◌, ℕ, ◌^◌, ◌<◌, length}
use Rattle.fips.specs.Sha256.{sha256}
use Rattle.paper.specs.Numbers.{wide}
use Rattle.paper.specs.Bytes.{Bytes, same}
use Rattle.paper.specs.Strings.{Kind, kind_byte, label_string}

pub record Labelling : Type 0 where
  -- a name as it counts: two names are one where these are the same
  pub person : Bytes → Bytes
  -- the label of a kind and number, for a name as it counts
  pub label : Kind → ℕ → Bytes → Bytes
  -- the strings that are hashed for it, in order
  pub strings : Kind → ℕ → Bytes → List Bytes

-- "Label: 0x04, kind 1, number 2, name.", hashed, and names as they are spelled
abbrev pub plain : Labelling
plain = record {
  person = λ name. name;
  label = λ kind n name. sha256 (label_string (kind_byte kind) n name);
  strings = λ kind n name. label_string (kind_byte kind) n name ∷ [];
}

-- whether two names are one
unfoldable pub same_name : Labelling → Bytes → Bytes → Bool
same_name lab a b = same (lab.person a) (lab.person b)

-- ---- what a labelling has to obey

-- a string that ends in these bytes
pub record EndsIn (s end : Bytes) : Type 0 where
  pub front : Bytes
  pub whole : front ++ end ≡ s

-- strings from which a label is hashed: the label is SHA-256 of the last, and the digest of each earlier one ends the next
abbrev pub Ties : List Bytes → Bytes → Type 0
Ties [] label = ⊥
Ties (s ∷ []) label = sha256 s ≡ label
Ties (s ∷ t ∷ more) label = EndsIn t (sha256 s) × Ties (t ∷ more) label

-- all that a labelling has to obey: the listed strings are those from which its labels are hashed, and every label takes as many
pub record Tied (lab : Labelling) : Type 0 where
  pub ties : (kind : Kind) (n : ℕ) (name : Bytes) → Ties (lab.strings kind n name) (lab.label kind n name)
  pub each : ℕ
  pub as_many : (kind : Kind) (n : ℕ) (name : Bytes) → length (lab.strings kind n name) ≡ each

-- so labels have 32 bytes (`tied-sized`), which is what most theorems ask
pub record Sized (lab : Labelling) : Type 0 where
  pub size : (kind : Kind) (n : ℕ) (name : Bytes) → length (lab.label kind n name) ≡ wide

-- and a labelling whose strings tell kind, number and name, as far as a number has two bytes: then labels tell them too, unless two of the
-- strings have one digest
pub record Telling (lab : Labelling) : Type 0 where
  pub tied : Tied lab
  pub parts : (k l : Kind) (n m : ℕ) (a b : Bytes) → n < 2 ^ 16 → m < 2 ^ 16 → lab.strings k n a ≡ lab.strings l m b → (k ≡ l) × (n ≡ m) × (a ≡ b)
