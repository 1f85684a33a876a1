-- The strings that are hashed for the labels which publishing and a writer compare: where no two of them have one digest, no label clashes.
use Rattle.std.specs.Prelude.{◌≡◌, cond, ℕ, suc, ◌-◌, ◌/◌, ◌^◌, eqb, ltb, length}
use mathlib.Core.List.{List, [], ◌++◌, flat_map}
use Rattle.paper.specs.Numbers.{update_size}
use Rattle.paper.specs.Bytes.{Bytes}
use Rattle.paper.specs.Bits.{log2}
use Rattle.paper.specs.Strings.{version, marker}
use Rattle.paper.specs.Labelling.{Labelling}
use Rattle.paper.specs.Layout.{got, times, parse}
use Rattle.paper.specs.Shows.{kind_of, number_of, Asked}
use Rattle.paper.specs.Table.{Record, Update, update_field, counted, by_epoch}
use Rattle.paper.specs.Effect.{added}
use Rattle.paper.specs.Arrow.{Collision}
use Rattle.paper.specs.declared.State.{State}

module _ (lab : Labelling) where
  -- those of a record's leaves: its version, its marker if it is 2^j, and the version that it replaces
  unfoldable pub record_strings : Record → List Bytes
  record_strings r =
      lab.strings version r.version (lab.person r.name)
      ++ (cond (eqb (2 ^ log2 r.version) r.version) (lab.strings marker (log2 r.version) (lab.person r.name)) []
      ++ cond (ltb 1 r.version) (lab.strings version (r.version - 1) (lab.person r.name)) [])

  -- that of what a proof is asked to show
  abbrev pub asked_strings : Bytes → Asked → List Bytes
  asked_strings name a = lab.strings (kind_of a.place) (number_of a.place) (lab.person name)

  -- those of an epoch's trees: of the records by then
  abbrev pub tree_strings : ℕ → List Record → List Bytes
  tree_strings t rs = flat_map record_strings (by_epoch t rs)

  -- those of a proof for a name at an epoch: what is asked, and the epoch's trees
  abbrev pub label_strings : Bytes → ℕ → List Record → List Asked → List Bytes
  label_strings name t rs asked = flat_map (asked_strings name) asked ++ tree_strings t rs

  -- two strings of the next epoch's trees, over the records and updates that publishing read, have one digest
  pub record PublishClash (records : Bytes) (state : State) (batch : Bytes) : Type 0 where
    pub rs : List Record
    pub us : List Update
    pub records-read : counted records state.count ≡ got rs []
    pub batch-read : parse (times (length batch / update_size) update_field) batch ≡ got us []
    pub strings : Collision (tree_strings (suc state.epoch) (rs ++ added lab state rs us))
