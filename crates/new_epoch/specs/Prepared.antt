-- The records that a batch becomes, and their bytes.
use Rattle.std.specs.Prelude.{◌≡◌, Bool, true, false, cond, List, [], ◌∷◌, ◌++◌, map, ℕ, suc, ◌*◌, ◌≤◌, leb, length, take, drop}
use Rattle.paper.specs.Lists.{every}
use Rattle.paper.specs.Numbers.{version_most, record_size, update_size}
use Rattle.paper.specs.Bytes.{Bytes, be, pasted}
use Rattle.paper.specs.Labelling.{plain}
use Rattle.paper.specs.Layout.{times_bytes, in_layout}
use Rattle.paper.specs.Table.{Record, record_field, update_field}
use Rattle.paper.specs.Publish.{new_record}
use Rattle.record.specs.Places.{records_in}
use Rattle.table.specs.Index.{Own}
use Rattle.table.specs.declared.index.Index.{Index}
use Rattle.batch.specs.Places.{update_at, updates_in}

-- "An update has 162 bytes: a record without version and epoch.": the record's bytes, from the update's
unfoldable pub record_over : Bytes → ℕ → ℕ → Bytes
record_over u version epoch = take 65 u ++ (be 2 version ++ (be 4 epoch ++ take 97 (drop 65 u)))

-- the records that n updates become at an epoch, behind the counted ones
abbrev pub new_records : Bytes → ℕ → ℕ → Bytes → ℕ → List Record
new_records records count epoch batch n = map (new_record plain (records_in count records) epoch) (updates_in n batch)

-- "a name at 1,023": whether a record has a version
abbrev pub numbered : Record → Bool
numbered q = leb q.version version_most

-- the records before the first one that has none
unfoldable pub while_numbered : List Record → List Record
while_numbered [] = []
while_numbered (q ∷ l) = cond (numbered q) (q ∷ while_numbered l) []

-- the table's records are indexed, and each update of the batch is in layout
pub record Ready (x : Index) (batch : Bytes) : Type 0 where
  pub index : Own x
  pub formed : (i : ℕ) → suc i * update_size ≤ length batch → in_layout (update_field.read (drop (i * update_size) batch)) ≡ true

-- whether the record that update i becomes has a version, and then its bytes are laid over place i; otherwise all is as before
pub record Next (records : Bytes) (count : ℕ) (batch : Bytes) (i epoch : ℕ) (before after : Bytes) (r : Bool) : Type 0 where
  pub is : r ≡ numbered (new_record plain (records_in count records) epoch (update_at batch i))
  pub bytes : r ≡ true → after ≡ pasted before (i * record_size) (record_over (drop (i * update_size) batch) (new_record plain (records_in count records) epoch (update_at batch i)).version epoch)
  pub same : r ≡ false → after ≡ before

-- whether no name is at 1,023 already, and then the new records stand first; in any case those before such a name are laid there
pub record Prepared (records : Bytes) (count epoch : ℕ) (batch : Bytes) (n : ℕ) (before after : Bytes) (r : Bool) : Type 0 where
  pub is : r ≡ every numbered (new_records records count epoch batch n)
  pub bytes : r ≡ true → take (n * record_size) after ≡ times_bytes record_field.bytes (new_records records count epoch batch n)
  pub laid : after ≡ pasted before 0 (times_bytes record_field.bytes (while_numbered (new_records records count epoch batch n)))
