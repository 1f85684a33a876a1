-- The updates of a batch by their places. Where the bytes are in layout, this is what the layout reads (proofs/Form.antt).
use Rattle.std.specs.Prelude.{Bool, List, map, ℕ, suc, ◌*◌, ◌≤◌, length, take, drop, get_or}
use Rattle.paper.specs.Lists.{some, up_from}
use Rattle.paper.specs.Numbers.{update_size, name_most, key_most, wide}
use Rattle.paper.specs.Bytes.{Bytes}
use Rattle.paper.specs.Labelling.{plain, same_name}
use Rattle.paper.specs.Table.{Update}

-- "An update has 162 bytes: a record without version and epoch.": the update in front of bytes, each field at its place
unfoldable pub update_in : Bytes → Update
update_in s = record {
  name = take (get_or s 0 0) (take name_most (drop 1 s));
  key = take (get_or s 65 0) (take key_most (drop 66 s));
  opening = take wide (drop 130 s);
}

-- update i of a batch
unfoldable pub update_at : Bytes → ℕ → Update
update_at s i = update_in (drop (i * update_size) s)

-- the first n updates
unfoldable pub updates_in : ℕ → Bytes → List Update
updates_in n s = map (update_at s) (up_from 0 n)

-- whether an update from update j on has the name of update i
unfoldable pub bears_from : Bytes → ℕ → ℕ → ℕ → Bool
bears_from s n i j = some (λ w. same_name plain w.name (update_at s i).name) (drop j (updates_in n s))

-- update i lies in the batch, and its name's length is that of a name
pub record Lies (s : Bytes) (i : ℕ) : Type 0 where
  pub reach : suc i * update_size ≤ length s
  pub short : get_or s (i * update_size) 0 ≤ name_most
