-- The records of a table by their places. Where the bytes are in layout, this is what the layout reads (proofs/Form.antt).
use Rattle.std.specs.Prelude.{List, map, ℕ, suc, ◌+◌, ◌*◌, ◌≤◌, length, take, drop, get_or}
use Rattle.paper.specs.Lists.{up_from}
use Rattle.paper.specs.Numbers.{record_size, name_most, key_most, wide}
use Rattle.paper.specs.Bytes.{Bytes, number}
use Rattle.paper.specs.Table.{Record}

-- "name length 1, name 64, version 2, epoch 4, key length 1, key 64, opening 32": the record in front of bytes, each field at its
-- place
unfoldable pub record_in : Bytes → Record
record_in s = record {
  name = take (get_or s 0 0) (take name_most (drop 1 s));
  version = number (take 2 (drop 65 s));
  epoch = number (take 4 (drop 67 s));
  key = take (get_or s 71 0) (take key_most (drop 72 s));
  opening = take wide (drop 136 s);
}

-- record i of a table
unfoldable pub record_at : Bytes → ℕ → Record
record_at s i = record_in (drop (i * record_size) s)

-- the first n records
unfoldable pub records_in : ℕ → Bytes → List Record
records_in n s = map (record_at s) (up_from 0 n)

-- record i lies in the table, and its lengths are those of a name and a key
pub record Stands (s : Bytes) (i : ℕ) : Type 0 where
  pub reach : suc i * record_size ≤ length s
  pub name-short : get_or s (i * record_size) 0 ≤ name_most
  pub key-short : get_or s (i * record_size + 71) 0 ≤ key_most
