-- What stands before a proof's paths.
use Rattle.std.specs.Prelude.{List, [], ◌∷◌, ◌++◌, map, ℕ, length, drop}
use Rattle.paper.specs.Bytes.{Bytes, be}
use Rattle.paper.specs.Strings.{Head}
use Rattle.paper.specs.Labelling.{plain}
use Rattle.paper.specs.Layout.{times_bytes}
use Rattle.paper.specs.Fields.{head_field}
use Rattle.paper.specs.Shows.{Item, item_field}
use Rattle.paper.specs.Table.{Record}
use Rattle.paper.specs.Write.{versions_by, item_of}
use Rattle.record.specs.Places.{records_in}

-- header, head and number
unfoldable pub front_bytes : ℕ → Head → ℕ → Bytes
front_bytes kind h n = (0x56 ∷ 0x4B ∷ 0x44 ∷ 0 ∷ 1 ∷ kind ∷ []) ++ (head_field.bytes h ++ be 2 n)

-- "n of key length, key, opening"
unfoldable pub item_bytes : List Item → Bytes
item_bytes l = times_bytes item_field.bytes l

-- a name's versions by an epoch among the first n records, behind those among the first `from`
abbrev pub versions_from : Bytes → Bytes → ℕ → ℕ → ℕ → List Record
versions_from s name t from n = drop (length (versions_by plain name t (records_in from s))) (versions_by plain name t (records_in n s))

abbrev pub items_from : Bytes → Bytes → ℕ → ℕ → ℕ → List Item
items_from s name t from n = map item_of (versions_from s name t from n)
