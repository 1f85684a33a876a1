-- The layout of a lookup or history proof by places.
use Rattle.std.specs.Prelude.{List, ℕ, ◌+◌, ◌≤◌, length, take, drop, get_or, Option, Some, None}
use Rattle.fips.specs.Sha256.{sha256}
use Rattle.paper.specs.Numbers.{version_most, key_most}
use Rattle.paper.specs.Bytes.{Bytes}
use Rattle.paper.specs.Strings.{Head, commitment_string}
use Rattle.paper.specs.Layout.{Layout, Read, got, bad, within, seq, times, times_bytes, view, parse}
use Rattle.paper.specs.Fields.{opens, head_field, path_field}
use Rattle.paper.specs.Path.{Path}
use Rattle.paper.specs.Shows.{Item, item_field}
use Rattle.fields.specs.Head.{head_at}
use Rattle.shown.specs.declared.Front.{Front}

-- "Each proof begins "VKD", 16-bit version 1, kind 1 .., then the 100 bytes of a head after its 0x03", and a number
abbrev pub front_field : ℕ → Layout (Head × ℕ)
front_field kind = view (seq (opens kind) (λ _. seq head_field (λ _. within 2 0 version_most))) (λ x. x.1) (λ x. (tt, x))

abbrev pub front_of : Read (Head × ℕ) → Option Front
front_of bad = None
front_of (got x r) = Some (record { number = x.1; epoch = x.0.epoch })

unfoldable pub front_at : ℕ → Bytes → Option Front
front_at kind s = front_of ((front_field kind).read s)

-- the head in the front
abbrev pub head_in : Bytes → Head
head_in s = head_at s 6

-- k keys and m paths behind the front, and nothing behind them: the place of the first path
abbrev pub body_field : ℕ → ℕ → Layout (List Item × List Path)
body_field k m = seq (times k item_field) (λ _. times m path_field)

abbrev pub start_of : Read (List Item × List Path) → Option ℕ
start_of bad = None
start_of (got x r) = Some (108 + length (times_bytes item_field.bytes x.0))

unfoldable pub first_path : ℕ → ℕ → Bytes → Option ℕ
first_path k m s = start_of (parse (body_field k m) (drop 108 s))

-- the item at a place: "key length, key, opening"
abbrev pub item_in : Bytes → ℕ → Item
item_in s at = record { key = take (get_or s at 0) (drop (at + 1) s); opening = take 32 (drop (at + 1 + get_or s at 0) s) }

-- it stands there whole
pub record ItemStands (s : Bytes) (at : ℕ) : Type 0 where
  pub room : at + 33 + get_or s at 0 ≤ length s
  pub most : get_or s at 0 ≤ key_most

unfoldable pub commitment_in : Bytes → ℕ → Bytes
commitment_in s at = sha256 (commitment_string (item_in s at).opening (item_in s at).key)
