-- A label's way as it is measured, and the bytes of its path.
use Rattle.std.specs.Prelude.{◌++◌, ℕ, length}
use Rattle.paper.specs.Numbers.{wide}
use Rattle.paper.specs.Bytes.{Bytes, be}
use Rattle.paper.specs.Bits.{Bits, pack}
use Rattle.paper.specs.Tree.{Tree}
use Rattle.paper.specs.Path.{End, this, other, off, none, way_steps, way_end}
use Rattle.paper.specs.Layout.{times_bytes}
use Rattle.paper.specs.Fields.{step_field, end_field}
use Rattle.tree_path.specs.declared.EndKind.{EndKind}
use Rattle.tree_path.specs.declared.EndKind.TheVariants as K
use Rattle.tree_path.specs.declared.Way.{Way}

-- the kind of an end, and the number of a kind
abbrev pub kind_of : End → EndKind
kind_of (this c e) = K.This
kind_of (other m c e) = K.Other
kind_of (off p l r) = K.Off
kind_of none = K.Nothing

abbrev pub kind_number : EndKind → ℕ
kind_number K.This = 0
kind_number K.Other = 1
kind_number K.Off = 2
kind_number K.Nothing = 3

-- the number of steps, and the kind of the end
abbrev pub way_of : Bits → Tree → Way
way_of L t = record { steps = length (way_steps L t); kind = kind_of (way_end L t) }

-- how many bytes an end has behind its kind: "0, this leaf: commitment, epoch. 1, another leaf: label, commitment, epoch. 2, another
-- inner node: its 98 bytes after 0x01 .. 3, nothing"
abbrev pub end_size : EndKind → ℕ
end_size K.This = 36
end_size K.Other = 68
end_size K.Off = 98
end_size K.Nothing = 0

-- an end; how many steps stand before it changes nothing in its bytes
unfoldable pub end_bytes : End → Bytes
end_bytes e = (end_field 1).bytes e

-- an inner node of prefix p behind a kind, in a path's end and in an audit's record: "its 98 bytes after 0x01"; d is the digests of its
-- children
abbrev pub node_bytes : Bits → Bytes → Bytes
node_bytes p d = (be 2 (length p) ++ pack wide p) ++ d

-- the steps and the end, as they stand behind the count
unfoldable pub way_bytes : Bits → Tree → Bytes
way_bytes L t = times_bytes step_field.bytes (way_steps L t) ++ end_bytes (way_end L t)
