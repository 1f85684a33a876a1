-- A row of leaves by their bytes, as document 01's leaves.
use Rattle.std.specs.Prelude.{◌≡◌, List, map, ◌^◌, ◌<◌, length}
use Rattle.paper.specs.Lists.{All}
use Rattle.paper.specs.Bytes.{Bytes}
use Rattle.paper.specs.Strings.{Node, leaf, inner, nothing}
use Rattle.paper.specs.Tree.{key}
use Rattle.paper.specs.Standing.{Wide}
use Rattle.paper.specs.Level.{entry_size, entry_leaf}

abbrev pub as_nodes : List Bytes → List Node
as_nodes = map entry_leaf

-- each leaf has all its bytes
abbrev pub Whole : List Bytes → Type 0
Whole = All (λ e. length e ≡ entry_size)

-- labels have 256 bits
abbrev pub Long : List Node → Type 0
Long = All (λ x. length (key x) ≡ 256)

-- "label 32, commitment 32, epoch 4"
abbrev pub LeafFits : Node → Type 0
LeafFits (leaf m c e) = (length m ≡ 256) × Wide c × (e < 2 ^ 32)
LeafFits (inner p l r) = ⊥
LeafFits nothing = ⊥

abbrev pub Sized : List Node → Type 0
Sized = All LeafFits
