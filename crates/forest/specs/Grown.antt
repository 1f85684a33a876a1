-- Either tree of an epoch, as it is stored.
use Rattle.std.specs.Prelude.{◌≡◌, true, false, Option, Some, None, List, ℕ, ◌*◌, ◌≤◌, ◌<◌, length}
use Rattle.paper.specs.Bytes.{Bytes}
use Rattle.paper.specs.Bits.{Bits}
use Rattle.paper.specs.Strings.{Node}
use Rattle.paper.specs.Tree.{root}
use Rattle.paper.specs.Table.{holds, distinct}
use Rattle.paper.specs.Level.{entry_size}
use Rattle.record.specs.Places.{Stands}
use Rattle.leaf_row.specs.Row.{as_nodes}
use Rattle.tree.specs.Stored.{Kept}
use Rattle.tree.specs.declared.Children.{Children}
use Rattle.tree.specs.declared.StoredTree.{StoredTree}

-- each of the records can be read, and the row and the slots have room for two leaves of each
pub record Ground (records : Bytes) (count : ℕ) (row : Bytes) (slots : List Children) : Type 0 where
  pub stand : (i : ℕ) → i < count → Stands records i
  pub leaves : 2 * count * entry_size ≤ length row
  pub digests : 2 * count ≤ length slots

-- the tree over S is stored, over as many leaves in bit order
pub record Standing (S : List Node) (t : StoredTree) : Type 0 where
  pub kept : Kept t
  pub number : length t.leaves.now ≡ length S
  pub tree : root S ≡ root (as_nodes t.leaves.now)
  pub labels : (L : Bits) → holds L S ≡ holds L (as_nodes t.leaves.now)

-- a tree over S is there: no two of its leaves share a label, and it stands
pub record Clear (S : List Node) (t : StoredTree) : Type 0 where
  pub alone : distinct S ≡ true
  pub standing : Standing S t

-- there is a tree where no two leaves share a label
abbrev pub Grows : List Node → Option StoredTree → Type 0
Grows S None = distinct S ≡ false
Grows S (Some t) = Clear S t
