-- The paths that a proof asks, out of the two trees of an epoch.
use Rattle.std.specs.Prelude.{◌≡◌, Bool, true, false, Option, Some, None, not, ◌||◌, List, map, ℕ, ◌≤◌, length}
use Rattle.paper.specs.Numbers.{name_most}
use Rattle.paper.specs.Bytes.{Bytes}
use Rattle.paper.specs.Strings.{Node}
use Rattle.paper.specs.Labelling.{plain}
use Rattle.paper.specs.Tree.{root}
use Rattle.paper.specs.Path.{Path, way}
use Rattle.paper.specs.Layout.{times_bytes}
use Rattle.paper.specs.Fields.{path_field}
use Rattle.paper.specs.Table.{holds}
use Rattle.paper.specs.Level.{rising}
use Rattle.paper.specs.Shows as P
use Rattle.plan.specs.Asked.{place_of}
use Rattle.plan.specs.declared.Place.{Place}
use Rattle.plan.specs.declared.Place.TheVariants.{InAll, InOld, AsMarker}
use Rattle.plan.specs.declared.Asked.{Asked}
use Rattle.leaf_row.specs.Row.{as_nodes}
use Rattle.tree.specs.Stored.{Sorted, Kept, Lent}
use Rattle.tree.specs.declared.StoredTree.{StoredTree}
use Rattle.forest.specs.declared.Trees.{Trees}

-- what is asked of a place, as document 01's definitions have it
abbrev pub wanted : Asked → P.Asked
wanted a = record { place = place_of a.place; there = a.there }

-- how many bytes s has, where it is free
abbrev pub Measured : Bool → Bytes → Option ℕ → Type 0
Measured free s None = free ≡ false
Measured free s (Some n) = (free ≡ true) × (n ≡ length s)

-- a label's path in a tree over S: of its bytes, unless it is to be shown absent and is there, there are at most 8,805: 256 steps, and
-- the longest end
pub record Sized (free : Bool) (s : Bytes) (r : Option ℕ) : Type 0 where
  pub measured : Measured free s r
  pub most : length s ≤ 8805

-- paths for a name, out of the leaves of *all* and of *old*
module _ (name : Bytes) (A O : List Node) where
  abbrev pub leaves_for : P.Place → List Node
  leaves_for (P.in_all i) = A
  leaves_for (P.in_old i) = O
  leaves_for (P.as_marker j) = A

  abbrev pub path_for : P.Asked → Path
  path_for a = way (P.label_at plain name a.place) (root (leaves_for a.place))

  -- "or a label to be shown absent is there": not so
  abbrev pub free_for : P.Asked → Bool
  free_for a = a.there || not (holds (P.label_at plain name a.place) (leaves_for a.place))

  unfoldable pub path_bytes : List P.Asked → Bytes
  path_bytes l = times_bytes path_field.bytes (map path_for l)

-- the tree of a place
abbrev pub tree_for : Trees → Place → StoredTree
tree_for t (InAll i) = t.all
tree_for t (InOld i) = t.old
tree_for t (AsMarker j) = t.all

-- the leaves of *all*, and of *old*
abbrev pub all_of : Trees → List Node
all_of t = as_nodes t.all.leaves.now

abbrev pub old_of : Trees → List Node
old_of t = as_nodes t.old.leaves.now

-- the leaves of both trees are in bit order, and the name is short enough for a label
pub record Ordered (t : Trees) (name : Bytes) : Type 0 where
  pub all : Sorted (all_of t)
  pub old : Sorted (old_of t)
  pub short : length name ≤ name_most

-- both trees are stored, and the name is short enough for a label
pub record Ready (t : Trees) (name : Bytes) : Type 0 where
  pub all : Kept t.all
  pub old : Kept t.old
  pub short : length name ≤ name_most

-- the same of trees that are lent, of whose leaves the type of a row says all but their order
pub record OrderedLent (t : Trees) (name : Bytes) : Type 0 where
  pub all : rising (all_of t) ≡ true
  pub old : rising (old_of t) ≡ true
  pub short : length name ≤ name_most

pub record ReadyLent (t : Trees) (name : Bytes) : Type 0 where
  pub all : Lent t.all
  pub old : Lent t.old
  pub short : length name ≤ name_most
