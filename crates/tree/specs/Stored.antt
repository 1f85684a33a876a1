-- A tree over leaves in bit order, as it is stored: where its leaves part, the digests of its nodes, and the slots that hold them.
use Rattle.std.specs.Prelude.{◌≡◌, true, false, List, [], ◌∷◌, ◌++◌, ℕ, ◌-◌, ◌≤◌, ◌<◌, length, take, drop, get_or}
use Rattle.paper.specs.Lists.{All}
use Rattle.paper.specs.Bytes.{Bytes}
use Rattle.paper.specs.Bits.{Bits, Pfx}
use Rattle.paper.specs.Strings.{Node}
use Rattle.paper.specs.Tree.{key, digest, Tree, empty, one, fork, top, build}
use Rattle.paper.specs.Level.{rising}
use Rattle.leaf_row.specs.Row.{as_nodes, Sized}
use Rattle.tree.specs.declared.Children.{Children}
use Rattle.tree.specs.declared.Sides.{Sides}
use Rattle.tree.specs.declared.StoredTree.{StoredTree}

-- the digests of an inner node's two children
abbrev pub children : Tree → Tree → Children
children l r = record { left = digest (top l); right = digest (top r) }

-- those of each inner node, in order from left to right: the node that splits a range between two neighbours stands between them
unfoldable pub flat : Tree → List Children
flat empty = []
flat (one x) = []
flat (fork p l r) = flat l ++ (children l r ∷ flat r)

-- leaves in bit order and no label twice
pub record Sorted (S : List Node) : Type 0 where
  pub sized : Sized S
  pub rises : rising S ≡ true

-- leaves that begin with the same bits, of which there are `from`
pub record Range (from : ℕ) (S : List Node) : Type 0 where
  pub shared : Bits
  pub size : length shared ≡ from
  pub shares : All (λ x. Pfx shared (key x)) S

-- a part of the leaves below the root: one leaf or more, which share one bit or more
pub record Part (from : ℕ) (S : List Node) : Type 0 where
  pub some : 1 ≤ length S
  pub deep : 1 ≤ from
  pub sorted : Sorted S
  pub range : Range from S

-- "the bit after the prefix sends each label left (0) or right (1)": the first m of the leaves have a 0 at bit k, and the others a 1
pub record Cut (k : ℕ) (S : List Node) (m : ℕ) : Type 0 where
  pub most : m ≤ length S
  pub low : All (λ x. get_or (key x) k false ≡ false) (take m S)
  pub high : All (λ x. get_or (key x) k false ≡ true) (drop m S)

-- "more give an inner node whose prefix is their longest common prefix": k bits, behind which they part, so that neither side is empty
pub record Forked (S : List Node) (k m : ℕ) : Type 0 where
  pub small : k < 256
  pub least : 1 ≤ m
  pub less : m < length S
  pub shared : Range k S
  pub cut : Cut k S m

-- the tree below the root over these leaves: its digest, and its slots, one fewer than leaves
pub record BelowLaid (S : List Node) (d : Bytes) (slots : List Children) : Type 0 where
  pub node : d ≡ digest (top (build 256 S))
  pub inside : slots ≡ flat (build 256 S)

-- a side of the root: its slots, as many as leaves, begin with those of its tree
pub record Side (S : List Node) (d : Bytes) (slots : List Children) : Type 0 where
  pub node : d ≡ digest (top (build 256 S))
  pub size : length slots ≡ length S
  pub inside : take (length S - 1) slots ≡ flat (build 256 S)

-- the slots of a side over old ones, of which the spare one is as it was
abbrev pub side_over : List Node → List Children → List Children
side_over S old = flat (build 256 S) ++ drop (length S - 1) old

-- which was laid over slots
pub record SideLaid (S : List Node) (d : Bytes) (old slots : List Children) : Type 0 where
  pub stored : Side S d slots
  pub whole : slots ≡ side_over S old

-- the root's two sides over leaves
pub record Stored (S : List Node) (slots : List Children) (r : Sides) : Type 0 where
  pub cut : Cut 0 S r.split
  pub left : Side (take r.split S) r.children.left (take r.split slots)
  pub right : Side (drop r.split S) r.children.right (drop r.split slots)

-- which were laid over slots, of which the spare ones are as they were
pub record Laid (S : List Node) (old slots : List Children) (r : Sides) : Type 0 where
  pub stored : Stored S slots r
  pub whole : slots ≡ side_over (take r.split S) (take r.split old) ++ side_over (drop r.split S) (drop r.split old)

-- a stored tree is one: over its leaves
pub record Kept (t : StoredTree) : Type 0 where
  pub sorted : Sorted (as_nodes t.leaves.now)
  pub stored : Stored (as_nodes t.leaves.now) t.slots.now t.sides

-- the same of a tree that is lent, of whose leaves the type of a row says all but their order
pub record Lent (t : StoredTree) : Type 0 where
  pub rises : rising (as_nodes t.leaves.now) ≡ true
  pub stored : Stored (as_nodes t.leaves.now) t.slots.now t.sides
