-- The sides of a stored root, as the way from the root on finds them. Assumes nothing.
use mathlib.Core.Path.{◌≡◌, refl, sym, ap, ◌∙◌}
use mathlib.Core.Bool.{Bool, true, false, cond}
use mathlib.Core.List.{List, ◌++◌}
use Prim.Native.Nat.{ℕ, ◌≤◌}
use native.Mathlib.Omega.{arith}
use lib.ListN.{length, take, drop, get_or, length-take}
use lib.Seq.{length-take-le}
use Rattle.paper.specs.Bytes.{Bytes}
use Rattle.paper.specs.Bits.{Bits}
use Rattle.paper.specs.Strings.{Node, node_string}
use Rattle.paper.specs.Tree.{digest, Tree, top, build, root}
use Rattle.paper.specs.Fields.{step_field}
use Rattle.paper.proofs.Fits.{digest-wide}
use Rattle.tree.specs.Stored.{Sorted, Side, Stored}
use Rattle.tree.specs.declared.Children.{Children}
use Rattle.tree.specs.declared.Sides.{Sides}
use Rattle.tree.proofs.Halves.{RootHalves, root-halves, taken}
use Rattle.tree_path.specs.Measured.{way_bytes}
use Rattle.tree_path.proofs.Ways.{turn-bytes, starts_none}

module _ (S : List Node) (slots : List Children) (r : Sides) (w : Sorted S) (h : Stored S slots r) where
  abbrev m : ℕ
  m = r.split

  pub parts : RootHalves S m
  parts = root-halves S m w h.cut

  abbrev low : Tree
  low = build 256 (take m S)

  abbrev high : Tree
  high = build 256 (drop m S)

  pub reach : m ≤ length slots
  reach = omega (arith, h.left.size, length-take m slots, length-take-le m S parts.most)

  -- the side that a label does not take
  abbrev pub sibling : Bool → Bytes
  sibling b = cond b r.children.left r.children.right

  sibling-digest : (b : Bool) → digest (top (cond b low high)) ≡ sibling b
  sibling-digest true = sym h.left.node
  sibling-digest false = sym h.right.node

  pub sibling-wide : (b : Bool) → length (sibling b) ≡ 32
  sibling-wide b = ap length (sym (sibling-digest b)) ∙ (digest-wide (node_string (top (cond b low high)))).size

  -- the way goes down on the side of the first bit, and the other side is its sibling
  pub turned : (L : Bits) (b : Bool) → get_or L 0 false ≡ b → way_bytes L (root S) ≡ step_field.bytes (record { length = 0; sibling = sibling b }) ++ way_bytes L (cond b high low)
  turned L b q =
      turn-bytes L _ _ _ _ parts.tree 0 refl (starts_none L) b q
      ∙ ap (λ x. step_field.bytes (record { length = 0; sibling = x }) ++ way_bytes L (cond b high low)) (sibling-digest b)

  -- the side that a bit takes
  pub side-taken : (b : Bool) → Side (taken b m S) (cond b r.children.right r.children.left) (cond b (drop m slots) (take m slots))
  side-taken true = h.right
  side-taken false = h.left
