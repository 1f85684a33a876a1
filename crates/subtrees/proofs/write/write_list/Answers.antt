-- `subtrees::write_list`: the count, the records of the left side, and those of the right one, one right behind the other.
use native.Mathlib.Omega.{arith}
use mathlib.Core.Path.{◌≡◌, sym, ap, ◌∙◌, subst}
use mathlib.Core.List.{List, ◌++◌}
use Prim.Native.Nat.{◌+◌, ◌≤◌}
use lib.ListN.{length, take, drop, length-append}
use Rattle.paper.specs.Bytes.{be}
use Rattle.paper.specs.Strings.{Node}
use Rattle.paper.specs.Tree.{Tree, build, root}
use Rattle.paper.specs.Audit.{list_field}
use Rattle.paper.specs.Write.{below_root}
use Rattle.paper.proofs.Bytes.{be-length}
use Rattle.leaf_row.specs.Row.{as_nodes}
use Rattle.leaf_row.proofs.Rows.{nodes-length, nodes-take, nodes-drop}
use Rattle.tree.specs.Stored.{Sorted}
use Rattle.tree.proofs.Halves.{RootHalves, before-sorted, behind-sorted}
use Rattle.tree_path.proofs.Root.{parts, reach}
use Rattle.path_fields.specs.Written.{Wrote}
use Rattle.subtrees.specs.Listed.{tree_bytes}
use Rattle.subtrees.proofs.News.{root-few}
use Rattle.subtrees.proofs.Records.{list-bytes, list_wrote}
use Rattle.subtrees.proofs.write.write_list.Goals as goal
use Rattle.subtrees.proofs.write.write_list.Goals.{After-list_length, After-split_at}

abbrev leaves : After-list_length → List Node
leaves c = as_nodes c.args.tree.now.leaves.now

sorted : (c : After-list_length) → Sorted (leaves c)
sorted c = record { sized = c.are_leaves.ensures; rises = c.requires.1.rises }

cut : (c : After-list_length) → RootHalves (leaves c) c.args.tree.now.sides.split
cut c = let t = c.args.tree.now in parts (leaves c) t.slots.now t.sides (sorted c) c.requires.1.stored

-- the two sides
abbrev low : After-list_length → Tree
low c = build 256 (take c.args.tree.now.sides.split (leaves c))

abbrev high : After-list_length → Tree
high c = build 256 (drop c.args.tree.now.sides.split (leaves c))

listed : (c : After-list_length)
    → list_field.bytes (below_root c.args.epoch (root (leaves c))) ≡ be 4 c.list_length.result ++ (tree_bytes c.args.epoch (low c) ++ tree_bytes c.args.epoch (high c))
listed c =
    list-bytes c.args.epoch (root (leaves c)) _ _ _ (cut c).tree
    ∙ ap (λ i. be 4 i ++ (tree_bytes c.args.epoch (low c) ++ tree_bytes c.args.epoch (high c))) (sym c.list_length.ensures)

room : (c : After-list_length) → c.args.at + 4 + length (tree_bytes c.args.epoch (low c)) + length (tree_bytes c.args.epoch (high c)) ≤ length c.args.out.now
room c =
    let e = c.args.epoch in
    let k = c.list_length.result in
    omega (
      arith,
      c.requires.2,
      ap length (listed c),
      be-length 4 k,
      length-append (be 4 k) (tree_bytes e (low c) ++ tree_bytes e (high c)),
      length-append (tree_bytes e (low c)) (tree_bytes e (high c)),
    )

pub overflow_cast-list_length : goal.overflow_cast-list_length
overflow_cast-list_length c =
    let d = (goal.at.overflow_cast-list_length c).After-list_length in
    omega (arith, c.list_length.ensures, root-few c.args.epoch (leaves d) c.args.tree.now.sides.split (sorted d) (cut d), nodes-length c.args.tree.now.leaves.now, c.requires.0)

pub write32-requires : goal.write32-requires
write32-requires c = omega (arith, room (goal.at.write32-requires c).After-list_length)

pub split_at-requires : goal.split_at-requires
split_at-requires c = omega (arith, (cut (goal.at.split_at-requires c).After-list_length).most, nodes-length c.args.tree.now.leaves.now)

pub split_at-requires-2 : goal.split_at-requires-2
split_at-requires-2 c = let t = c.args.tree.now in reach (as_nodes t.leaves.now) t.slots.now t.sides (sorted (goal.at.split_at-requires-2 c).After-list_length) c.requires.1.stored

low-is : (c : After-split_at) → let t = c.args.tree.now in as_nodes c.split_at.result.0.now ≡ take t.sides.split (as_nodes t.leaves.now)
low-is c = let t = c.args.tree.now in ap as_nodes c.split_at.ensures.front ∙ nodes-take t.sides.split t.leaves.now

high-is : (c : After-split_at) → let t = c.args.tree.now in as_nodes c.split_at.result.1.now ≡ drop t.sides.split (as_nodes t.leaves.now)
high-is c = let t = c.args.tree.now in ap as_nodes c.split_at.ensures.back ∙ nodes-drop t.sides.split t.leaves.now

pub write_side-next-requires : goal.write_side-next-requires
write_side-next-requires c =
    let d = (goal.at.write_side-next-requires c).After-list_length in
    let s = (goal.at.write_side-next-requires c).After-split_at in
    let t = c.args.tree.now in
    let m = t.sides.split in
    let n : length c.split_at.result.0.now ≡ length (take m (as_nodes t.leaves.now)) = sym (nodes-length c.split_at.result.0.now) ∙ ap length (low-is s) in (
      rw (low-is s) (before-sorted (leaves d) (sorted d) m),
      rw (low-is s) (cut d).left,
      rw (c.split_at-2.ensures.front, n, low-is s) c.requires.1.stored.left.inside,
      rw (c.split_at-2.ensures.front, n) c.requires.1.stored.left.size,
      rw (low-is s) (omega (arith, room d, c.write32.auto.dst)),
    )

pub write_side-requires : goal.write_side-requires
write_side-requires c =
    let d = (goal.at.write_side-requires c).After-list_length in
    let s = (goal.at.write_side-requires c).After-split_at in
    let t = c.args.tree.now in
    let m = t.sides.split in
    let b = c.write_side-next.ensures.behind ∙ ap (λ S. c.args.at + 4 + length (tree_bytes c.args.epoch (build 256 S))) (low-is s) in
    let n : length c.split_at.result.1.now ≡ length (drop m (as_nodes t.leaves.now)) = sym (nodes-length c.split_at.result.1.now) ∙ ap length (high-is s) in (
      rw (high-is s) (behind-sorted (leaves d) (sorted d) m),
      rw (high-is s) (cut d).right,
      rw (c.split_at-2.ensures.back, n, high-is s) c.requires.1.stored.right.inside,
      rw (c.split_at-2.ensures.back, n) c.requires.1.stored.right.size,
      rw (high-is s) (omega (arith, room d, b, c.write_side-next.auto.out, c.write32.auto.dst)),
    )

pub returns : goal.returns
returns c =
    let d = (goal.at.returns c).After-list_length in
    let s = (goal.at.returns c).After-split_at in
    let e = c.args.epoch in
    let x = subst (λ S. Wrote c.write32.new.dst (c.args.at + 4) (tree_bytes e (build 256 S)) c.write_side-next.new.out c.write_side-next.result) (low-is s) c.write_side-next.ensures in
    let y = subst (λ S. Wrote c.write_side-next.new.out c.write_side-next.result (tree_bytes e (build 256 S)) c.write_side.new.out c.write_side.result) (high-is s) c.write_side.ensures in
    list_wrote c.args.out.now _ _ _ _ _ _ c.args.at _ _ c.list_length.result (omega (arith, room d)) c.write32.auto.dst c.write32.ensures x y (listed d)
