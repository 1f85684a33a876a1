-- `tree_path::way_of`: the root has no bits, so the label goes down on the side of its first bit.
use native.Mathlib.Omega.{arith}
use mathlib.Core.Path.{◌≡◌, refl, sym, ap, ◌∙◌}
use mathlib.Core.List.{List}
use Rattle.paper.specs.Bits.{bits_of}
use Rattle.paper.specs.Strings.{Node}
use Rattle.paper.specs.Tree.{build}
use Rattle.paper.proofs.Bytes.{bits_of-length}
use Rattle.leaf_row.specs.Row.{as_nodes}
use Rattle.leaf_row.proofs.Rows.{nodes-length, nodes-take, nodes-drop}
use Rattle.tree.specs.Stored.{Sorted}
use Rattle.tree.proofs.Step.{root-range}
use Rattle.tree.proofs.Halves.{RootHalves, root-halves, taken, build-taken, taken-sorted}
use Rattle.tree_path.specs.Measured.{way_of}
use Rattle.tree_path.proofs.Ways.{turn-way, starts_none, steps-few}
use Rattle.tree_path.proofs.way_of.Goals as goal
use Rattle.tree_path.proofs.way_of.Goals.{After-split, Joined-label_bit, then-label_bit, else-label_bit}

abbrev leaves : After-split → List Node
leaves c = as_nodes c.args.leaves.now

sorted : (c : After-split) → Sorted (leaves c)
sorted c = record { sized = c.are_leaves.ensures; rises = c.requires }

cut : (c : After-split) → RootHalves (leaves c) c.split.result
cut c = root-halves (leaves c) c.split.result (sorted c) c.split.ensures

pub split-requires : goal.split-requires
split-requires c = (c.requires, root-range _)

pub split_at-requires : goal.split_at-requires
split_at-requires c = omega (arith, (cut c).most, nodes-length c.args.leaves.now)

side-is : (c : Joined-label_bit) → as_nodes c.if-label_bit.taken.now ≡ taken c.label_bit.result c.split.result (as_nodes c.args.leaves.now)
side-is c = elim c.if-label_bit.branch [
  | then-label_bit w ↦ ap (λ r. as_nodes r.now) w.taken-is ∙ ap as_nodes c.split_at.ensures.back ∙ nodes-drop c.split.result c.args.leaves.now ∙ ap (λ b. taken b c.split.result (as_nodes c.args.leaves.now)) (sym w.if-label_bit.true)
  | else-label_bit w ↦ ap (λ r. as_nodes r.now) w.taken-is ∙ ap as_nodes c.split_at.ensures.front ∙ nodes-take c.split.result c.args.leaves.now ∙ ap (λ b. taken b c.split.result (as_nodes c.args.leaves.now)) (sym w.if-label_bit.false)
]

pub way_side-requires : goal.way_side-requires
way_side-requires c =
    let d = (goal.at.way_side-requires c).After-split in
    rw (side-is (goal.at.way_side-requires c).Joined-label_bit) (taken-sorted (leaves d) c.split.result (sorted d) (cut d) c.label_bit.result)

pub stepped-requires : goal.stepped-requires
stepped-requires c =
    let d = (goal.at.stepped-requires c).After-split in
    let T = taken c.label_bit.result c.split.result (leaves d) in
    let w = taken-sorted (leaves d) c.split.result (sorted d) (cut d) c.label_bit.result in
    let e = c.way_side.ensures ∙ ap (λ S. way_of (bits_of c.args.label.now) (build 256 S)) (side-is (goal.at.stepped-requires c).Joined-label_bit) in
    omega (arith, ap (λ v. v.steps) e, steps-few 1 T (bits_of c.args.label.now) w.0 w.1 (omega arith) (omega (arith, bits_of-length c.args.label.now, c.told-label)))

pub returns : goal.returns
returns c =
    let d = (goal.at.returns c).After-split in
    let b = c.label_bit.result in
    let L = bits_of c.args.label.now in
    let e = c.way_side.ensures ∙ ap (λ S. way_of L (build 256 S)) (side-is (goal.at.returns c).Joined-label_bit) ∙ ap (way_of L) (build-taken b c.split.result (leaves d)) in
    c.stepped.ensures ∙ turn-way L _ _ _ _ (cut d).tree 0 refl (starts_none L) b (sym c.label_bit.ensures) c.way_side.result e
