-- `write_path::write_root`: the root's step, and the way on the label's side behind it.
use native.Mathlib.Omega.{arith}
use mathlib.Core.Path.{◌≡◌, sym, ap, ◌∙◌, subst}
use mathlib.Core.Bool.{Bool, cond}
use mathlib.Core.List.{List, ◌++◌}
use lib.ListN.{length, take, drop}
use Rattle.paper.specs.Bits.{bits_of}
use Rattle.paper.specs.Strings.{Node}
use Rattle.paper.specs.Tree.{Tree, build, root}
use Rattle.paper.specs.Fields.{step_field}
use Rattle.leaf_row.specs.Row.{as_nodes}
use Rattle.leaf_row.proofs.Rows.{nodes-length, nodes-take, nodes-drop}
use Rattle.tree.proofs.Halves.{taken, build-taken, taken-sorted}
use Rattle.tree_path.specs.Measured.{way_bytes}
use Rattle.path_fields.specs.Written.{Wrote}
use Rattle.write_path.proofs.Laid.{step_room, way-room, way-wrote}
use Rattle.tree_path.proofs.Root as Root
use Rattle.tree_path.proofs.Root.{parts, reach, sibling-wide, side-taken}
use Rattle.write_path.proofs.write_root.Goals as goal
use Rattle.write_path.proofs.write_root.Goals.{After-label_bit-right, After-write_step-next, Joined-right-2, then-right, else-right, then-right-2, else-right-2}

abbrev leaves : After-label_bit-right → List Node
leaves c = as_nodes c.args.tree.now.leaves.now

abbrev low : After-label_bit-right → Tree
low c = build 256 (take c.args.tree.now.sides.split (leaves c))

abbrev high : After-label_bit-right → Tree
high c = build 256 (drop c.args.tree.now.sides.split (leaves c))

-- the root's step, by the bit
turned : (c : After-label_bit-right) → let t = c.args.tree.now in let b = c.label_bit-right.result in
    way_bytes (bits_of c.args.label.now) (root (leaves c)) ≡ step_field.bytes (record { length = 0; sibling = cond b t.sides.children.left t.sides.children.right }) ++ way_bytes (bits_of c.args.label.now) (cond b (high c) (low c))
turned c = let t = c.args.tree.now in Root.turned (leaves c) t.slots.now t.sides c.requires.0.sorted c.requires.0.stored (bits_of c.args.label.now) c.label_bit-right.result (sym c.label_bit-right.ensures)

pub write_step-next-requires : goal.write_step-next-requires
write_step-next-requires c =
    let d = (goal.at.write_step-next-requires c).After-label_bit-right in
    let t = c.args.tree.now in
    let b = c.label_bit-right.result in
    (omega (arith, c.requires.1, step_room (bits_of c.args.label.now) (root (leaves d)) (cond b (high d) (low d)) 0 (cond b t.sides.children.left t.sides.children.right) (turned d) (sibling-wide (leaves d) t.slots.now t.sides c.requires.0.sorted c.requires.0.stored b)), omega arith)

-- the step, as it was written
step : (c : After-write_step-next) → let t = c.args.tree.now in
    Wrote c.args.out.now c.args.at (step_field.bytes (record { length = 0; sibling = cond c.label_bit-right.result t.sides.children.left t.sides.children.right })) c.write_step-next.new.out c.write_step-next.result
step c = subst (λ y. Wrote c.args.out.now c.args.at (step_field.bytes (record { length = 0; sibling = y })) c.write_step-next.new.out c.write_step-next.result) c.sibling.ensures.value c.write_step-next.ensures

pub split_at-requires : goal.split_at-requires
split_at-requires c =
    let t = c.args.tree.now in
    omega (arith, (parts (as_nodes t.leaves.now) t.slots.now t.sides c.requires.0.sorted c.requires.0.stored).most, nodes-length t.leaves.now)

pub split_at-requires-2 : goal.split_at-requires-2
split_at-requires-2 c = let t = c.args.tree.now in reach (as_nodes t.leaves.now) t.slots.now t.sides c.requires.0.sorted c.requires.0.stored

side-is : (c : Joined-right-2) → let t = c.args.tree.now in as_nodes c.if-right.taken.now ≡ taken c.label_bit-right.result t.sides.split (as_nodes t.leaves.now)
side-is c =
    let t = c.args.tree.now in
    let at = λ (b : Bool). taken b t.sides.split (as_nodes t.leaves.now) in
    elim c.if-right.branch [
      | then-right w ↦ ap (λ r. as_nodes r.now) w.taken-is ∙ ap as_nodes c.split_at.ensures.back ∙ nodes-drop t.sides.split t.leaves.now ∙ ap at (sym w.if-right.true)
      | else-right w ↦ ap (λ r. as_nodes r.now) w.taken-is ∙ ap as_nodes c.split_at.ensures.front ∙ nodes-take t.sides.split t.leaves.now ∙ ap at (sym w.if-right.false)
    ]

inside-is : (c : Joined-right-2) → let t = c.args.tree.now in c.if-right-2.inside.now ≡ cond c.label_bit-right.result (drop t.sides.split t.slots.now) (take t.sides.split t.slots.now)
inside-is c =
    let t = c.args.tree.now in
    let at = λ (b : Bool). cond b (drop t.sides.split t.slots.now) (take t.sides.split t.slots.now) in
    elim c.if-right-2.branch [
      | then-right-2 w ↦ ap (λ r. r.now) w.inside-is ∙ c.split_at-2.ensures.back ∙ ap at (sym w.if-right-2.true)
      | else-right-2 w ↦ ap (λ r. r.now) w.inside-is ∙ c.split_at-2.ensures.front ∙ ap at (sym w.if-right-2.false)
    ]

pub write_side-requires : goal.write_side-requires
write_side-requires c =
    let d = (goal.at.write_side-requires c).After-label_bit-right in
    let j = (goal.at.write_side-requires c).Joined-right-2 in
    let t = c.args.tree.now in
    let b = c.label_bit-right.result in
    let S = as_nodes t.leaves.now in
    let w = taken-sorted S t.sides.split c.requires.0.sorted (parts S t.slots.now t.sides c.requires.0.sorted c.requires.0.stored) b in
    let side = side-taken S t.slots.now t.sides c.requires.0.sorted c.requires.0.stored b in
    let n : length c.if-right.taken.now ≡ length (taken b t.sides.split S) = sym (nodes-length c.if-right.taken.now) ∙ ap length (side-is j) in
    let e : build 256 (as_nodes c.if-right.taken.now) ≡ cond b (high d) (low d) = ap (build 256) (side-is j) ∙ build-taken b t.sides.split S in (
      rw (side-is j) w.0,
      rw (side-is j) w.1,
      rw (inside-is j, n, side-is j) side.inside,
      rw (inside-is j, n) side.size,
      rw e (omega (arith, c.write_step-next.auto.out, way-room (bits_of c.args.label.now) (root S) (cond b (high d) (low d)) 0 _ (turned d) c.args.out.now _ c.args.at _ c.requires.1 (step (goal.at.write_side-requires c).After-write_step-next))),
    )

pub returns : goal.returns
returns c =
    let d = (goal.at.returns c).After-label_bit-right in
    let t = c.args.tree.now in
    let b = c.label_bit-right.result in
    let S = as_nodes t.leaves.now in
    let e : build 256 (as_nodes c.if-right.taken.now) ≡ cond b (high d) (low d) = ap (build 256) (side-is (goal.at.returns c).Joined-right-2) ∙ build-taken b t.sides.split S in
    way-wrote (bits_of c.args.label.now) (root S) (cond b (high d) (low d)) 0 _ (turned d) c.args.out.now _ c.args.at _ c.requires.1 (step (goal.at.returns c).After-write_step-next) _ _
    (subst (λ u. Wrote c.write_step-next.new.out c.write_step-next.result (way_bytes (bits_of c.args.label.now) u) c.write_side.new.out c.write_side.result) e c.write_side.ensures)
