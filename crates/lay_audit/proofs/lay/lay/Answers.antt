-- `lay_audit::lay::lay`: the new head and the lists, the roots that the lists had, and before them header and old head.
use native.Mathlib.Omega.{arith}
use mathlib.Core.Path.{◌∙◌}
use mathlib.Core.List.{List}
use Prim.Native.Nat.{◌+◌, ◌≤◌}
use lib.ListN.{length}
use Rattle.paper.specs.Strings.{Node}
use Rattle.paper.specs.Tree.{root}
use Rattle.paper.specs.Write.{below_root}
use Rattle.leaf_row.specs.Row.{as_nodes}
use Rattle.paper.proofs.Honest.{LeafSet}
use Rattle.ranges.proofs.Slices.{bytewise}
use Rattle.tree_path.proofs.There.{leaf-set}
use Rattle.audit_form.proofs.Form.{ListStands}
use Rattle.lay_audit.specs.Audited.{new_with}
use Rattle.lay_audit.proofs.Bytes.{with_size, laid-all, all-stands, old-stands, stands-order, stands-root, lent-few, head-found}
use Rattle.lay_audit.proofs.lay.lay.Goals as goal
use Rattle.lay_audit.proofs.lay.lay.Goals.{After-lay_new-next, After-slice_known-2-1, Start}

abbrev first-leaves : Start → List Node
first-leaves c = as_nodes c.args.all.now.leaves.now

abbrev second-leaves : Start → List Node
second-leaves c = as_nodes c.args.old.now.leaves.now

-- all of it has room
room : (c : Start) → 106 + length (new_with c.args.heads.now c.args.epoch (first-leaves c) (second-leaves c)) ≤ length c.args.out.now
room c = omega (arith, with_size c.args.heads.now c.args.epoch (first-leaves c) (second-leaves c) c.requires.0, c.requires.3)

pub lay_new-next-requires : goal.lay_new-next-requires
lay_new-next-requires c = (c.requires.0, c.requires.1, c.requires.2, room (goal.at.lay_new-next-requires c).Start)

-- the leaves of either tree are a set
first-set : (c : After-lay_new-next) → LeafSet (first-leaves (goal.at.After-lay_new-next c).Start)
first-set c =
    leaf-set _ (record { sized = c.are_leaves.ensures; rises = c.requires.1.tree.rises })

second-set : (c : After-lay_new-next) → LeafSet (second-leaves (goal.at.After-lay_new-next c).Start)
second-set c =
    leaf-set _ (record { sized = c.are_leaves-2.ensures; rises = c.requires.2.tree.rises })

-- both lists stand in what was laid
first-list : (c : After-slice_known-2-1) → ListStands c.lay_new-next.new.out 206 (below_root c.args.epoch (root (first-leaves (goal.at.After-slice_known-2-1 c).Start)))
first-list c =
    let a = c.args in
    all-stands a.heads.now a.epoch (first-leaves (goal.at.After-slice_known-2-1 c).Start) (second-leaves (goal.at.After-slice_known-2-1 c).Start) c.requires.0 a.out.now c.lay_new-next.new.out c.lay_new-next.result (room (goal.at.After-slice_known-2-1 c).Start) c.lay_new-next.ensures (bytewise c.lay_new-next.new.out c.slice_known-2-1.given) (first-set (goal.at.After-slice_known-2-1 c).After-lay_new-next)
    (lent-few a.epoch a.all.now c.are_leaves.ensures c.requires.1)

second-list : (c : After-slice_known-2-1) → ListStands c.lay_new-next.new.out c.lay_new-next.result (below_root c.args.epoch (root (second-leaves (goal.at.After-slice_known-2-1 c).Start)))
second-list c =
    let a = c.args in
    old-stands a.heads.now a.epoch (first-leaves (goal.at.After-slice_known-2-1 c).Start) (second-leaves (goal.at.After-slice_known-2-1 c).Start) c.requires.0 a.out.now c.lay_new-next.new.out c.lay_new-next.result (room (goal.at.After-slice_known-2-1 c).Start) c.lay_new-next.ensures (bytewise c.lay_new-next.new.out c.slice_known-2-1.given) (second-set (goal.at.After-slice_known-2-1 c).After-lay_new-next)
    (lent-few a.epoch a.old.now c.are_leaves-2.ensures c.requires.2)

pub root_before-all_before-requires : goal.root_before-all_before-requires
root_before-all_before-requires c =
    ((first-list (goal.at.root_before-all_before-requires c).After-slice_known-2-1).listed, stands-order _ 206 c.args.epoch (first-leaves (goal.at.root_before-all_before-requires c).Start) (first-set (goal.at.root_before-all_before-requires c).After-lay_new-next) (first-list (goal.at.root_before-all_before-requires c).After-slice_known-2-1))

pub root_before-old_before-requires : goal.root_before-old_before-requires
root_before-old_before-requires c =
    ((second-list (goal.at.root_before-old_before-requires c).After-slice_known-2-1).listed, stands-order _ c.lay_new-next.result c.args.epoch (second-leaves (goal.at.root_before-old_before-requires c).Start) (second-set (goal.at.root_before-old_before-requires c).After-lay_new-next) (second-list (goal.at.root_before-old_before-requires c).After-slice_known-2-1))

pub put-requires : goal.put-requires
put-requires c = omega (arith, room (goal.at.put-requires c).Start, c.lay_new-next.auto.out)

pub write_head-requires : goal.write_head-requires
write_head-requires c =
    (omega (arith, c.requires.0.reach), omega (arith, room (goal.at.write_head-requires c).Start, c.lay_new-next.auto.out, c.put.auto.dst))

pub shape_of-out : goal.shape_of-out
shape_of-out c =
    omega (arith, c.lay_new-next.auto.out, c.put.auto.dst, c.write_head.auto.out)

pub returns : goal.returns
returns c =
    let a = c.args in
    let first = c.root_before-all_before.ensures ∙ stands-root _ 206 a.epoch (first-leaves (goal.at.returns c).Start) (first-set (goal.at.returns c).After-lay_new-next) (first-list (goal.at.returns c).After-slice_known-2-1) in
    let second = c.root_before-old_before.ensures ∙ stands-root _ c.lay_new-next.result a.epoch (second-leaves (goal.at.returns c).Start) (second-set (goal.at.returns c).After-lay_new-next) (second-list (goal.at.returns c).After-slice_known-2-1) in
    laid-all a.heads.now a.epoch (first-leaves (goal.at.returns c).Start) (second-leaves (goal.at.returns c).Start) c.requires.0 a.out.now _ c.put.new.dst _ c.lay_new-next.result c.requires.3 c.lay_new-next.ensures c.put.ensures
    (c.write_head.ensures ∙ head-found a.heads.now _ c.put.new.dst 6 first second)
