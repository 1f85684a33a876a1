-- `lay_audit::lay::lay_new`: the new head and both lists, one behind the other.
use native.Mathlib.Omega.{arith}
use mathlib.Core.Path.{◌∙◌}
use mathlib.Core.List.{List}
use Prim.Native.Nat.{◌+◌, ◌≤◌}
use lib.ListN.{length}
use Rattle.paper.specs.Strings.{Node}
use Rattle.paper.specs.Tree.{root}
use Rattle.paper.specs.Audit.{list_field}
use Rattle.paper.specs.Write.{below_root}
use Rattle.leaf_row.specs.Row.{as_nodes}
use Rattle.lay_audit.proofs.Bytes.{new-size, new-laid, head-found}
use Rattle.lay_audit.proofs.lay.lay_new.Goals as goal
use Rattle.lay_audit.proofs.lay.lay_new.Goals.{Start}

abbrev first-leaves : Start → List Node
first-leaves c = as_nodes c.args.all.now.leaves.now

abbrev second-leaves : Start → List Node
second-leaves c = as_nodes c.args.old.now.leaves.now

-- all of it has room
room : (c : Start)
    → 206 + length (list_field.bytes (below_root c.args.epoch (root (first-leaves c)))) + length (list_field.bytes (below_root c.args.epoch (root (second-leaves c)))) ≤ length c.args.out.now
room c = omega (arith, new-size c.args.heads.now c.args.epoch (first-leaves c) (second-leaves c) c.requires.0, c.requires.3)

pub write_head-requires : goal.write_head-requires
write_head-requires c = (c.requires.0.reach, omega (arith, room (goal.at.write_head-requires c).Start))

pub write_list-next-requires : goal.write_list-next-requires
write_list-next-requires c =
    let k = c.requires.1 in
    (k.few, k.tree, omega (arith, room (goal.at.write_list-next-requires c).Start, c.write_head.auto.out))

pub write_list-requires : goal.write_list-requires
write_list-requires c =
    let k = c.requires.2 in
    (k.few, k.tree, omega (arith, room (goal.at.write_list-requires c).Start, c.write_head.auto.out, c.write_list-next.auto.out, c.write_list-next.ensures.behind))

pub shape_of-out : goal.shape_of-out
shape_of-out c =
    omega (arith, c.write_head.auto.out, c.write_list-next.auto.out, c.write_list.auto.out)

pub returns : goal.returns
returns c =
    let a = c.args in
    new-laid a.heads.now a.epoch (first-leaves (goal.at.returns c).Start) (second-leaves (goal.at.returns c).Start) c.requires.0 a.out.now c.write_head.new.out c.write_list-next.new.out _ c.write_list-next.result c.write_list.result (omega (arith, room (goal.at.returns c).Start))
    (c.write_head.ensures ∙ head-found a.heads.now a.epoch a.out.now 106 (c.root.ensures.kept c.requires.1.tree) (c.root-2.ensures.kept c.requires.2.tree)) c.write_list-next.ensures c.write_list.ensures
