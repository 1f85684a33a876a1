-- `write_path::write_path`: the count, and what stands behind it.
use native.Mathlib.Omega.{arith}
use mathlib.Core.Path.{ap}
use Prim.Native.Nat.{◌≤◌}
use Rattle.paper.specs.Bits.{Bits, bits_of}
use Rattle.paper.specs.Tree.{Tree, root}
use Rattle.paper.proofs.Fits.{path-fits}
use Rattle.leaf_row.specs.Row.{as_nodes}
use Rattle.tree.specs.Stored.{Sorted}
use Rattle.tree_path.proofs.There.{way-in-layout}
use Rattle.write_path.proofs.Laid.{path-long, path-wrote}
use Rattle.write_path.proofs.write_path.Goals as goal
use Rattle.write_path.proofs.write_path.Goals.{After-way_of-way}

abbrev label : After-way_of-way → Bits
label c = bits_of c.args.label.now

abbrev whole : After-way_of-way → Tree
whole c = root (as_nodes c.args.tree.now.leaves.now)

pub way_of-way-requires : goal.way_of-way-requires
way_of-way-requires c = c.requires.0.rises

sorted : (c : After-way_of-way) → Sorted (as_nodes c.args.tree.now.leaves.now)
sorted c = record { sized = c.are_leaves.ensures; rises = c.requires.0.rises }

few : (c : After-way_of-way) → c.way_of-way.result.steps ≤ 256
few c =
    let t = c.args.tree.now in
    omega (arith, ap (λ v. v.steps) c.way_of-way.ensures, (path-fits _ (way-in-layout (as_nodes t.leaves.now) c.args.label.now (sorted c) c.told-label)).most)

pub overflow_cast-way : goal.overflow_cast-way
overflow_cast-way c = omega (arith, few (goal.at.overflow_cast-way c).After-way_of-way)

pub write16-requires : goal.write16-requires
write16-requires c = let d = (goal.at.write16-requires c).After-way_of-way in omega (arith, c.requires.1, path-long (label d) (whole d))

pub write_root-requires : goal.write_root-requires
write_root-requires c =
    let d = (goal.at.write_root-requires c).After-way_of-way in
    (record { sorted = sorted d; stored = c.requires.0.stored }, omega (arith, c.requires.1, c.write16.auto.dst, path-long (label d) (whole d)))

pub returns : goal.returns
returns c =
    let d = (goal.at.returns c).After-way_of-way in
    path-wrote (label d) (whole d) c.args.out.now _ _ c.args.at _ c.way_of-way.result.steps (omega (arith, c.requires.1)) (ap (λ v. v.steps) c.way_of-way.ensures) c.write16.ensures c.write_root.ensures
