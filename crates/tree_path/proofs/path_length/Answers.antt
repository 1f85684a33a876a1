-- `tree_path::path_length`: a step has 34 bytes, and an end as many as its kind says.
use native.Mathlib.Omega.{arith}
use mathlib.Core.Path.{sym, ap, ◌∙◌}
use Prim.Native.Nat.{◌+◌, ◌*◌, ◌≤◌}
use Rattle.paper.specs.Bits.{bits_of}
use Rattle.paper.specs.Tree.{root}
use Rattle.paper.specs.Path.{way}
use Rattle.paper.specs.Fields.{path_field}
use Rattle.paper.proofs.Fits.{path-fits}
use Rattle.leaf_row.specs.Row.{as_nodes}
use Rattle.tree_path.specs.Measured.{end_size}
use Rattle.tree_path.proofs.Ends.{size-most, path-size}
use Rattle.tree_path.proofs.There.{way-in-layout}
use Rattle.tree_path.proofs.path_length.Goals as goal
use Rattle.tree_path.proofs.path_length.Goals.{After-way_of-way}

fits : (c : After-way_of-way) → path_field.Fits (way (bits_of c.args.label.now) (root (as_nodes c.args.leaves.now)))
fits c = way-in-layout (as_nodes c.args.leaves.now) c.args.label.now (record { sized = c.are_leaves.ensures; rises = c.requires }) c.told-label

few : (c : After-way_of-way) → c.way_of-way.result.steps ≤ 256
few c = omega (arith, ap (λ v. v.steps) c.way_of-way.ensures, (path-fits _ (fits c)).most)

pub overflow_mul-result : goal.overflow_mul-result
overflow_mul-result c = omega (arith, few (goal.at.overflow_mul-result c).After-way_of-way)

pub overflow_add-result : goal.overflow_add-result
overflow_add-result c = omega (arith, few (goal.at.overflow_add-result c).After-way_of-way)

pub overflow_add-result-2 : goal.overflow_add-result-2
overflow_add-result-2 c = omega (arith, few (goal.at.overflow_add-result-2 c).After-way_of-way, c.size.ensures, size-most c.way_of-way.result.kind)

pub returns : goal.returns
returns c =
    let e = c.way_of-way.ensures in
    ap (λ x. 3 + c.way_of-way.result.steps * 34 + x) c.size.ensures ∙ (λ i. 3 + (e i).steps * 34 + end_size (e i).kind)
    ∙ sym (path-size (bits_of c.args.label.now) (root (as_nodes c.args.leaves.now)) (fits (goal.at.returns c).After-way_of-way))
