-- `paths::sizes::measure_in`: the label's way says both.
use mathlib.Core.Path.{◌≡◌, refl, sym, ap, ap₂, ◌∙◌}
use mathlib.Core.Bool.{Bool, true, false, not, ◌||◌}
use Prim.Native.Nat.{◌≤◌}
use lib.ListN.{length}
use Rattle.paper.specs.Bits.{bits_of}
use Rattle.paper.specs.Tree.{root}
use Rattle.paper.specs.Path.{way}
use Rattle.paper.specs.Fields.{path_field}
use Rattle.paper.specs.Table.{holds}
use Rattle.leaf_row.specs.Row.{as_nodes}
use Rattle.tree_path.proofs.There.{path-most}
use Rattle.paths.proofs.sizes.measure_in.Goals as goal
use Rattle.paths.proofs.sizes.measure_in.Goals.{After-are_leaves, After-path_length, else-not-there-via-then-not-there+else-is_there, else-not-there-via-else-not-there}

few : (c : After-are_leaves) → length (path_field.bytes (way (bits_of c.args.label.now) (root (as_nodes c.args.tree.now.leaves.now)))) ≤ 8805
few c = path-most (as_nodes c.args.tree.now.leaves.now) c.args.label.now (record { sized = c.are_leaves.ensures; rises = c.requires }) c.told-label

pub is_there-requires : goal.is_there-requires
is_there-requires c = c.requires

pub path_length-requires : goal.path_length-requires
path_length-requires c = c.requires

pub returns-then-is_there : goal.returns-then-is_there
returns-then-is_there c =
    record { measured = ap₂ (λ b h. b || not h) c.if-not-there.true (sym c.is_there.ensures ∙ c.if-is_there.true); most = few (goal.at.returns-then-is_there c).After-are_leaves }

or-true : (b : Bool) → (b || true) ≡ true
or-true true = refl
or-true false = refl

free : (c : After-path_length) → (c.args.there || not (holds (bits_of c.args.label.now) (as_nodes c.args.tree.now.leaves.now))) ≡ true
free c = elim c.else-not-there.branch [
  | else-not-there-via-then-not-there+else-is_there w ↦ ap (λ h. c.args.there || not h) (sym w.is_there.ensures ∙ w.if-is_there.false) ∙ or-true c.args.there
  | else-not-there-via-else-not-there w ↦ ap (λ b. b || not (holds (bits_of c.args.label.now) (as_nodes c.args.tree.now.leaves.now))) w.if-not-there.false
]

pub returns : goal.returns
returns c = record { measured = (free (goal.at.returns c).After-path_length, c.path_length.ensures); most = few (goal.at.returns c).After-are_leaves }
