-- `level::path::path_over`: the tests in their order; the tree over the leaves in order is the tree over them as they were.
use native.Mathlib.Omega.{arith}
use mathlib.Core.Path.{◌≡◌, sym, ap, ap₂, ◌∙◌}
use mathlib.Core.Bool.{true, false, ◌&&◌, and-false}
use lib.ListN.{length, take}
use lib.Seq.{length-take-le}
use Rattle.std.proofs.Common.{Ok}
use Rattle.paper.specs.Bytes.{pasted}
use Rattle.paper.specs.Bits.{bits_of}
use Rattle.paper.specs.Tree.{root}
use Rattle.paper.specs.Path.{way}
use Rattle.paper.specs.Fields.{path_field}
use Rattle.paper.specs.Table.{holds, distinct}
use Rattle.paper.specs.Level.{rising}
use Rattle.leaf_row.specs.Row.{as_nodes}
use Rattle.tree.proofs.Slots.{kept-lent}
use Rattle.level.proofs.Over.{over-clash, over-there, over-full, over-written}
use Rattle.level.proofs.path.path_over.Goals as goal
use Rattle.level.proofs.path.path_over.Goals.{else-absent-via-then-absent+else-is_there, else-absent-via-else-absent, After-path_length-length, After-slots-slots, Else-not-arrange}

pub returns-then-not-arrange : goal.returns-then-not-arrange
returns-then-not-arrange c =
    sym (over-clash (as_nodes c.args.leaves.now) (bits_of c.args.label.now) c.args.absent c.args.out.now (sym c.arrange.ensures.clear ∙ c.if-not-arrange.true))

-- no label is there twice
apart : (c : Else-not-arrange) → distinct (as_nodes c.args.leaves.now) ≡ true
apart c = sym c.arrange.ensures.clear ∙ c.if-not-arrange.false

ordered : (c : Else-not-arrange) → rising (as_nodes c.arrange.new.leaves) ≡ true
ordered c = c.arrange.ensures.order c.if-not-arrange.false

pub is_there-requires : goal.is_there-requires
is_there-requires c = ordered (goal.at.is_there-requires c).Else-not-arrange

-- the labels as they were
same-labels : (c : Else-not-arrange) → holds (bits_of c.args.label.now) (as_nodes c.arrange.new.leaves) ≡ holds (bits_of c.args.label.now) (as_nodes c.args.leaves.now)
same-labels c = sym (c.arrange.ensures.labels (bits_of c.args.label.now))

pub returns-then-is_there : goal.returns-then-is_there
returns-then-is_there c =
    let a = c.args in
    let there = sym (same-labels (goal.at.returns-then-is_there c).Else-not-arrange) ∙ sym c.is_there.ensures ∙ c.if-is_there.true in
    sym (over-there (as_nodes a.leaves.now) (bits_of a.label.now) a.absent a.out.now (apart (goal.at.returns-then-is_there c).Else-not-arrange) (ap₂ ◌&&◌ c.if-absent.true there))

pub path_length-length-requires : goal.path_length-length-requires
path_length-length-requires c = ordered (goal.at.path_length-length-requires c).Else-not-arrange

-- the path, over the leaves as they were
same-path : (c : Else-not-arrange) → let L = bits_of c.args.label.now in
    path_field.bytes (way L (root (as_nodes c.arrange.new.leaves))) ≡ path_field.bytes (way L (root (as_nodes c.args.leaves.now)))
same-path c = ap (λ t. path_field.bytes (way (bits_of c.args.label.now) t)) (sym (c.arrange.ensures.tree c.if-not-arrange.false))

size_is : (c : After-path_length-length) → c.path_length-length.result ≡ length (path_field.bytes (way (bits_of c.args.label.now) (root (as_nodes c.args.leaves.now))))
size_is c = c.path_length-length.ensures ∙ ap length (same-path (goal.at.After-path_length-length c).Else-not-arrange)

free : (c : After-path_length-length) → (c.args.absent && holds (bits_of c.args.label.now) (as_nodes c.args.leaves.now)) ≡ false
free c = elim c.else-absent.branch [
  | else-absent-via-then-absent+else-is_there w ↦ ap (λ b. c.args.absent && b) (sym (same-labels (goal.at.After-path_length-length c).Else-not-arrange) ∙ sym w.is_there.ensures ∙ w.if-is_there.false) ∙ and-false c.args.absent
  | else-absent-via-else-absent w ↦ ap (λ b. b && holds (bits_of c.args.label.now) (as_nodes c.args.leaves.now)) w.if-absent.false
]

pub returns-then-out-length : goal.returns-then-out-length
returns-then-out-length c =
    let a = c.args in
    let p = (goal.at.returns-then-out-length c).After-path_length-length in
    sym (over-full (as_nodes a.leaves.now) (bits_of a.label.now) a.absent a.out.now (apart (goal.at.returns-then-out-length c).Else-not-arrange) (free p) (omega (arith, size_is p, c.if-out-length.true)))

few : (c : After-slots-slots) → length (take (length c.arrange.new.leaves) c.slots-slots.result) ≡ length c.arrange.new.leaves
few c = length-take-le (length c.arrange.new.leaves) c.slots-slots.result (omega (arith, c.slots-slots.ensures, c.requires, c.arrange.auto.leaves))

pub slice_bounds-store-end : goal.slice_bounds-store-end
slice_bounds-store-end c = sym (few (goal.at.slice_bounds-store-end c).After-slots-slots)

pub store-tree-requires : goal.store-tree-requires
store-tree-requires c = (ordered (goal.at.store-tree-requires c).Else-not-arrange, few (goal.at.store-tree-requires c).After-slots-slots)

pub write_path-requires : goal.write_path-requires
write_path-requires c = (kept-lent _ c.store-tree.ensures.tree, rw c.store-tree.ensures.leaves (omega (arith, c.path_length-length.ensures, c.if-out-length.false)))

pub returns : goal.returns
returns c =
    let a = c.args in
    let p = (goal.at.returns c).After-path_length-length in
    let h = c.if-out-length.false in
    let out = (rw c.store-tree.ensures.leaves at c.write_path.ensures.laid) ∙ ap (pasted a.out.now 0) (same-path (goal.at.returns c).Else-not-arrange) in
    sym (over-written (as_nodes a.leaves.now) (bits_of a.label.now) a.absent a.out.now (apart (goal.at.returns c).Else-not-arrange) (free p) (omega (arith, size_is p, h)) ∙ ap₂ (λ n o. record { answer = Ok n; out = o }) (sym (size_is p)) (sym out))
