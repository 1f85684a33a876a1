-- `level::root::root_of`: the tree over the leaves in order is the tree over them as they were.
use native.Mathlib.Omega.{arith}
use mathlib.Core.Path.{◌≡◌, sym, ap, ◌∙◌}
use mathlib.Core.Bool.{true}
use lib.ListN.{length, take}
use lib.Seq.{length-take-le}
use Rattle.paper.specs.Tree.{root_digest, digest, top}
use Rattle.paper.specs.Level.{rising}
use Rattle.leaf_row.specs.Row.{as_nodes}
use Rattle.tree.proofs.Slots.{kept-lent}
use Rattle.level.proofs.root.root_of.Goals as goal
use Rattle.level.proofs.root.root_of.Goals.{After-slots-slots, Else-not-arrange}

pub returns-then-not-arrange : goal.returns-then-not-arrange
returns-then-not-arrange c = sym c.arrange.ensures.clear ∙ c.if-not-arrange.true

ordered : (c : Else-not-arrange) → rising (as_nodes c.arrange.new.leaves) ≡ true
ordered c = c.arrange.ensures.order c.if-not-arrange.false

few : (c : After-slots-slots) → length (take (length c.arrange.new.leaves) c.slots-slots.result) ≡ length c.arrange.new.leaves
few c = length-take-le (length c.arrange.new.leaves) c.slots-slots.result (omega (arith, c.slots-slots.ensures, c.requires, c.arrange.auto.leaves))

pub slice_bounds-store-end : goal.slice_bounds-store-end
slice_bounds-store-end c = sym (few (goal.at.slice_bounds-store-end c).After-slots-slots)

pub store-requires : goal.store-requires
store-requires c = (ordered (goal.at.store-requires c).Else-not-arrange, few (goal.at.store-requires c).After-slots-slots)

pub returns : goal.returns
returns c =
    (sym c.arrange.ensures.clear ∙ c.if-not-arrange.false, c.root.ensures.kept (kept-lent _ c.store.ensures.tree) ∙ ap (λ s. root_digest (as_nodes s)) c.store.ensures.leaves ∙ ap (λ t. digest (top t)) (sym (c.arrange.ensures.tree c.if-not-arrange.false)))
