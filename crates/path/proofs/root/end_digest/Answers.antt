-- `path::root::end_digest`: each kind's digest is that of the end at its place.
use borrow.Author.Rules.{rules}
use native.Mathlib.Omega.{arith}
use mathlib.Core.Path.{◌∙◌}
use Rattle.paper.specs.Bytes.{Bytewise}
use Rattle.paper.proofs.Fits.{Wide}
use Rattle.ranges.proofs.Slices.{bytewise}
use Rattle.path.proofs.Climb.{this-digest, other-digest, off-digest}
use Rattle.path.proofs.root.end_digest.Goals as goal
use Rattle.path.proofs.root.end_digest.Goals.{After-shared_slice_known-1, Start}

pub leaf_at-requires : goal.leaf_at-requires
leaf_at-requires c =
    let h = rw c.in-This.is at c.requires in
    omega arith

pub other_leaf_at-requires : goal.other_leaf_at-requires
other_leaf_at-requires c =
    let h = rw c.in-Other.is at c.requires in
    omega arith

pub inner_at-requires : goal.inner_at-requires
inner_at-requires c =
    let h = rw c.in-Off.is at c.requires in
    h.0

label_is : (c : Start) → Wide c.args.label
label_is c = record { size = search rules; bytes = bytewise c.args.label (λ i. search rules) }

bytes : (c : After-shared_slice_known-1) → Bytewise c.args.s.now
bytes c = bytewise c.args.s.now c.type_inv.s

pub returns-in-This : goal.returns-in-This
returns-in-This c =
    let e = c.in-This.is in
    let h = rw e at c.requires in
    c.leaf_at.ensures ∙ rw e (this-digest c.args.label c.args.s.now (label_is (goal.at.returns-in-This c).Start) (bytes (goal.at.returns-in-This c).After-shared_slice_known-1) _ _ h)

pub returns-in-Other : goal.returns-in-Other
returns-in-Other c =
    let e = c.in-Other.is in
    let h = rw e at c.requires in
    c.other_leaf_at.ensures ∙ rw e (other-digest c.args.label c.args.s.now (label_is (goal.at.returns-in-Other c).Start) (bytes (goal.at.returns-in-Other c).After-shared_slice_known-1) _ _ h)

pub returns-in-Off : goal.returns-in-Off
returns-in-Off c =
    let e = c.in-Off.is in
    let h = rw e at c.requires in
    c.inner_at.ensures ∙ rw e (off-digest c.args.label c.args.s.now (label_is (goal.at.returns-in-Off c).Start) (bytes (goal.at.returns-in-Off c).After-shared_slice_known-1) _ h)

pub returns-in-Nothing : goal.returns-in-Nothing
returns-in-Nothing c = c.nothing.ensures ∙ rw c.in-Nothing.is
