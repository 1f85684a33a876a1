-- `new_epoch::heading::head_of`: both trees, and the head over them.
use native.Mathlib.Numerals.{add-one}
use mathlib.Core.Path.{◌≡◌, ◌∙◌}
use mathlib.Core.Bool.{true}
use mathlib.Core.List.{List, ◌++◌}
use Prim.Native.Nat.{suc}
use Rattle.paper.specs.Labelling.{plain}
use Rattle.paper.specs.Tree.{root_digest}
use Rattle.paper.specs.Table.{Record, all_at, old_at, distinct, head_at}
use Rattle.paper.proofs.Lists.{and_both}
use Rattle.record.specs.Places.{records_in}
use Rattle.new_epoch.proofs.heading.head_of.Goals as goal
use Rattle.new_epoch.proofs.heading.head_of.Goals.{In-Some-plant}

-- the records of the new epoch
abbrev records_here : In-Some-plant → List Record
records_here c = let a = c.args in records_in a.count a.records.now ++ records_in a.n a.fresh.now

-- tree *all*, and tree *old*
whole : (c : In-Some-plant) → let S = all_at plain (suc c.args.epoch) (records_here c) in (distinct S ≡ true) × (c.in-Some.all ≡ root_digest S)
whole c = rw (add-one c.args.epoch) at c.in-Some.ensures

replaced : (c : In-Some-plant) → let S = old_at plain (suc c.args.epoch) (records_here c) in (distinct S ≡ true) × (c.in-Some-plant.old ≡ root_digest S)
replaced c = rw (add-one c.args.epoch) at c.in-Some-plant.ensures

pub returns : goal.returns
unfolding head_at
returns c =
    let x = whole (goal.at.returns c).In-Some-plant in
    let y = replaced (goal.at.returns c).In-Some-plant in
    (and_both x.0 y.0, c.head.ensures ∙ rw (c.digest_at-previous.ensures, x.1, y.1, add-one c.args.epoch))
