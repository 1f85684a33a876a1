-- `publish::testing::refusal`: the tests of both tables, and then those of the batch.
use mathlib.Core.Path.{sym, ◌∙◌, subst}
use Rattle.ranges.proofs.Slices.{bytewise}
use Rattle.table.proofs.Shapes.{shaped-told}
use Rattle.table.specs.Index.{Indexed}
use Rattle.table.specs.Shape.{shaped, Found, Shaped}
use Rattle.table.proofs.Walk.{of-index}
use Rattle.publish.specs.Weighed.{Good}
use Rattle.publish.proofs.Weighing.{input-refuses, good, records-few, table-refuses}
use Rattle.publish.proofs.testing.refusal.Goals as goal
use Rattle.publish.proofs.testing.refusal.Goals.{Else-not-input_good, In-Some}

pub returns-then-not-input_good : goal.returns-then-not-input_good
returns-then-not-input_good c =
    let e = sym c.input_good.ensures ∙ c.if-not-input_good.true in
    input-refuses c.args.records.now c.args.heads.now c.args.state.count c.args.state.epoch c.args.batch.now e

-- "1" passes
begun : (c : Else-not-input_good) → let a = c.args in Good a.records.now a.heads.now a.batch.now
begun c =
    good c.args.records.now c.args.heads.now c.args.state.count c.args.state.epoch c.args.batch.now (bytewise c.args.batch.now c.type_inv.batch) (sym c.input_good.ensures ∙ c.if-not-input_good.false)

pub in_shape-requires : goal.in_shape-requires
in_shape-requires c = records-few c.args.records.now c.args.heads.now c.args.state.count c.args.state.epoch c.args.batch.now (begun (goal.at.in_shape-requires c).Else-not-input_good)

pub returns-in_default : goal.returns-in_default
returns-in_default c =
    table-refuses c.args.records.now c.args.heads.now c.args.state.count c.args.state.epoch c.args.batch.now (begun (goal.at.returns-in_default c).Else-not-input_good) c.in_default.ensures

-- the index is of the table
found : (c : In-Some) → Found c.args.records.now c.args.state.count (shaped c.args.records.now c.args.heads.now c.args.state.count c.args.state.epoch) c.in-Some.index
found c = c.in-Some.ensures

pub lay_out-requires : goal.lay_out-requires
lay_out-requires c =
    let f = found (goal.at.lay_out-requires c).In-Some in
    let shape = shaped-told c.args.records.now c.args.heads.now c.args.state.count c.args.state.epoch (bytewise c.args.records.now c.type_inv.records) f.is in
    let x = c.in-Some.index in (
      subst (λ s. Good s c.args.heads.now c.args.batch.now) (sym f.records) (begun (goal.at.lay_out-requires c).Else-not-input_good),
      subst (λ s. Shaped s c.args.heads.now c.args.state.count c.args.state.epoch) (sym f.records) shape,
      of-index x f.records f.count (λ s n. Indexed s n x) f.index,
      f.count,
      c.requires,
    )
