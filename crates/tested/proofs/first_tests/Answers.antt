-- `tested::first_tests`: the tests in their order.
use borrow.Author.Tests.{le-leb, lt-leb}
use native.Mathlib.Omega.{arith}
use mathlib.Core.Path.{◌≡◌, sym, ap, ◌∙◌}
use mathlib.Core.Bool.{true}
use Rattle.std.specs.Prelude.{Result, Ok, Err}
use Rattle.paper.specs.Numbers.{INPUT, TABLE, EPOCH}
use Rattle.paper.specs.declared.Refusal.{Refusal}
use Rattle.paper.specs.Verdict.{verdict}
use Rattle.ranges.proofs.Slices.{bytewise}
use Rattle.std.specs.Prelude.{not}
use Rattle.table.specs.Shape.{shaped}
use Rattle.table.proofs.Shapes.{found-is}
use Rattle.tested.specs.Tested.{input_good, first_refusal, Tested}
use Rattle.tested.proofs.First.{records-few, tested}
use Rattle.tested.proofs.first_tests.Goals as goal
use Rattle.tested.proofs.first_tests.Goals.{After-input_good, After-is_none, Else-is_none, Else-not-input_good}

-- a result that the tests give meets the contract
gives : (c : After-input_good) (n : Result (Unit {0}) Refusal) → let a = c.args in n ≡ first_refusal a.records.now a.heads.now a.state a.epoch a.good → Tested a.records.now a.heads.now a.state a.epoch a.good n
gives c n e = let a = c.args in tested a.records.now a.heads.now a.state a.epoch a.good (bytewise a.records.now c.type_inv.records) n e

pub returns-then-not-input_good : goal.returns-then-not-input_good
unfolding verdict
returns-then-not-input_good c = gives (goal.at.returns-then-not-input_good c).After-input_good (Err INPUT) (sym (rw (sym c.input_good.ensures ∙ c.if-not-input_good.true)))

-- "1" passes
good : (c : Else-not-input_good) → let a = c.args in input_good a.records.now a.heads.now a.good ≡ true
good c = sym c.input_good.ensures ∙ c.if-not-input_good.false

pub in_shape-requires : goal.in_shape-requires
in_shape-requires c =
    let a = c.args in
    records-few a.records.now a.heads.now a.good (good (goal.at.in_shape-requires c).Else-not-input_good)

-- whether there is an index
found : (c : After-is_none) → let a = c.args in shaped a.records.now a.heads.now a.state.count a.state.epoch ≡ not c.is_none.result
found c =
    let a = c.args in
    found-is a.records.now a.heads.now a.state.count a.state.epoch _ c.in_shape.ensures ∙ c.is_none.ensures

pub returns-then-is_none : goal.returns-then-is_none
unfolding verdict
returns-then-is_none c =
    gives (goal.at.returns-then-is_none c).After-input_good (Err TABLE) (sym (rw (good (goal.at.returns-then-is_none c).Else-not-input_good, found (goal.at.returns-then-is_none c).After-is_none ∙ ap not c.if-is_none.true)))

-- "11" passes
shape : (c : Else-is_none) → let a = c.args in shaped a.records.now a.heads.now a.state.count a.state.epoch ≡ true
shape c = found (goal.at.Else-is_none c).After-is_none ∙ ap not c.if-is_none.false

pub returns-then-state-epoch : goal.returns-then-state-epoch
unfolding verdict
returns-then-state-epoch c =
    let a = c.args in
    gives (goal.at.returns-then-state-epoch c).After-input_good (Err EPOCH) (sym (rw (good (goal.at.returns-then-state-epoch c).Else-not-input_good, shape (goal.at.returns-then-state-epoch c).Else-is_none, lt-leb a.epoch a.state.epoch (omega (arith, c.if-state-epoch.true)))))

pub returns : goal.returns
unfolding verdict
returns c =
    let a = c.args in
    gives (goal.at.returns c).After-input_good (Ok tt) (sym (rw (good (goal.at.returns c).Else-not-input_good, shape (goal.at.returns c).Else-is_none, le-leb a.epoch a.state.epoch (omega (arith, c.if-state-epoch.false)))))
