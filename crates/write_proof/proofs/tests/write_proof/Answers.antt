-- `write_proof::tests::write_proof`: the first tests refuse, or the rest remains.
use mathlib.Core.Path.{sym, ◌∙◌, subst}
use Rattle.paper.specs.Fields.{is_name}
use Rattle.names.proofs.Named.{name-short}
use Rattle.tested.specs.Tested.{Tested}
use Rattle.tested.proofs.First.{argument-good}
use Rattle.tested.proofs.Order.{refused, passed}
use Rattle.write_proof.specs.Rest.{clear_by, proof_by}
use Rattle.write_proof.proofs.tests.write_proof.Goals as goal
use Rattle.write_proof.proofs.tests.write_proof.Goals.{After-first_tests}

-- what is asked of the name is that it is one
tests : (c : After-first_tests) → let a = c.args in Tested a.records.now a.heads.now a.state a.epoch (is_name a.name.now) c.first_tests.result
tests c =
    let a = c.args in
    subst (λ good. Tested a.records.now a.heads.now a.state a.epoch good c.first_tests.result) c.is_name.ensures c.first_tests.ensures

pub returns-in-Err : goal.returns-in-Err
returns-in-Err c =
    let a = c.args in
    sym (refused a.records.now a.heads.now a.state a.out.now (is_name a.name.now) a.epoch (clear_by a.kind a.name.now a.epoch) (proof_by a.kind a.heads.now a.name.now a.epoch) c.first_tests.result (tests (goal.at.returns-in-Err c).After-first_tests) _ c.in-Err.is)

pub write_shaped-requires : goal.write_shaped-requires
write_shaped-requires c =
    let a = c.args in
    ((tests (goal.at.write_shaped-requires c).After-first_tests).sound c.in_default.is, name-short a.name.now (argument-good a.records.now a.heads.now a.state a.epoch (is_name a.name.now) c.first_tests.result (tests (goal.at.write_shaped-requires c).After-first_tests) c.in_default.is))

pub returns : goal.returns
returns c =
    let a = c.args in
    c.write_shaped.ensures ∙ sym (passed a.records.now a.heads.now a.state a.out.now (is_name a.name.now) a.epoch (clear_by a.kind a.name.now a.epoch) (proof_by a.kind a.heads.now a.name.now a.epoch) c.first_tests.result (tests (goal.at.returns c).After-first_tests) c.in_default.is)
