-- `write_audit::write_audit`: the first tests refuse, or the rest remains.
use borrow.Author.Tests.{leb-true}
use mathlib.Core.Path.{sym, ◌∙◌}
use mathlib.Core.List.{List}
use lib.Dec.{leb}
use Rattle.paper.specs.Bytes.{Bytes}
use Rattle.paper.specs.Labelling.{plain}
use Rattle.paper.specs.Audit.{audit_field}
use Rattle.paper.specs.Table.{Record}
use Rattle.paper.specs.Write.{audit_proof}
use Rattle.tested.proofs.First.{argument-good}
use Rattle.tested.proofs.Order.{refused, passed}
use Rattle.write_audit.specs.Rest.{clear_at}
use Rattle.write_audit.proofs.write_audit.Goals as goal
use Rattle.write_audit.proofs.write_audit.Goals.{After-first_tests}

abbrev proof : After-first_tests → List Record → Bytes
proof c rs = let a = c.args in audit_field.bytes (audit_proof plain a.heads.now a.epoch rs)

pub returns-in-Err : goal.returns-in-Err
returns-in-Err c =
    let a = c.args in
    sym (refused a.records.now a.heads.now a.state a.out.now (leb 1 a.epoch) a.epoch (clear_at a.epoch) (proof (goal.at.returns-in-Err c).After-first_tests) c.first_tests.result c.first_tests.ensures _ c.in-Err.is)

pub write_shaped-requires : goal.write_shaped-requires
write_shaped-requires c =
    let a = c.args in
    (c.first_tests.ensures.sound c.in_default.is, leb-true 1 a.epoch (argument-good a.records.now a.heads.now a.state a.epoch (leb 1 a.epoch) c.first_tests.result c.first_tests.ensures c.in_default.is))

pub returns : goal.returns
returns c =
    let a = c.args in
    c.write_shaped.ensures ∙ sym (passed a.records.now a.heads.now a.state a.out.now (leb 1 a.epoch) a.epoch (clear_at a.epoch) (proof (goal.at.returns c).After-first_tests) c.first_tests.result c.first_tests.ensures c.in_default.is)
