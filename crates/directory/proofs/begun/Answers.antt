-- `directory::begun`: one test, and then a start.
use mathlib.Core.Path.{sym, ◌∙◌}
use Rattle.paper.specs.Labelling.{plain}
use Rattle.ranges.proofs.Slices.{bytewise}
use Rattle.directory.proofs.Publishings.{unbegun, begun-left}
use Rattle.directory.proofs.begun.Goals as goal

pub returns-then-not-records_within : goal.returns-then-not-records_within
returns-then-not-records_within c =
    let a = c.args in
    unbegun plain a.records.now a.heads.now (sym c.records_within.ensures ∙ c.if-not-records_within.true)

pub returns : goal.returns
returns c =
    let a = c.args in
    begun-left plain a.records.now a.heads.now (bytewise a.records.now c.type_inv.records) (bytewise a.heads.now c.slice_known-1.given)
    (sym c.records_within.ensures ∙ c.if-not-records_within.false) _ c.start.ensures
