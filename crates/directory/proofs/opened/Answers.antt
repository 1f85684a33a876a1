-- `directory::opened`: a start, and then a first batch.
use Rattle.paper.specs.Labelling.{plain}
use Rattle.paper.specs.Publish.{Started}
use Rattle.directory.proofs.Publishings.{opened-not, opened-left}
use Rattle.directory.proofs.opened.Goals as goal
use Rattle.directory.proofs.opened.Goals.{After-begun}

-- what the start left
abbrev made : After-begun → Started
made k = record { answer = k.begun.result; heads = k.begun.new.heads }

pub further-requires : goal.further-requires
further-requires c = c.begun.ensures.left _ c.in-Ok.is

pub returns-in-Err : goal.returns-in-Err
returns-in-Err c =
    let a = c.args in
    opened-not plain a.records.now a.heads.now a.batch.now (made (goal.at.returns-in-Err c).After-begun) c.begun.ensures _ c.in-Err.is

pub returns-in-Ok : goal.returns-in-Ok
returns-in-Ok c =
    let a = c.args in
    opened-left plain a.records.now a.heads.now a.batch.now (made (goal.at.returns-in-Ok c).After-begun) c.begun.ensures _ c.in-Ok.is _ c.further.ensures
