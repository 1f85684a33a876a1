use Rattle.table.specs.Index.{up_to}
use Rattle.table.proofs.Walk.{Walked}
use Rattle.table.proofs.index.Index.last_of.Given as goal

abbrev pub invariant-loop-at : goal.invariant-loop-at
invariant-loop-at l = Walked l.self.records.now l.name l.self.count l.at

abbrev pub decreases-loop-at : goal.decreases-loop-at
decreases-loop-at l = up_to l.at
