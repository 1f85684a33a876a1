use mathlib.Core.Path.{◌≡◌}
use Rattle.table.specs.Index.{last_where}
use Rattle.own.specs.Own.{own_by}
use Rattle.own.proofs.latest.Given as goal

abbrev pub invariant-loop-k : goal.invariant-loop-k
invariant-loop-k l = last_where (own_by l.records l.name l.epoch) l.count ≡ last_where (own_by l.records l.name l.epoch) l.k
