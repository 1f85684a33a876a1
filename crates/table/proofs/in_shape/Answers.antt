-- `table::in_shape`: where the head and the records lie in their tables, the records decide.
use native.Mathlib.Omega.{arith}
use Rattle.ranges.proofs.Slices.{bytewise}
use Rattle.table.proofs.Shapes.{head-fails, records-fail, records-decide}
use Rattle.table.proofs.in_shape.Goals as goal

pub returns-then-heads-epoch : goal.returns-then-heads-epoch
returns-then-heads-epoch c =
    let a = c.args in
    head-fails a.records.now a.heads.now a.count a.epoch (omega arith)

pub returns-then-records-n : goal.returns-then-records-n
returns-then-records-n c =
    let a = c.args in
    records-fail a.records.now a.heads.now a.count a.epoch (omega arith) (bytewise a.records.now c.type_inv.records) (omega arith)

pub returns : goal.returns
returns c =
    let a = c.args in
    records-decide a.records.now a.heads.now a.count a.epoch (omega arith) c.all_follow.result c.all_follow.ensures
