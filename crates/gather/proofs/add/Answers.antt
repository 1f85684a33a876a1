-- `gather::add`: a record's leaves, unless it is later than the epoch.
use native.Mathlib.Omega.{arith}
use Rattle.record.specs.Places.{record_at}
use Rattle.gather.proofs.Row.{gain-none}
use Rattle.gather.proofs.Leaves.{by-later, by-then}
use Rattle.gather.proofs.add.Goals as goal

pub returns-then-epoch-epoch_at : goal.returns-then-epoch-epoch_at
returns-then-epoch-epoch_at c =
    rw (by-later (record_at c.args.records.now c.args.i) c.args.which c.args.epoch (omega (arith, c.epoch_at.ensures, c.if-epoch-epoch_at.true))) (gain-none c.args.row.now c.args.n)

pub returns-in-OfOld : goal.returns-in-OfOld
returns-in-OfOld c =
    let h = c.if-epoch-epoch_at.false in
    rw (by-then (record_at c.args.records.now c.args.i) c.args.which c.args.epoch (omega (arith, c.epoch_at.ensures, h)), c.in-OfOld.is) c.add_old.ensures

pub returns-in-OfAll : goal.returns-in-OfAll
returns-in-OfAll c =
    let h = c.if-epoch-epoch_at.false in
    rw (by-then (record_at c.args.records.now c.args.i) c.args.which c.args.epoch (omega (arith, c.epoch_at.ensures, h)), c.in-OfAll.is) c.add_all.ensures
