-- `gather::gather`: the records passed have given their leaves.
use native.Mathlib.Omega.{arith}
use native.Mathlib.Numerals.{add-one}
use mathlib.Core.Path.{refl, ◌∙◌}
use Rattle.record.specs.Places.{record_at}
use Rattle.gather.proofs.Row.{gain-none, gain-more}
use Rattle.gather.proofs.Leaves.{by-none, by-snoc, few-leaves}
use Rattle.gather.proofs.gather.Goals as goal

pub loop-i-init : goal.loop-i-init
loop-i-init c = (omega arith, refl, omega arith, rw (by-none c.args.which c.args.epoch c.args.records.now) (gain-none c.args.row.now c.args.n))

pub loop-i-preserved : goal.loop-i-preserved
loop-i-preserved c =
    let at = c.loop-i in
    let more = c.add-m in
    let records = c.args.records.now in
    let h = c.loop-i-test.true in (
      omega (arith, h),
      more.auto.row ∙ at.invariant.1,
      omega (arith, at.invariant.2, more.ensures.number, few-leaves (record_at records at.i) c.args.which c.args.epoch),
      rw (add-one at.i, by-snoc c.args.which c.args.epoch records at.i) (gain-more at.invariant.3 more.ensures),
    )
