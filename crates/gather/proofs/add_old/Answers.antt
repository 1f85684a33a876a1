-- `gather::add_old`: the replaced version's leaf, if there is one.
use native.Mathlib.Omega.{arith}
use mathlib.Core.Path.{◌≡◌}
use Rattle.paper.specs.Numbers.{wide}
use Rattle.paper.specs.Bytes.{zeros}
use Rattle.paper.specs.Bits.{bits_of}
use Rattle.paper.specs.Strings.{leaf}
use Rattle.record.specs.Places.{record_at}
use Rattle.gather.proofs.Row.{gain-none}
use Rattle.gather.proofs.Leaves.{name-few, old-none, old-one, replaced_leaf}
use Rattle.gather.proofs.add_old.Goals as goal

pub returns-then-version-le1 : goal.returns-then-version-le1
returns-then-version-le1 c =
    rw (old-none (record_at c.args.records.now c.args.i) (omega (arith, c.version_at-version.ensures))) (gain-none c.args.row.now c.args.n)

pub label-requires : goal.label-requires
label-requires c = rw c.name_at.ensures.bytes (name-few _ _)

pub returns : goal.returns
returns c =
    let r = record_at c.args.records.now c.args.i in
    let version = c.version_at-version.ensures in
    let name = c.name_at.ensures.bytes in
    let label = c.label.ensures in
    let epoch = c.epoch_at.ensures in
    let e : leaf (bits_of c.label.result) (zeros wide) c.epoch_at.result ≡ replaced_leaf r =
    rw (label, version, name, epoch) in
    let h = c.if-version-le1.false in
    rw (old-one r (omega (arith, version, h)), ← e) c.put_leaf.ensures
