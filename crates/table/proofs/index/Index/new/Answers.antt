-- `table::index::Index::new`: no bucket has a record, and none a link.
use mathlib.Core.Path.{refl}
use lib.ListN.{replicate}
use Rattle.paper.specs.Numbers.{records_most}
use Rattle.table.specs.Index.{buckets}
use Rattle.table.specs.declared.index.Index.{Index}
use Rattle.table.proofs.Walk.{index-none, unlinked-none}
use Rattle.table.proofs.index.Index.new.Goals as goal

pub returns : goal.returns
returns c =
    let x : Index = record { records = c.args.records; count = 0; first = replicate buckets 0; next = replicate records_most 0 } in
    (index-none c.args.records.now x refl refl, unlinked-none x refl, refl, refl)
