use mathlib.Core.Path.{◌≡◌}
use Prim.Native.Nat.{◌<◌}
use lib.ListN.{drop}
use Rattle.table.specs.Index.{buckets, mixed, bucket_of}
use Rattle.table.proofs.index.bucket.Given as goal

abbrev pub invariant-loop-b : goal.invariant-loop-b
invariant-loop-b l = (l.h < buckets) × (bucket_of l.name ≡ mixed l.h (drop l.b-index l.name))
