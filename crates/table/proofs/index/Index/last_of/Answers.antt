-- `table::index::Index::last_of`: a walk along the name's bucket.
use native.Mathlib.Omega.{arith}
use mathlib.Core.Path.{◌≡◌, sym, ap, ◌∙◌}
use Prim.Native.Nat.{◌<◌}
use Rattle.std.specs.Prelude.{Some}
use Rattle.paper.specs.Bytes.{same}
use Rattle.record.specs.Places.{record_at}
use Rattle.table.proofs.Last.{bucket-lt}
use Rattle.table.proofs.Walk.{Walked, walk_start, walk-found, walk-on, walk-less, walk_end}
use Rattle.table.proofs.index.Index.last_of.Goals as goal
use Rattle.table.proofs.index.Index.last_of.Goals.{After-bucket, After-same, In-Some}

-- the bucket is one of the index
in-width : (c : After-bucket) → c.bucket.result < 4096
in-width c = omega (arith, c.bucket.ensures, bucket-lt c.args.name.now)

pub offset_bounds-self-bucket : goal.offset_bounds-self-bucket
offset_bounds-self-bucket c = let l = in-width c in omega arith

pub bounds-self-bucket : goal.bounds-self-bucket
bounds-self-bucket c = in-width (goal.at.bounds-self-bucket c).After-bucket

pub loop-at-init : goal.loop-at-init
loop-at-init c = rw c.linked-at.ensures (walk_start c.args.self.now.records.now c.args.self.now.count c.args.self.now c.requires c.args.name.now c.bucket.result c.bucket.ensures)

-- the walk has come to record k
come : (c : In-Some) → Walked c.args.self.now.records.now c.args.name.now c.args.self.now.count (Some c.in-Some.k)
come c = rw c.in-Some.is at c.loop-at.invariant

-- whose name was compared
compared : (c : After-same) → same (record_at c.args.self.now.records.now c.in-Some.k).name c.args.name.now ≡ c.same.result
compared c = sym (c.same.ensures ∙ ap (λ x. same x c.args.name.now) c.name_at.ensures.bytes)

pub returns-then-same : goal.returns-then-same
returns-then-same c =
    let a = c.args in
    let b = goal.at.returns-then-same c in
    walk-found a.self.now.records.now a.self.now.count a.self.now c.requires a.name.now c.in-Some.k (come b.In-Some) (compared b.After-same ∙ c.if-same.true)

pub loop-at-smaller : goal.loop-at-smaller
loop-at-smaller c =
    let a = c.args in
    rw (c.in-Some.is, c.linked-at-in-Some.ensures) (walk-less a.self.now.records.now a.self.now.count a.self.now c.requires a.name.now c.in-Some.k (come (goal.at.loop-at-smaller c).In-Some))

pub loop-at-preserved : goal.loop-at-preserved
loop-at-preserved c =
    let a = c.args in
    let b = goal.at.loop-at-preserved c in
    rw c.linked-at-in-Some.ensures (walk-on a.self.now.records.now a.self.now.count a.self.now c.requires a.name.now c.in-Some.k (come b.In-Some) (compared b.After-same ∙ c.if-same.false))

pub returns : goal.returns
returns c = walk_end c.args.self.now.records.now c.args.self.now.count c.args.self.now c.requires c.args.name.now (rw c.in_default.is at c.loop-at.invariant)
