-- `table::index::Index::enter`: two stores.
use native.Mathlib.Omega.{arith}
use mathlib.Core.Path.{◌≡◌, refl, ap, ◌∙◌, subst}
use Prim.Native.Nat.{suc, ◌<◌, ◌+◌}
use lib.ListN.{get_or, set}
use Rattle.table.specs.declared.index.Index.{Index}
use Rattle.record.specs.Places.{record_at}
use Rattle.table.specs.Index.{bucket_of, Indexed, Unlinked, Own}
use Rattle.table.proofs.Last.{bucket-lt}
use Rattle.table.proofs.Walk.{index-more, unlinked-more}
use Rattle.table.proofs.index.Index.enter.Goals as goal
use Rattle.table.proofs.index.Index.enter.Goals.{After-bucket-b}

-- the bucket is that of the record's name, and one of the index
bucket-is : (c : After-bucket-b) → c.bucket-b.result ≡ bucket_of (record_at c.args.self.now.records.now c.args.self.now.count).name
bucket-is c = c.bucket-b.ensures ∙ ap bucket_of c.name_at.ensures.bytes

in-width : (c : After-bucket-b) → c.bucket-b.result < 4096
in-width c = omega (arith, bucket-is c, bucket-lt (record_at c.args.self.now.records.now c.args.self.now.count).name)

pub offset_bounds-self-b : goal.offset_bounds-self-b
offset_bounds-self-b c = let l = in-width c in omega arith

pub bounds-self-b : goal.bounds-self-b
bounds-self-b c = in-width (goal.at.bounds-self-b c).After-bucket-b

pub offset_bounds-self-b-2 : goal.offset_bounds-self-b-2
offset_bounds-self-b-2 c = let l = in-width (goal.at.offset_bounds-self-b-2 c).After-bucket-b in omega arith

pub bounds-self-b-2 : goal.bounds-self-b-2
bounds-self-b-2 c = in-width (goal.at.bounds-self-b-2 c).After-bucket-b

made : After-bucket-b → Index
made c = let a = c.args.self.now in record { records = a.records; count = a.count + 1; first = set a.first c.bucket-b.result (a.count + 1); next = set a.next a.count (get_or a.first c.bucket-b.result 0) }

entered : (c : After-bucket-b) → Own (made c) × Unlinked (made c).count (made c)
unfolding made
entered c =
    let a = c.args.self.now in
    let s = a.records.now in
    let n : suc a.count ≡ a.count + 1 = omega arith in (
      subst (λ k. Indexed s k (made c)) n (index-more s a.count a c.requires.0 c.requires.1 c.requires.2 c.bucket-b.result (bucket-is c) (made c) refl refl),
      subst (λ k. Unlinked k (made c)) n (unlinked-more s a.count a c.requires.0 c.requires.1 c.requires.2 c.bucket-b.result (bucket-is c) (made c) refl c.requires.3),
    )

pub returns : goal.returns
unfolding made
returns c = let h = entered (goal.at.returns c).After-bucket-b in (h.0, h.1, refl, omega arith)
