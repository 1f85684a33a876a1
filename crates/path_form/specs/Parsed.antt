-- A path as it is parsed: what document 01's layout reads, with places and numbers instead of the digests and labels.
use Rattle.std.specs.Prelude.{ℕ, ◌+◌, ◌-◌, ◌*◌, length, drop, Option, Some, None}
use Rattle.paper.specs.Bytes.{Bytes}
use Rattle.paper.specs.Layout.{Layout, Read, got, bad, within}
use Rattle.paper.specs.Fields.{path_field}
use Rattle.paper.specs.Path as P
use Rattle.paper.specs.Path.{this, other, off, none}
use Rattle.path_form.specs.Places.{commitment_of}
use Rattle.path_form.specs.declared.End.{End}
use Rattle.path_form.specs.declared.End.TheVariants.{This, Other, Off, Nothing}
use Rattle.path_form.specs.declared.Path.{Path}
use Rattle.path_form.specs.declared.ends.Ended.{Ended}

-- an end whose fields stand from a place on
abbrev pub placed : ℕ → P.End → End
placed at (this c e) = This at e
placed at (other m c e) = Other at e
placed at (off p l r) = Off at
placed at none = Nothing

-- an end that was read in n bytes, whose fields stand from a place on
abbrev pub ended_of : ℕ → ℕ → Read P.End → Option Ended
ended_of n fields bad = None
ended_of n fields (got x r) = Some (record { «end» = placed fields x; commitment = commitment_of x; next = n - length r })

-- the end that a layout reads in s from `at` on
abbrev pub ended_at : Layout P.End → Bytes → ℕ → ℕ → Option Ended
ended_at a s at fields = ended_of (length s) fields (a.read (drop at s))

-- "count m (2 bytes, 1 to 256)": the count that stands at a place
abbrev pub count_of : Read ℕ → Option ℕ
count_of bad = None
count_of (got m r) = Some m

unfoldable pub count_at : Bytes → ℕ → Option ℕ
count_at s at = count_of ((within 2 1 256).read (drop at s))

-- a path that was read in n bytes from `at` on: its count takes two bytes, each step 34, and its end's kind one
abbrev pub path_of : ℕ → ℕ → Read P.Path → Option Path
path_of n at bad = None
path_of n at (got x r) = Some (record {
  steps = at + 2;
  count = length x.steps;
  «end» = placed (at + 2 + 34 * length x.steps + 1) x.end;
  commitment = commitment_of x.end;
  next = n - length r;
})

-- the path that stands in s from `at` on
unfoldable pub path_at : Bytes → ℕ → Option Path
path_at s at = path_of (length s) at (path_field.read (drop at s))
