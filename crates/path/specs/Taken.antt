-- A path as it is taken for a label under a root: whether it gives the root, and what it shows.
use Rattle.std.specs.Prelude.{Bool, cond, ◌&&◌, ℕ, ◌-◌, ltb, length, drop, Option, Some, None}
use Rattle.paper.specs.Bytes.{Bytes, same}
use Rattle.paper.specs.Bits.{Bits, bits_of}
use Rattle.paper.specs.Layout.{Read, got, bad}
use Rattle.paper.specs.Fields.{path_field}
use Rattle.paper.specs.Path.{this, other, off, none, path_root, last_length, absent}
use Rattle.paper.specs.Path as P
use Rattle.path.specs.declared.Shown.{Shown}
use Rattle.path.specs.declared.Shown.TheVariants.{Present, Absent, Neither}
use Rattle.path.specs.declared.Taken.{Taken}

-- "End 0 shows presence, the others absence", by the rules of absence
abbrev pub absent_by : Bool → Shown
absent_by b = cond b Absent Neither

abbrev pub shown_at : Bits → ℕ → P.End → Shown
shown_at L k (this c e) = Present c e
shown_at L k (other m c e) = absent_by (absent L k (other m c e))
shown_at L k (off p l r) = absent_by (absent L k (off p l r))
shown_at L k none = absent_by (absent L k none)

abbrev pub shown_by : Bits → P.Path → Shown
shown_by L x = shown_at L (last_length x.steps) x.end

-- what n bits show that part from a label at bit d, under a step of length k
abbrev pub parting : ℕ → ℕ → ℕ → Shown
parting k n d = absent_by (ltb k d && ltb d n)

-- a path that was read in n bytes, for a label and a root
abbrev pub taken_of : ℕ → Bytes → Bytes → Read P.Path → Option Taken
taken_of n label root bad = None
taken_of n label root (got x r) = Some (record {
  nodes = length x.steps;
  matches = same (path_root (bits_of label) x) root;
  shows = shown_by (bits_of label) x;
  next = n - length r;
})

-- the path that stands in s from `at` on
unfoldable pub taken : Bytes → ℕ → Bytes → Bytes → Option Taken
taken s at label root = taken_of (length s) label root (path_field.read (drop at s))
