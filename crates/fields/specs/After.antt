-- The place behind a reading.
use Rattle.std.specs.Prelude.{ℕ, ◌-◌, length, drop, Option, Some, None}
use Rattle.paper.specs.Bytes.{Bytes}
use Rattle.paper.specs.Layout.{Layout, Read, got, bad}

-- behind what was read in n bytes, if anything was
abbrev pub after_of : {A : Type 0} → ℕ → Read A → Option ℕ
after_of n bad = None
after_of n (got x r) = Some (n - length r)

-- behind what a layout reads in s from `at` on
abbrev pub after_at : {A : Type 0} → Layout A → Bytes → ℕ → Option ℕ
after_at a s at = after_of (length s) (a.read (drop at s))
