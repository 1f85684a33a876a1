-- The program's input, as it is cut. Assumes nothing.
use mathlib.Core.Path.{◌≡◌}
use mathlib.Core.Logic.{◌⊎◌, inl, inr}
use mathlib.Core.Bool.{and-false}
use Prim.Native.Nat.{ℕ, ◌+◌, ◌-◌, ◌≤◌, ◌<◌}
use lib.ListN.{length, take, drop, get_or}
use borrow.Author.Tests.{le-leb, lt-leb}
use Rattle.paper.specs.Numbers.{INPUT}
use Rattle.paper.specs.Bytes.{Bytes}
use Rattle.paper.specs.Labelling.{plain}
use Rattle.paper.specs.Lookup.{check_lookup}
use Rattle.paper.specs.Program.{line, program_line}
use Rattle.std.specs.Prelude.{Err}
use Rattle.ranges.proofs.Slices.{part-is, rest-is}

-- too long, or too short for head and name
pub input-refused : (b : Bytes) → (65536 < length b) ⊎ (length b < 33 + get_or b 32 0) → program_line b ≡ line (Err INPUT)
unfolding program_line
input-refused b (inl h) = rw (lt-leb (length b) 65536 h)
input-refused b (inr h) = rw (lt-leb (33 + get_or b 32 0) (length b) h, and-false)

-- head, name and proof as they are cut from it
pub input-checked : (b : Bytes) (n : ℕ) → n ≡ get_or b 32 0 → length b ≤ 65536 → 33 + n ≤ length b
    → program_line b ≡ line (check_lookup plain (take 32 b) (take (33 + n - 33) (drop 33 b)) (take (length b - (33 + n)) (drop (33 + n) b)))
unfolding program_line
input-checked b n e h k = rw (← e, le-leb (length b) 65536 h, le-leb (33 + n) (length b) k, part-is b 33 n, rest-is b (33 + n))
