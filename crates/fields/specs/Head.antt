-- A head by places.
use Rattle.std.specs.Prelude.{ℕ, ◌+◌, take, drop}
use Rattle.paper.specs.Numbers.{wide}
use Rattle.paper.specs.Bytes.{Bytes, number}
use Rattle.paper.specs.Strings.{Head}

-- "the 100 bytes of a head after its 0x03", from `at` on
abbrev pub head_at : Bytes → ℕ → Head
head_at s at = record {
  epoch = number (take 4 (drop at s));
  previous = take wide (drop (at + 4) s);
  all = take wide (drop (at + 36) s);
  old = take wide (drop (at + 68) s);
}
