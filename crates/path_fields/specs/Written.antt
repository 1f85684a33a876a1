-- Bytes as they are written into an output.
use Rattle.std.specs.Prelude.{◌≡◌, ℕ, ◌+◌, length}
use Rattle.paper.specs.Bytes.{Bytes, pasted}

-- bytes laid over an output from a place on, and the place behind them
pub record Wrote (old : Bytes) (at : ℕ) (x out : Bytes) (next : ℕ) : Type 0 where
  pub laid : out ≡ pasted old at x
  pub behind : next ≡ at + length x
