-- A part of lent bytes: which bytes it has, and where it lies.
use Rattle.std.specs.Prelude.{◌≡◌, ℕ, ◌+◌}
use Rattle.std.specs.Borrow.{Bor}
use Rattle.paper.specs.Bytes.{Bytes}

-- the bytes x, in the memory of s from `at` on. A reference points at a block and an offset in it.
pub record PartAt (s : Bor Bytes) (at : ℕ) (x : Bytes) (part : Bor Bytes) : Type 0 where
  pub bytes : part.now ≡ x
  pub block : part.ref_ptr.0 ≡ s.ref_ptr.0
  pub offset : part.ref_ptr.1 ≡ s.ref_ptr.1 + at
