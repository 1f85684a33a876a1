-- Two pairs of tables that are alike in all that a writer may read: "Records past the count are not read." "A previous head is read from the
-- head table, and no other head is."
use Rattle.std.specs.Prelude.{◌≡◌, ℕ, ◌*◌, length, take}
use Rattle.paper.specs.Numbers.{record_size}
use Rattle.paper.specs.Bytes.{Bytes}
use Rattle.paper.specs.Table.{previous_head}
use Rattle.paper.specs.declared.State.{State}

pub record Alike (state : State) (records heads records' heads' : Bytes) : Type 0 where
  pub records-length : length records ≡ length records'
  pub heads-length : length heads ≡ length heads'
  pub counted-records : take (state.count * record_size) records ≡ take (state.count * record_size) records'

-- and in the previous head of an epoch
abbrev pub Previous : Bytes → Bytes → ℕ → Type 0
Previous heads heads' t = previous_head heads t ≡ previous_head heads' t
