-- A name's records by an epoch, by their numbers.
use Rattle.std.specs.Prelude.{Bool, ◌&&◌, ℕ, leb}
use Rattle.paper.specs.Bytes.{Bytes}
use Rattle.paper.specs.Labelling.{plain, same_name}
use Rattle.record.specs.Places.{record_at}

-- "the name's .. version with epoch at most t": whether record k is one
abbrev pub own_by : Bytes → Bytes → ℕ → ℕ → Bool
own_by s name t k = leb (record_at s k).epoch t && same_name plain (record_at s k).name name
