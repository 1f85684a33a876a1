-- "tables and state that publishing left": what starting a directory and then publishing, however many times, leaves.
use Rattle.std.specs.Prelude.{◌≡◌, Ok, true}
use Rattle.paper.specs.Bytes.{Bytes, Bytewise}
use Rattle.paper.specs.Labelling.{Labelling}
use Rattle.paper.specs.Table.{records_within}
use Rattle.paper.specs.Publish.{start, publish}
use Rattle.paper.specs.declared.State.{State}

pub data Left (lab : Labelling) : Bytes → Bytes → State → Type 0 where
  started : {state : State} (records heads : Bytes) → Bytewise records → Bytewise heads → records_within records ≡ true → (start lab heads).answer ≡ Ok state
      → Left lab records (start lab heads).heads state
  published : {records heads : Bytes} {state next : State} → Left lab records heads state → (batch : Bytes) → Bytewise batch → (publish lab records heads state batch).answer ≡ Ok next
      → Left lab (publish lab records heads state batch).records (publish lab records heads state batch).heads next
