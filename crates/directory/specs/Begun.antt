-- A directory comes about: it begins, and goes on.
use Rattle.std.specs.Prelude.{◌≡◌, [], ◌∷◌, Ok, Err}
use Rattle.paper.specs.Numbers.{INPUT}
use Rattle.paper.specs.Bytes.{Bytes}
use Rattle.paper.specs.Labelling.{Labelling}
use Rattle.paper.specs.Verdict.{test, verdict}
use Rattle.paper.specs.Table.{records_within}
use Rattle.paper.specs.Publish.{Started, start, Published, publish}
use Rattle.paper.specs.Left.{Left}
use Rattle.paper.specs.declared.State.{State}
use Rattle.paper.specs.Answer.{StartAnswer, PublishAnswer, returned}

-- starting, in a record table within its bounds
unfoldable pub begun : Labelling → Bytes → Bytes → Started
begun lab records heads = verdict (λ r. record { answer = Err r; heads = heads }) (start lab heads) (test INPUT (records_within records) ∷ [])

-- what starting leaves is a directory
pub record Begins (lab : Labelling) (records heads : Bytes) (x : Started) : Type 0 where
  pub is : x ≡ begun lab records heads
  pub left : (s : State) → x.answer ≡ Ok s → Left lab records x.heads s

-- the state after publishing: the new one, or "the state as given"
abbrev pub state_after : PublishAnswer → State
state_after (Ok s) = s
state_after (Err e) = e.state

-- what publishing leaves of a directory is one, whether it succeeds or refuses
pub record GoesOn (lab : Labelling) (records heads : Bytes) (state : State) (batch : Bytes) (x : Published) : Type 0 where
  pub is : x ≡ publish lab records heads state batch
  pub left : Left lab x.records x.heads (state_after x.answer)

-- starting, and then a first batch; a start that refuses has no state but that of no records
abbrev pub opened_by : Labelling → Bytes → Bytes → Bytes → StartAnswer → Published
opened_by lab records heads batch (Ok s) = publish lab records heads s batch
opened_by lab records heads batch (Err r) = record { answer = returned (record { count = 0; epoch = 0 }) r; records = records; heads = heads }

unfoldable pub opened : Labelling → Bytes → Bytes → Bytes → Published
opened lab records heads batch = opened_by lab records (begun lab records heads).heads batch (begun lab records heads).answer

pub record Opens (lab : Labelling) (records heads batch : Bytes) (x : Published) : Type 0 where
  pub is : x ≡ opened lab records heads batch
  pub left : (s : State) → x.answer ≡ Ok s → Left lab x.records x.heads s
