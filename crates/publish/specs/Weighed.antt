-- What is found out about a batch before anything is written.
use Rattle.std.specs.Prelude.{◌≡◌, Bool, true, false, ◌&&◌, List, [], ◌++◌, ℕ, suc, Result, Ok, MatchResult, ◌+◌, ◌*◌, ◌/◌, ◌≤◌, ◌<◌, length, take, drop}
use Rattle.paper.specs.Numbers.{wide, record_size, records_most, update_size, batch_most, heads_most, CLASH}
use Rattle.paper.specs.Bytes.{Bytes, pasted}
use Rattle.paper.specs.Labelling.{plain}
use Rattle.paper.specs.Layout.{times, parse, in_layout, got}
use Rattle.paper.specs.Table.{Record, update_field, records_within, heads_within, head_digest}
use Rattle.paper.specs.Publish.{Published, batch_within, unpublished, publish}
use Rattle.paper.specs.declared.State.{State}
use Rattle.paper.specs.declared.Refusal.{Refusal}
use Rattle.record.specs.Places.{records_in}
use Rattle.batch.specs.Places.{updates_in, Lies}
use Rattle.new_epoch.specs.Headed.{Plantable, apart}

-- "an argument breaks the bounds or an update's layout": whether none does
unfoldable pub input_good : Bytes → Bytes → Bytes → Bool
input_good records heads batch = (records_within records && (heads_within heads && batch_within batch)) && in_layout (parse (times (length batch / update_size) update_field) batch)

-- what an input without fault says of the batch's bytes
pub record Good (records heads batch : Bytes) : Type 0 where
  pub within : (records_within records && (heads_within heads && batch_within batch)) ≡ true
  pub layout : parse (times (length batch / update_size) update_field) batch ≡ got (updates_in (length batch / update_size) batch) []
  pub size : length batch ≡ (length batch / update_size) * update_size
  pub few : length batch / update_size ≤ batch_most
  pub formed : (i : ℕ) → suc i * update_size ≤ length batch → in_layout (update_field.read (drop (i * update_size) batch)) ≡ true
  pub lies : (i : ℕ) → i < length batch / update_size → Lies batch i

-- what publishing leaves, from the new records' bytes and the new head
abbrev pub leaving : Bytes → Bytes → State → ℕ → Bytes → Bytes → Published
leaving records heads state n fresh head = record {
  answer = Ok (record { count = state.count + n; epoch = suc state.epoch });
  records = pasted records (state.count * record_size) (take (n * record_size) fresh);
  heads = pasted heads (suc state.epoch * wide) head;
}

-- nothing stands in the way: there is room, and publishing leaves just this
pub record Clear (records heads : Bytes) (state : State) (batch fresh head : Bytes) : Type 0 where
  pub leaves : publish plain records heads state batch ≡ leaving records heads state (length batch / update_size) fresh head
  pub room : (state.count + length batch / update_size) * record_size ≤ length records
  pub slot : (state.epoch + 2) * wide ≤ length heads
  pub few : length batch / update_size ≤ batch_most
  pub most : state.count + length batch / update_size ≤ records_most
  pub epochs : suc state.epoch < heads_most
  pub size : length head ≡ wide

-- the table's records and the new ones
abbrev pub both_in : Bytes → State → Bytes → Bytes → List Record
both_in records state batch fresh = records_in state.count records ++ records_in (length batch / update_size) fresh

-- the tests before the last one pass: the new records stand in `fresh`, and whether two leaves of a tree share a label decides
pub record Laid (records heads : Bytes) (state : State) (batch fresh : Bytes) : Type 0 where
  pub plantable : Plantable records state.count fresh (length batch / update_size)
  pub slot : (state.epoch + 2) * wide ≤ length heads
  pub epochs : suc state.epoch < heads_most
  pub clash : apart state.epoch (both_in records state batch fresh) ≡ false → publish plain records heads state batch ≡ unpublished plain records heads state CLASH
  pub clear : apart state.epoch (both_in records state batch fresh) ≡ true → (head : Bytes) → head ≡ head_digest plain heads (suc state.epoch) (both_in records state batch fresh)
      → Clear records heads state batch fresh head

-- they do, or one refuses
abbrev pub Tested : Bytes → Bytes → State → Bytes → Bytes → Result (Unit {0}) Refusal → Type 0
Tested records heads state batch fresh r = MatchResult r
    (λ _. Laid records heads state batch fresh)
    (λ e. publish plain records heads state batch ≡ unpublished plain records heads state e)

-- nothing stands in the way of the new head, or a test refuses
abbrev pub Weighs : Bytes → Bytes → State → Bytes → Bytes → Result Bytes Refusal → Type 0
Weighs records heads state batch fresh r = MatchResult r
    (λ head. Clear records heads state batch fresh head)
    (λ e. publish plain records heads state batch ≡ unpublished plain records heads state e)
