-- What start, publishing, the writers and the tree level read and what they write: the words of proofs/Unread.antt and proofs/Changes.antt.
use Rattle.std.specs.Prelude.{◌≡◌, ◌⊎◌, List, [], ◌∷◌, ◌++◌, map, ℕ, suc, ◌+◌, ◌*◌, ◌/◌, ◌≤◌, ◌<◌, Ok, Err, length, take, drop, get_or}
use Rattle.paper.specs.Numbers.{wide, record_size, update_size}
use Rattle.paper.specs.Bytes.{Bytes, Bytewise, pasted}
use Rattle.paper.specs.Labelling.{Labelling}
use Rattle.paper.specs.Layout.{got, times, parse}
use Rattle.paper.specs.Table.{Record, Update, record_field, update_field, head_at, counted, head_digest}
use Rattle.paper.specs.Publish.{Started, start, Published, new_record, publish}
use Rattle.paper.specs.Write.{Written}
use Rattle.paper.specs.Level.{Laid}
use Rattle.paper.specs.Answer.{StartAnswer, PublishAnswer, reply, start_reply, publish_reply, state_values, write_reply, tree_reply}
use Rattle.paper.specs.declared.State.{State}

-- ---- what is read

-- two pairs of tables that are alike in all that publishing may read: their lengths, the counted records and the current head, as
-- far as these lie in their tables. All other bytes may differ.
pub record Alike (state : State) (records heads records' heads' : Bytes) : Type 0 where
  pub bytes : Bytewise records
  pub bytes' : Bytewise records'
  pub records-length : length records ≡ length records'
  pub heads-length : length heads ≡ length heads'
  pub counted-records : state.count * record_size ≤ length records → take (state.count * record_size) records ≡ take (state.count * record_size) records'
  pub current-head : suc state.epoch * wide ≤ length heads → head_at heads state.epoch ≡ head_at heads' state.epoch

-- what publishing leaves in these tables where it gives this answer and writes these bytes: on success the new records behind the
-- counted ones and the new head in its slot, and all else as it was; on a refusal all as it was
abbrev pub publish_leaves : State → PublishAnswer → Bytes → Bytes → Bytes → Bytes → Published
publish_leaves state (Ok next) more head records heads = record {
  answer = Ok next;
  records = pasted records (state.count * record_size) more;
  heads = pasted heads (suc state.epoch * wide) head;
}
publish_leaves state (Err e) more head records heads = record { answer = Err e; records = records; heads = heads }

-- what publishing leaves in the one pair of tables and in the other is one answer and the same bytes written: on success as many records
-- as the count grows by, and one head
pub record SamePublished (state : State) (records heads records' heads' : Bytes) (one other : Published) : Type 0 where
  pub answer : PublishAnswer
  pub more : Bytes
  pub head : Bytes
  pub size : (next : State) → answer ≡ Ok next → (state.count * record_size + length more ≡ next.count * record_size) × (length head ≡ wide)
  pub one_left : one ≡ publish_leaves state answer more head records heads
  pub other-left : other ≡ publish_leaves state answer more head records' heads'

-- what start leaves in this head table where it gives this answer and writes this head
abbrev pub start_leaves : StartAnswer → Bytes → Bytes → Started
start_leaves (Ok state) head heads = record { answer = Ok state; heads = pasted heads 0 head }
start_leaves (Err r) head heads = record { answer = Err r; heads = heads }

-- start's answer goes by the table's length alone, and the head that it writes by nothing
pub record StartReads (lab : Labelling) : Type 0 where
  pub answer : ℕ → StartAnswer
  pub head : Bytes
  pub size : length head ≡ wide
  pub leaves : (heads : Bytes) → start lab heads ≡ start_leaves (answer (length heads)) head heads

-- ---- what is written

-- the i-th record's bytes
unfoldable pub record_at : Bytes → ℕ → Bytes
record_at records i = take record_size (drop (i * record_size) records)

-- from slot i on the table holds these records
abbrev pub SlotsHold : Bytes → ℕ → List Record → Type 0
SlotsHold records i [] = Unit {0}
SlotsHold records i (r ∷ rs) = (record_at records i ≡ record_field.bytes r) × SlotsHold records (suc i) rs

-- the records of a batch
abbrev pub added : Labelling → State → List Record → List Update → List Record
added lab state rs us = map (new_record lab rs (suc state.epoch)) us

-- outside the places from `low` up to `high` the table is as it was
pub record OnlyWithin (low high : ℕ) (before after : Bytes) : Type 0 where
  pub size : length after ≡ length before
  pub others : (i : ℕ) → (i < low) ⊎ (high ≤ i) → get_or after i 0 ≡ get_or before i 0

-- what starting has done. "Starting a directory .. writes head 0; it has no records."
pub record StartChanged (lab : Labelling) (heads : Bytes) : Type 0 where
  pub says : start_reply (start lab heads).answer ≡ reply 0 (0 ∷ 0 ∷ [])
  pub head : head_at (start lab heads).heads 0 ≡ head_digest lab heads 0 []
  pub heads-only : OnlyWithin 0 wide heads (start lab heads).heads

-- what a success of publishing has done. `rs` are the counted records, `us` the updates of the batch.
pub record Changed (lab : Labelling) (records heads : Bytes) (state : State) (batch : Bytes) : Type 0 where
  pub rs : List Record
  pub counted-records : counted records state.count ≡ got rs []
  pub us : List Update
  pub updates : parse (times (length batch / update_size) update_field) batch ≡ got us []
  -- "The state is the record count and the current epoch."
  pub says : publish_reply (publish lab records heads state batch).answer ≡ reply 0 ((state.count + length us) ∷ suc state.epoch ∷ [])
  -- "Publishing appends the batch in its order with the next epoch."
  pub slots : SlotsHold (publish lab records heads state batch).records state.count (added lab state rs us)
  -- "Publishing a batch closes an epoch and gives a 32-byte head."
  pub head : head_at (publish lab records heads state batch).heads (suc state.epoch) ≡ head_digest lab heads (suc state.epoch) (rs ++ added lab state rs us)
  -- "Success writes only the named records, head or proof."
  pub records-only : OnlyWithin (state.count * record_size) ((state.count + length us) * record_size) records (publish lab records heads state batch).records
  pub heads-only : OnlyWithin (suc state.epoch * wide) ((state.epoch + 2) * wide) heads (publish lab records heads state batch).heads

-- these bytes stand at the output's start, and the rest of it is as it was
pub record Fronted (s before after : Bytes) : Type 0 where
  pub bytes : take (length s) after ≡ s
  pub rest : OnlyWithin 0 (length s) before after

-- what a writer that succeeds has done: the proof of the counted records, its length, and the state as it was given
pub record WriteChanged (records : Bytes) (state : State) (out : Bytes) (proof : List Record → Bytes) (x : Written) : Type 0 where
  pub rs : List Record
  pub counted-records : counted records state.count ≡ got rs []
  pub says : write_reply x.answer ≡ reply 0 (state_values state ++ (length (proof rs) ∷ []))
  pub front : Fronted (proof rs) out x.out

-- and a call of the tree level
pub record TreeChanged (out s : Bytes) (x : Laid) : Type 0 where
  pub says : tree_reply x.answer ≡ reply 0 (length s ∷ [])
  pub front : Fronted s out x.out
