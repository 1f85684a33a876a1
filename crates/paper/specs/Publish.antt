-- Document 01, "Publishing": start and publish, what they answer and every byte that they leave.
use Rattle.std.specs.Prelude.{Bool, true, not, ◌&&◌, List, [], ◌∷◌, ◌++◌, map, ℕ, suc, ◌+◌, ◌*◌, ◌/◌, ◌%◌, Ok, Err, eqb, leb, length}
use Rattle.paper.specs.Lists.{every, some}
use Rattle.paper.specs.Numbers.{wide, version_most, batch_most, record_size, update_size, INPUT, TABLE, TWICE, FULL, CLASH}
use Rattle.paper.specs.Bytes.{Bytes, pasted}
use Rattle.paper.specs.Labelling.{Labelling, same_name}
use Rattle.paper.specs.Layout.{Read, got, bad, times, times_bytes, parse}
use Rattle.paper.specs.Verdict.{Test, test, verdict}
use Rattle.paper.specs.Table.{Record, Update, record_field, update_field, records_within, heads_within, counted, head_lies, own_records, last_version, in_shape, all_at, old_at, head_digest, distinct}
use Rattle.paper.specs.declared.State.{State}
use Rattle.paper.specs.Answer.{StartAnswer, PublishAnswer, returned}
use Rattle.paper.specs.declared.Refusal.{Refusal}

-- what starting leaves: the answer, and the head table
pub record Started : Type 0 where
  pub answer : StartAnswer
  pub heads : Bytes

-- "Starting a directory tests 1 only and writes head 0; it has no records."
unfoldable pub start : Labelling → Bytes → Started
start lab heads =
    verdict (λ r. record { answer = Err r; heads = heads })
    (record { answer = Ok (record { count = 0; epoch = 0 }); heads = pasted heads 0 (head_digest lab heads 0 []) })
    (test INPUT (heads_within heads) ∷ [])

-- what publishing leaves: the answer, and both tables
pub record Published : Type 0 where
  pub answer : PublishAnswer
  pub records : Bytes
  pub heads : Bytes

module _ (lab : Labelling) where
  -- "Publishing appends the batch in its order with the next epoch. Each name takes its next version, from 1."
  abbrev pub new_record : List Record → ℕ → Update → Record
  new_record rs e u = record { name = u.name; version = suc (last_version (own_records lab u.name rs)); epoch = e; key = u.key; opening = u.opening }

  -- "a name twice in a batch"
  unfoldable pub once : List Update → Bool
  once [] = true
  once (u ∷ us) = not (some (λ w. same_name lab w.name u.name) us) && once us

  module _ (records heads : Bytes) (state : State) where
    -- "A refusal writes nothing .. and hands back the state it was given."
    abbrev pub unpublished : Refusal → Published
    unpublished r = record { answer = returned state r; records = records; heads = heads }

    -- "Success writes only the named records, head or proof."
    abbrev pub appended : List Record → List Record → Published
    appended rs more = record {
      answer = Ok (record { count = state.count + length more; epoch = suc state.epoch });
      records = pasted records (state.count * record_size) (times_bytes record_field.bytes more);
      heads = pasted heads (suc state.epoch * wide) (head_digest lab heads (suc state.epoch) (rs ++ more));
    }

    -- "Publishing tests 1, 11, 9, 6, 7.": "too few free records, no head slot, or a name at 1,023"; "two leaves of a needed tree
    -- share a label"
    abbrev pub publish_tests : List Record → List Update → List Record → List Test
    publish_tests rs us more =
        test TABLE (head_lies heads state.epoch && in_shape lab state.epoch [] rs)
        ∷ test TWICE (once us)
        ∷ test FULL (leb ((state.count + length us) * record_size) (length records)
        && (leb ((state.epoch + 2) * wide) (length heads) && every (λ r. leb r.version version_most) more))
        ∷ test CLASH (distinct (all_at lab (suc state.epoch) (rs ++ more)) && distinct (old_at lab (suc state.epoch) (rs ++ more)))
        ∷ []

    abbrev pub publish_table : List Update → Read (List Record) → Published
    publish_table us bad = unpublished TABLE
    publish_table us (got rs r) =
        let more : List Record = map (new_record rs (suc state.epoch)) us in
        verdict unpublished (appended rs more) (publish_tests rs us more)

    abbrev pub publish_batch : Read (List Update) → Published
    publish_batch bad = unpublished INPUT
    publish_batch (got us r) = publish_table us (counted records state.count)

-- "batch | 0 to 256 updates", each in layout
unfoldable pub batch_within : Bytes → Bool
batch_within batch = eqb (length batch % update_size) 0 && leb (length batch / update_size) batch_most

unfoldable pub publish : Labelling → Bytes → Bytes → State → Bytes → Published
publish lab records heads state batch =
    verdict (unpublished lab records heads state)
    (publish_batch lab records heads state (parse (times (length batch / update_size) update_field) batch))
    (test INPUT (records_within records && (heads_within heads && batch_within batch)) ∷ [])
