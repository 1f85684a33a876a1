-- Demand 1 over the definitions, for every public entry: "ends, and either answers or refuses by a number from document 01. A refusal writes nothing
-- in any buffer lent to it and hands back the state it was given." Each entry's tests stand here as one list, in document 01's order;
-- proofs/Refusals.antt shows that the entry is decided by them.
use Rattle.std.specs.Prelude.{◌≡◌, ◌⊎◌, ◌↔◌, Bool, true, false, not, ◌&&◌, List, [], ◌∷◌, ◌++◌, map, ℕ, suc, ◌+◌, ◌-◌, ◌*◌, ◌/◌, Err, eqb, leb, length, take, drop, get_or}
use Rattle.paper.specs.Lists.{◌∈◌, every}
use Rattle.paper.specs.Numbers.{wide, version_most, record_size, update_size, INPUT, FORM, HEAD, ROOT, RULE, FULL, CLASH, ROOM, TWICE, EPOCH, TABLE, refusal_number}
use Rattle.paper.specs.Bytes.{Bytes}
use Rattle.paper.specs.Bits.{bits_of}
use Rattle.paper.specs.Labelling.{Labelling, plain}
use Rattle.paper.specs.Tree.{root, root_digest}
use Rattle.paper.specs.Path.{way}
use Rattle.paper.specs.Layout.{Read, got, bad, times, parse}
use Rattle.paper.specs.Fields.{is_name, path_field}
use Rattle.paper.specs.Verdict.{Test, test, Hold, FirstFails}
use Rattle.paper.specs.Shows.{Proof, proof_tests, input_tests}
use Rattle.paper.specs.Lookup.{lookup_asked, lookup_field, lookup_terms, check_lookup, accepted_key}
use Rattle.paper.specs.History.{history_asked, history_field, history_terms, check_history}
use Rattle.paper.specs.Audit.{audit_field, audit_tests, audit_input_tests, check_audit}
use Rattle.paper.specs.Table.{Record, update_field, records_within, heads_within, counted, head_lies, in_shape, last_version, all_at, old_at, holds, distinct}
use Rattle.paper.specs.Publish.{start, new_record, once, batch_within, publish}
use Rattle.paper.specs.Write.{versions_by, unclashed, lookup_proof, history_proof, audit_proof, write_lookup, write_history, write_audit}
use Rattle.paper.specs.Level.{entries_within, leaves_of, tree_root, tree_path}
use Rattle.paper.specs.Answer.{Reply, LookupAnswer, returned, lookup_reply, lookup_number, history_reply, audit_reply, state_values, start_reply, publish_reply, write_reply, tree_reply}
use Rattle.paper.specs.Program.{line, program_line}
use Rattle.paper.specs.declared.State.{State}
use Rattle.paper.specs.declared.Refusal.{Refusal}

-- what an entry leaves (its answer, and all that it was lent) is decided by tests in an order; `refused r` has the refusal r, the state and
-- every byte as they were given, and `given` are the values of that state, or none
pub record Decided {A : Type 0} (says : A → Reply) (given : List ℕ) (refused : Refusal → A) (order : List Test) (numbers : List ℕ) (left : A) : Type 0 where
  -- it answers exactly where every test holds
  pub answers : ((says left).number ≡ 0) ↔ Hold order
  -- "given exactly when": it refuses by n exactly where the first test that fails has the number n
  pub refuses : (n : ℕ) → ¬ (n ≡ 0) → ((says left).number ≡ n) ↔ FirstFails order n
  -- "either answers or refuses by a number from document 01"
  pub known : ((says left).number ≡ 0) ⊎ ((says left).number ∈ numbers)
  -- "Each returns its number only, with the state as given where there is one."
  pub only : ¬ ((says left).number ≡ 0) → (says left).values ≡ given
  -- "A refusal writes nothing .. and hands back the state it was given."
  pub keeps : ¬ ((says left).number ≡ 0) → (r : Refusal) × (refusal_number r ≡ (says left).number) × (left ≡ refused r)

-- the test that something was read, and behind it those of what was read
abbrev pub reading : {A : Type 0} → Refusal → Read A → (A → List Test) → List Test
reading n bad tests = test n false ∷ []
reading n (got x r) tests = test n true ∷ tests x

-- ---- the checkers

abbrev pub checker_numbers : List ℕ
checker_numbers = map refusal_number (INPUT ∷ FORM ∷ HEAD ∷ ROOT ∷ RULE ∷ [])

-- "Checkers test 1, 2 over the whole proof, 3; then lookup and history take paths in order, 4 before 5 for each."
module _ (lab : Labelling) (d name : Bytes) where
  abbrev pub lookup_tests : Proof → List Test
  lookup_tests p = proof_tests lab name d (lookup_terms p) (lookup_asked p.number) p

  abbrev pub lookup_order : Bytes → List Test
  lookup_order b = input_tests d name ++ reading FORM (parse lookup_field b) lookup_tests

  abbrev pub history_tests : Proof → List Test
  history_tests p = proof_tests lab name d (history_terms p) (history_asked p.number p.head.epoch) p

  abbrev pub history_order : Bytes → List Test
  history_order b = input_tests d name ++ reading FORM (parse history_field b) history_tests

-- "Audits test the old head, the new head, the rules joining the heads, then per tree its list rules, old root, new root."
abbrev pub audit_order : Bytes → Bytes → Bytes → List Test
audit_order d d' b = audit_input_tests d d' ++ reading FORM (parse audit_field b) (audit_tests d d')

-- "Over 65,536 bytes, or too short for head and name, is 1.", and then the lookup checker's
abbrev pub program_order : Bytes → List Test
program_order b =
    let n : ℕ = get_or b wide 0 in
    test INPUT (leb (length b) 65536 && leb (33 + n) (length b)) ∷ lookup_order plain (take wide b) (take n (drop 33 b)) (drop (33 + n) b)

-- ---- the server

-- "Starting a directory tests 1 only"
abbrev pub start_numbers : List ℕ
start_numbers = map refusal_number (INPUT ∷ [])

abbrev pub start_order : Bytes → List Test
start_order heads = test INPUT (heads_within heads) ∷ []

-- "Publishing tests 1, 11, 9, 6, 7."
abbrev pub publish_numbers : List ℕ
publish_numbers = map refusal_number (INPUT ∷ TABLE ∷ TWICE ∷ FULL ∷ CLASH ∷ [])

-- "Writers test 1, 11, 10, 7, 8."
abbrev pub writer_numbers : List ℕ
writer_numbers = map refusal_number (INPUT ∷ TABLE ∷ EPOCH ∷ CLASH ∷ ROOM ∷ [])

module _ (lab : Labelling) (records heads : Bytes) (state : State) where
  abbrev pub publish_order : Bytes → List Test
  publish_order batch =
      test INPUT (records_within records && (heads_within heads && batch_within batch))
      ∷ reading INPUT (parse (times (length batch / update_size) update_field) batch) (λ us.
      reading TABLE (counted records state.count) (λ rs.
      let more : List Record = map (new_record lab rs (suc state.epoch)) us in
      test TABLE (head_lies heads state.epoch && in_shape lab state.epoch [] rs)
      ∷ test TWICE (once lab us)
      ∷ test FULL (leb ((state.count + length us) * record_size) (length records)
      && (leb ((state.epoch + 2) * wide) (length heads) && every (λ r. leb r.version version_most) more))
      ∷ test CLASH (distinct (all_at lab (suc state.epoch) (rs ++ more)) && distinct (old_at lab (suc state.epoch) (rs ++ more)))
      ∷ []))

  -- of a writer whose further arguments are in bounds or not, at epoch t, with its test of the trees and its proof for the counted records
  abbrev pub writer_order : Bytes → Bool → ℕ → (List Record → Bool) → (List Record → Bytes) → List Test
  writer_order out input t clear proof =
      test INPUT (records_within records && (heads_within heads && input))
      ∷ reading TABLE (counted records state.count) (λ rs.
      test TABLE (head_lies heads state.epoch && in_shape lab state.epoch [] rs)
      ∷ test EPOCH (leb t state.epoch)
      ∷ test CLASH (clear rs)
      ∷ test ROOM (leb (length (proof rs)) (length out))
      ∷ [])

  module _ (out : Bytes) where
    abbrev pub lookup_writer_order : Bytes → ℕ → List Test
    lookup_writer_order name t =
        writer_order out (is_name name) t
        (λ rs. unclashed lab name t rs (lookup_asked (last_version (versions_by lab name t rs))))
        (λ rs. lookup_field.bytes (lookup_proof lab name t rs heads))

    abbrev pub history_writer_order : Bytes → ℕ → List Test
    history_writer_order name t =
        writer_order out (is_name name) t
        (λ rs. unclashed lab name t rs (history_asked (length (versions_by lab name t rs)) t))
        (λ rs. history_field.bytes (history_proof lab name t rs heads))

    -- "or an audit writer's new epoch is 0"
    abbrev pub audit_writer_order : ℕ → List Test
    audit_writer_order t =
        writer_order out (leb 1 t) t
        (λ rs. distinct (all_at lab (t - 1) rs) && (distinct (old_at lab (t - 1) rs) && (distinct (all_at lab t rs) && distinct (old_at lab t rs))))
        (λ rs. audit_field.bytes (audit_proof lab heads t rs))

-- "CLASH is tried at the tree level, which takes labels directly."
abbrev pub tree_numbers : List ℕ
tree_numbers = map refusal_number (INPUT ∷ CLASH ∷ ROOM ∷ [])

abbrev pub tree_root_order : Bytes → Bytes → List Test
tree_root_order entries out =
    test INPUT (entries_within entries)
    ∷ test CLASH (distinct (leaves_of entries))
    ∷ test ROOM (leb (length (root_digest (leaves_of entries))) (length out))
    ∷ []

abbrev pub tree_path_order : Bytes → Bytes → Bool → Bytes → List Test
tree_path_order entries label absent out =
    test INPUT (entries_within entries && eqb (length label) wide)
    ∷ test CLASH (distinct (leaves_of entries) && not (absent && holds (bits_of label) (leaves_of entries)))
    ∷ test ROOM (leb (length (path_field.bytes (way (bits_of label) (root (leaves_of entries))))) (length out))
    ∷ []

-- ---- gathered

-- every public entry's definition, with what it leaves where it refuses by n
pub record EveryEntry (lab : Labelling) : Type 0 where
  pub check-lookup : (d name b : Bytes) → Decided lookup_reply [] Err (lookup_order lab d name b) checker_numbers (check_lookup lab d name b)
  pub check-history : (d name b : Bytes) → Decided history_reply [] Err (history_order lab d name b) checker_numbers (check_history lab d name b)
  pub check-audit : (d d' b : Bytes) → Decided audit_reply [] Err (audit_order d d' b) checker_numbers (check_audit d d' b)
  -- "a refusal .. gives the empty part at its start"
  pub accepted-key : (d name b : Bytes) → ¬ (lookup_number (check_lookup lab d name b) ≡ 0) → accepted_key (check_lookup lab d name b) b ≡ []
  -- "It prints one line": that of an answer which is decided so
  pub program-line : (b : Bytes) → (a : LookupAnswer) × (program_line b ≡ line a) × Decided lookup_reply [] Err (program_order b) checker_numbers a
  pub starts : (heads : Bytes)
      → Decided (λ x. start_reply x.answer) [] (λ r. record { answer = Err r; heads = heads }) (start_order heads) start_numbers (start lab heads)
  pub publishes : (records heads : Bytes) (state : State) (batch : Bytes)
      → Decided (λ x. publish_reply x.answer) (state_values state) (λ r. record { answer = returned state r; records = records; heads = heads })
      (publish_order lab records heads state batch) publish_numbers (publish lab records heads state batch)
  pub write-lookup : (records heads : Bytes) (state : State) (out name : Bytes) (t : ℕ)
      → Decided (λ x. write_reply x.answer) (state_values state) (λ r. record { answer = returned state r; out = out })
      (lookup_writer_order lab records heads state out name t) writer_numbers (write_lookup lab records heads state out name t)
  pub write-history : (records heads : Bytes) (state : State) (out name : Bytes) (t : ℕ)
      → Decided (λ x. write_reply x.answer) (state_values state) (λ r. record { answer = returned state r; out = out })
      (history_writer_order lab records heads state out name t) writer_numbers (write_history lab records heads state out name t)
  pub write-audit : (records heads : Bytes) (state : State) (out : Bytes) (t : ℕ)
      → Decided (λ x. write_reply x.answer) (state_values state) (λ r. record { answer = returned state r; out = out })
      (audit_writer_order lab records heads state out t) writer_numbers (write_audit lab records heads state out t)
  pub tree-root : (entries out : Bytes)
      → Decided (λ x. tree_reply x.answer) [] (λ r. record { answer = Err r; out = out }) (tree_root_order entries out) tree_numbers (tree_root entries out)
  pub tree-path : (entries label : Bytes) (absent : Bool) (out : Bytes)
      → Decided (λ x. tree_reply x.answer) [] (λ r. record { answer = Err r; out = out }) (tree_path_order entries label absent out) tree_numbers (tree_path entries label absent out)
