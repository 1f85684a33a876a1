-- "Writers test 1, 11, 10, 7, 8.": which of the first three refuses, what is known where none does, and what remains then.
use Rattle.std.specs.Prelude.{◌≡◌, Bool, ◌&&◌, List, [], ◌∷◌, ℕ, ◌≤◌, Result, Ok, Err, leb, length}
use Rattle.paper.specs.Numbers.{records_most, INPUT, TABLE, EPOCH, CLASH, ROOM}
use Rattle.paper.specs.Bytes.{Bytes, pasted}
use Rattle.paper.specs.Verdict.{Test, test, verdict}
use Rattle.paper.specs.Table.{records_within, heads_within}
use Rattle.paper.specs.Write.{Written}
use Rattle.paper.specs.declared.State.{State}
use Rattle.paper.specs.Answer.{written, returned}
use Rattle.paper.specs.declared.Refusal.{Refusal}
use Rattle.table.specs.Shape.{shaped, Shaped}

-- "1 INPUT", with what a writer asks of its own argument
unfoldable pub input_good : Bytes → Bytes → Bool → Bool
input_good records heads good = records_within records && (heads_within heads && good)

module _ (records heads : Bytes) (state : State) (t : ℕ) where
  abbrev pub first_tests : Bool → List Test
  first_tests good =
      test INPUT (input_good records heads good)
      ∷ test TABLE (shaped records heads state.count state.epoch)
      ∷ test EPOCH (leb t state.epoch)
      ∷ []

  -- the first that refuses, if any does
  abbrev pub first_refusal : Bool → Result (Unit {0}) Refusal
  first_refusal good = verdict Err (Ok tt) (first_tests good)

  -- what is known of tables and epoch where none refuses
  pub record Sound : Type 0 where
    pub shaped : Shaped records heads state.count state.epoch
    pub by : t ≤ state.epoch
    pub few : state.count ≤ records_most

  pub record Tested (good : Bool) (r : Result (Unit {0}) Refusal) : Type 0 where
    pub is : r ≡ first_refusal good
    pub sound : r ≡ Ok tt → Sound

-- what remains: a proof is written if its tests of 7 pass and it has room
unfoldable pub weighed : State → Bytes → Bool → Bytes → Written
weighed state out clear proof =
    verdict (λ r. record { answer = returned state r; out = out }) (record { answer = written (length proof) state; out = pasted out 0 proof }) (test CLASH clear ∷ test ROOM (leb (length proof) (length out)) ∷ [])
