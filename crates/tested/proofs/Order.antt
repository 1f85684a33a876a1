-- The order of the tests, "1, 11, 10, 7, 8", for any writer: the first three refuse, or what remains is weighed. Assumes nothing.
use Rattle.std.specs.Prelude.{Result, Ok, Err}
use mathlib.Core.Path.{◌≡◌, refl, sym, ap, ◌∙◌}
use mathlib.Core.Bool.{Bool, ◌&&◌, and-false}
use mathlib.Core.List.{List, [], ◌∷◌}
use Prim.Native.Nat.{ℕ}
use lib.Dec.{leb}
use Rattle.paper.specs.Numbers.{TABLE, EPOCH}
use Rattle.paper.specs.Bytes.{Bytes}
use Rattle.paper.specs.Labelling.{plain}
use Rattle.paper.specs.Layout.{Read, got, bad}
use Rattle.paper.specs.Verdict.{test, verdict}
use Rattle.paper.specs.Table.{Record, counted, head_lies}
use Rattle.paper.specs.Write.{Written, unwritten, write_read, write_with}
use Rattle.paper.specs.declared.State.{State}
use Rattle.paper.specs.declared.Refusal.{Refusal}
use Rattle.paper.proofs.Verdicts.{verdict-all, verdict-alike}
use Rattle.record.specs.Places.{records_in}
use Rattle.table.specs.Shape.{shaped, shaped_read}
use Rattle.tested.specs.Tested.{input_good, first_tests, Tested, weighed}
use Rattle.tested.proofs.First.{all_hold, err-not-ok, err-same}

module _ (records heads : Bytes) (state : State) (out : Bytes) (good : Bool) (t : ℕ) (clear : List Record → Bool) (proof : List Record → Bytes) where
  abbrev left : Written
  left = write_with plain records heads state out good t clear proof

  abbrev refuse : Refusal → Written
  refuse = unwritten plain records heads state out

  abbrev rest : Read (List Record) → Written
  rest bad = refuse TABLE
  rest (got rs r) = weighed state out (clear rs) (proof rs)

  read_is : (m : Read (List Record)) → write_read plain records heads state out t clear proof m
      ≡ verdict refuse (rest m) (test TABLE (head_lies heads state.epoch && shaped_read state.epoch m) ∷ test EPOCH (leb t state.epoch) ∷ [])
  unfolding verdict weighed
  read_is bad = rw and-false refl
  read_is (got rs r) = refl

  -- the first three, and then the rest
  order : left ≡ verdict refuse (rest (counted records state.count)) (first_tests records heads state t good)
  unfolding write_with verdict input_good shaped
  order = rw (read_is (counted records state.count)) refl

  module _ (r : Result (Unit {0}) Refusal) (h : Tested records heads state t good r) where
    pub refused : (e : Refusal) → r ≡ Err e → left ≡ refuse e
    refused e q =
        order
        ∙ verdict-alike (λ m w. m ≡ Err e → w ≡ refuse e) Err (Ok tt) refuse (rest (counted records state.count)) (first_tests records heads state t good)
        (λ m k. ap refuse (err-same m e k)) (λ k z. absurd (err-not-ok e (sym z))) (sym h.is ∙ q)

    pub passed : r ≡ Ok tt → left ≡ weighed state out (clear (records_in state.count records)) (proof (records_in state.count records))
    passed z = order ∙ verdict-all refuse (rest (counted records state.count)) (first_tests records heads state t good) (all_hold records heads state t good (sym h.is ∙ z)) ∙ ap rest (h.sound z).shaped.read
