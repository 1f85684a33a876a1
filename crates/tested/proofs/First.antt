-- What is known where a test passes, and where all three do. Assumes nothing.
use Rattle.std.specs.Prelude.{Result, Ok, Err}
use mathlib.Core.Path.{◌≡◌, sym, ◌∙◌}
use mathlib.Core.Logic.{⊎_elim}
use mathlib.Core.Bool.{Bool, true}
use Prim.Native.Nat.{ℕ, suc, ◌*◌, ◌/◌, ◌%◌, ◌≤◌}
use native.Mathlib.Omega.{arith}
use lib.Dec.{eqb}
use lib.ListN.{length}
use borrow.Author.Tests.{eqb-true, leb-true}
use Rattle.paper.specs.Bytes.{Bytes, Bytewise}
use Rattle.paper.specs.Table.{records_within, heads_within, head_lies}
use Rattle.paper.specs.declared.State.{State}
use Rattle.paper.specs.declared.Refusal.{Refusal}
use Rattle.paper.proofs.Lists.{and_left, and_right}
use Rattle.paper.proofs.Verdicts.{Hold, verdict-cases}
use Rattle.table.proofs.Shapes.{shaped-told}
use Rattle.tested.specs.Tested.{input_good, first_tests, first_refusal, Sound, Tested}

-- a refusal is no success
pub err-not-ok : (r : Refusal) → ◌≡◌ {A = Result (Unit {0}) Refusal} (Err r) (Ok tt) → ⊥
err-not-ok r e = let z : ◌≡◌ {A = ℕ} 0 1 = cc in omega arith

-- and says which
pub err-same : (r e : Refusal) → ◌≡◌ {A = Result (Unit {0}) Refusal} (Err r) (Err e) → r ≡ e
err-same r e k = cc

pub records-few : (records heads : Bytes) (good : Bool) → input_good records heads good ≡ true → length records ≤ 4096 * 168
unfolding input_good records_within
records-few records heads good e =
    let w = and_left (records_within records) _ e in
    omega (arith, eqb-true (length records % 168) 0 (and_left _ _ w), leb-true (length records / 168) 4096 (and_right (eqb (length records % 168) 0) _ w))

module _ (records heads : Bytes) (state : State) (t : ℕ) (good : Bool) where
  -- all hold where none refuses
  pub all_hold : first_refusal records heads state t good ≡ Ok tt → Hold (first_tests records heads state t good)
  all_hold e = ⊎_elim (λ w. w.0) (λ (n, f, q). absurd (err-not-ok f.failed.refusal (sym q ∙ e))) (verdict-cases Err (Ok tt) (first_tests records heads state t good))

  pub tested : Bytewise records → (r : Result (Unit {0}) Refusal) → r ≡ first_refusal records heads state t good → Tested records heads state t good r
  tested w r e = record { is = e; sound = λ z. sound (all_hold (sym e ∙ z)) }
    where
      sound : Hold (first_tests records heads state t good) → Sound records heads state t
      sound h =
          let s = shaped-told records heads state.count state.epoch w h.1.0 in
          record { shaped = s; by = leb-true t state.epoch h.1.1.0; few = omega (arith, s.room, records-few records heads good h.0) }

  -- what was asked of the writer's own argument holds
  pub argument-good : (r : Result (Unit {0}) Refusal) → Tested records heads state t good r → r ≡ Ok tt → good ≡ true
  unfolding input_good
  argument-good r h z = and_right (heads_within heads) _ (and_right (records_within records) _ (all_hold (sym h.is ∙ z)).0)

-- the head table reaches to the epoch before
pub heads-reach : (records heads : Bytes) (state : State) (t : ℕ) → Sound records heads state t → t * 32 ≤ length heads
unfolding head_lies
heads-reach records heads state t h = omega (arith, leb-true (suc state.epoch * 32) (length heads) h.shaped.lies, h.by)
