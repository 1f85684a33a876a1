-- The bytes that a writer says it wrote lie in the output. Assumes nothing.
use mathlib.Core.Path.{◌≡◌, sym, subst}
use mathlib.Core.Logic.{⊎_elim}
use mathlib.Core.Bool.{Bool, ◌&&◌}
use mathlib.Core.List.{List, [], ◌∷◌}
use Prim.Native.Nat.{ℕ}
use native.Mathlib.Omega.{arith}
use lib.Dec.{leb}
use lib.ListN.{length}
use borrow.Author.Tests.{leb-true}
use Rattle.paper.specs.Numbers.{INPUT, TABLE, EPOCH, CLASH, ROOM}
use Rattle.paper.specs.Bytes.{Bytes, pasted}
use Rattle.paper.specs.Verdict.{test}
use Rattle.paper.specs.Labelling.{plain}
use Rattle.paper.specs.Layout.{Read, got, bad}
use Rattle.paper.specs.Table.{Record, records_within, heads_within, counted, head_lies, in_shape}
use Rattle.paper.specs.Write.{Written, unwritten, write_read, write_with}
use Rattle.paper.specs.declared.State.{State}
use Rattle.paper.specs.Answer.{WriteAnswer, written}
use Rattle.paper.specs.declared.Refusal.{Refusal}
use Rattle.paper.proofs.Verdicts.{verdict-cases}
use Rattle.writer_calls.specs.Inside.{Inside}

module _ (records heads : Bytes) (state : State) (out : Bytes) where
  abbrev Fits : Written → Type 0
  Fits w = Inside w.answer out

  abbrev refuse : Refusal → Written
  refuse n = unwritten plain records heads state out n

  read-within : (t : ℕ) (clear : List Record → Bool) (proof : List Record → Bytes) (m : Read (List Record)) → Fits (write_read plain records heads state out t clear proof m)
  read-within t clear proof bad = omega arith
  read-within t clear proof (got rs r) = ⊎_elim
      (λ (h, q). subst Fits (sym q) (leb-true (length (proof rs)) (length out) h.1.1.1.0))
      (λ (n, f, q). subst Fits (sym q) (omega arith))
      (verdict-cases refuse (record { answer = written (length (proof rs)) state; out = pasted out 0 (proof rs) })
      (test TABLE (head_lies heads state.epoch && in_shape plain state.epoch [] rs)
      ∷ test EPOCH (leb t state.epoch)
      ∷ test CLASH (clear rs)
      ∷ test ROOM (leb (length (proof rs)) (length out))
      ∷ []))

  pub write-within : (input : Bool) (t : ℕ) (clear : List Record → Bool) (proof : List Record → Bytes) → Fits (write_with plain records heads state out input t clear proof)
  unfolding write_with
  write-within input t clear proof = ⊎_elim
      (λ (h, q). subst Fits (sym q) (read-within t clear proof (counted records state.count)))
      (λ (n, f, q). subst Fits (sym q) (omega arith))
      (verdict-cases refuse (write_read plain records heads state out t clear proof (counted records state.count)) (test INPUT (records_within records && (heads_within heads && input)) ∷ []))

  -- the same of an output afterwards, which is as long
  pub proof-within : (answer : WriteAnswer) (o : Bytes) (w : Written) → record { answer = answer; out = o } ≡ w → Fits w → length o ≡ length out → Inside answer o
  proof-within answer o w e f l = rw l (subst Fits (sym e) f)
