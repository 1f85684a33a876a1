-- What a writer's answer says: it answers only where every test holds. Assumes nothing.
use mathlib.Core.Path.{◌≡◌, sym, ap, ◌∙◌}
use mathlib.Core.Logic.{⊎_elim}
use mathlib.Core.Bool.{Bool, true, ◌&&◌}
use mathlib.Core.List.{List, []}
use Prim.Native.Nat.{ℕ, ◌+◌}
use native.Mathlib.Omega.{arith}
use lib.Dec.{leb}
use lib.ListN.{length, take, drop}
use lib.Seq.{take_at}
use borrow.Author.Tests.{leb-true}
use Rattle.paper.specs.Bytes.{Bytes, pasted}
use Rattle.paper.specs.Labelling.{Labelling}
use Rattle.paper.specs.Layout.{got}
use Rattle.paper.specs.Table.{Record, records_within, heads_within, counted, head_lies, in_shape}
use Rattle.paper.specs.Write.{Written, Wrote, unwritten, write_read, write_with}
use Rattle.paper.specs.declared.State.{State}
use Rattle.paper.specs.Answer.{WriteAnswer, written, returned, value_at, write_reply}
use Rattle.paper.specs.declared.Refusal.{Refusal}
use Rattle.paper.proofs.Lists.{and_left, and_right}
use Rattle.paper.proofs.Verdicts.{verdict-cases}

module _ (lab : Labelling) (records heads : Bytes) (state : State) (out : Bytes) (input : Bool) (t : ℕ) (clear : List Record → Bool) (proof : List Record → Bytes) where
  abbrev left : Written
  left = write_with lab records heads state out input t clear proof

  -- the tests before the records are read, and those after
  pub answered : (rs : List Record) → counted records state.count ≡ got rs [] → (n : ℕ) (s : State) → left.answer ≡ written n s → Wrote lab records heads state out input t clear proof rs n
  unfolding write_with pasted
  answered rs read n s e = ⊎_elim
      (λ (g, q). ⊎_elim
      (λ (k, v). done g.0 k.0 k.1.0 k.1.1.0 k.1.1.1.0 (q ∙ got_read ∙ v))
      (λ (_, f, v). absurd (no f.failed.refusal (q ∙ got_read ∙ v)))
      (verdict-cases (unwritten lab records heads state out) wrote _))
      (λ (_, f, q). absurd (no f.failed.refusal q))
      (verdict-cases (unwritten lab records heads state out) (write_read lab records heads state out t clear proof (counted records state.count)) _)
    where
      wrote : Written
      wrote = record { answer = written (length (proof rs)) state; out = pasted out 0 (proof rs) }

      got_read : write_read lab records heads state out t clear proof (counted records state.count) ≡ write_read lab records heads state out t clear proof (got rs [])
      got_read = ap (write_read lab records heads state out t clear proof) read

      no : (m : Refusal) → left ≡ unwritten lab records heads state out m → ⊥
      no m q =
          let a : ◌≡◌ {A = WriteAnswer} (returned state m) (written n s) = ap (λ w. w.answer) (sym q) ∙ e in
          let z : ◌≡◌ {A = ℕ} 0 1 = cc in omega arith

      done : (records_within records && (heads_within heads && input)) ≡ true → (head_lies heads state.epoch && in_shape lab state.epoch [] rs) ≡ true
          → leb t state.epoch ≡ true → clear rs ≡ true → leb (length (proof rs)) (length out) ≡ true → left ≡ wrote
          → Wrote lab records heads state out input t clear proof rs n
      done g h k c l q =
          let a : ◌≡◌ {A = WriteAnswer} (written (length (proof rs)) state) (written n s) = ap (λ w. w.answer) (sym q) ∙ e in
          let m : length (proof rs) ≡ n = ap (λ w. value_at 2 (write_reply w)) a in
          let g' = and_right (records_within records) _ g in
          record {
            records-within = and_left _ _ g;
            heads-within = and_left _ _ g';
            input-good = and_right (heads_within heads) _ g';
            lies = and_left _ _ h;
            shape = and_right (head_lies heads state.epoch) _ h;
            reached = leb-true t state.epoch k;
            unclashed = c;
            room = omega (arith, leb-true (length (proof rs)) (length out) l);
            bytes = ap (λ w. take n w.out) q ∙ take_at (proof rs) (drop (0 + length (proof rs)) out) n m;
          }
