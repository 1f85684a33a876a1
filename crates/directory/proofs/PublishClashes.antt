-- Publishing refuses by 7 only where two different label strings have one digest. Assumes nothing.
use mathlib.Core.Path.{◌≡◌, refl, sym, ap, ◌∙◌, subst}
use mathlib.Core.Logic.{⊎_elim}
use mathlib.Core.Bool.{true, false, ◌&&◌}
use mathlib.Core.List.{List, [], ◌∷◌, ◌++◌}
use Prim.Native.Nat.{ℕ, suc, ◌+◌, ◌*◌, ◌/◌, ◌≤◌}
use native.Mathlib.Omega.{arith}
use lib.Dec.{leb}
use lib.ListN.{length, take}
use borrow.Author.Tests.{leb-true}
use Rattle.paper.specs.Lists.{All, every}
use Rattle.paper.specs.Numbers.{wide, version_most, record_size, update_size, INPUT, TABLE, TWICE, FULL, CLASH, refusal_number}
use Rattle.paper.specs.Bytes.{Bytes, Bytewise}
use Rattle.paper.specs.Labelling.{Labelling, Telling}
use Rattle.paper.specs.Layout.{Read, got, bad, times, parse}
use Rattle.paper.specs.Verdict.{Test, test}
use Rattle.paper.specs.Table.{Record, Update, record_field, update_field, records_within, heads_within, counted, head_lies, in_shape, all_at, old_at, distinct}
use Rattle.paper.specs.Publish.{unpublished, appended, publish_tests, publish_table, publish_batch, batch_within, publish}
use Rattle.paper.specs.Effect.{added}
use Rattle.paper.specs.Answer.{publish_number}
use Rattle.paper.specs.declared.State.{State}
use Rattle.paper.proofs.Lists.{all_in, in-all, all_append, all_take, every-all, not-both, and_right}
use Rattle.paper.proofs.Verdicts.{FirstFails, no-first, first-cons, verdict-cases}
use Rattle.paper.proofs.Layouts.{times-lawful, bytes-parse}
use Rattle.paper.proofs.Proofs.{record-lawful}
use Rattle.paper.proofs.Accepted.{whole-behind}
use Rattle.paper.proofs.Leaves.{record-fits}
use Rattle.paper.proofs.Shape.{published-shape}
use Rattle.directory.specs.Clash.{PublishClash}
use Rattle.directory.proofs.Apart.{clear-or-collide}

-- a test of another number is not the first that fails
passed : (t : Test) (ts : List Test) (n : ℕ) → ¬ (refusal_number t.refusal ≡ n) → FirstFails (t ∷ ts) n → (t.holds ≡ true) × FirstFails ts n
passed t ts n d f = ⊎_elim (λ (h, q). absurd (d q)) (λ w. w) ((first-cons t ts n).0 f)

module _ (lab : Labelling) (telling : Telling lab) (records heads : Bytes) (state : State) (batch : Bytes) (bytes : Bytewise records) where
  counted-few : (rs : List Record) → counted records state.count ≡ got rs [] → All (λ r. r.version ≤ version_most) rs
  unfolding counted times
  counted-few rs e =
      let (f, q) = bytes-parse (times-lawful state.count record-lawful) (take (state.count * record_size) records) rs [] (all_take _ (state.count * record_size) records bytes) e in
      in-all (λ r. r.version ≤ version_most) rs (λ r m. (record-fits r (all_in record_field.Fits rs f.1 r m)).most)

  -- the tests before the last hold, and the last fails
  tests : (rs : List Record) (us : List Update) → counted records state.count ≡ got rs [] → parse (times (length batch / update_size) update_field) batch ≡ got us []
      → FirstFails (publish_tests lab records heads state rs us (added lab state rs us)) (refusal_number CLASH) → PublishClash lab records state batch
  tests rs us p o f =
      let more : List Record = added lab state rs us in
      let (a, g) = passed (test TABLE _) _ (refusal_number CLASH) (λ q. omega (arith, q)) f in
      let (b, h) = passed (test TWICE _) _ (refusal_number CLASH) (λ q. omega (arith, q)) g in
      let (c, k) = passed (test FULL _) _ (refusal_number CLASH) (λ q. omega (arith, q)) h in
      let shape : in_shape lab (suc state.epoch) [] (rs ++ more) ≡ true = published-shape lab state.epoch rs (and_right (head_lies heads state.epoch) _ a) us b in
      let v : every (λ r. leb r.version version_most) more ≡ true = and_right (leb ((state.epoch + 2) * wide) (length heads)) _ (and_right (leb ((state.count + length us) * record_size) (length records)) _ c) in
      let few : All (λ r. r.version ≤ version_most) (rs ++ more) = all_append (λ r. r.version ≤ version_most) rs more (counted-few rs p)
      (in-all (λ r. r.version ≤ version_most) more (λ r m. leb-true r.version version_most (all_in _ more (every-all _ more v) r m))) in
      let fails : distinct (all_at lab (suc state.epoch) (rs ++ more)) && distinct (old_at lab (suc state.epoch) (rs ++ more)) ≡ false =
      ⊎_elim (λ (z, _). z) (λ (_, n). absurd (no-first (refusal_number CLASH) n)) ((first-cons (test CLASH _) [] (refusal_number CLASH)).0 k) in
      record {
        rs = rs;
        us = us;
        records-read = p;
        batch-read = o;
        strings = ⊎_elim (λ clear. not-both clear fails) (λ w. w) (clear-or-collide lab telling (suc state.epoch) (suc state.epoch) (rs ++ more) shape few);
      }

  -- "7 | .. two leaves of a needed tree share a label": in publishing, only where two different label strings have one digest
  pub publish-clash : publish_number (publish lab records heads state batch).answer ≡ refusal_number CLASH → PublishClash lab records state batch
  unfolding publish counted
  publish-clash e = ⊎_elim
      (λ (h, q). reading (parse (times (length batch / update_size) update_field) batch) refl (ap (λ x. publish_number x.answer) (sym q) ∙ e))
      (λ (n, f, q). let z : n ≡ refusal_number CLASH = sym f.number ∙ ap (λ x. publish_number x.answer) (sym q) ∙ e in absurd (no-first n (passed (test INPUT _) [] n (λ i. omega (arith, i, z)) f).1))
      (verdict-cases (unpublished lab records heads state) (publish_batch lab records heads state (parse (times (length batch / update_size) update_field) batch)) (test INPUT (records_within records && (heads_within heads && batch_within batch)) ∷ []))
    where
      tabled : (us : List Update) → parse (times (length batch / update_size) update_field) batch ≡ got us [] → (m : Read (List Record)) → counted records state.count ≡ m
          → publish_number (publish_table lab records heads state us m).answer ≡ refusal_number CLASH → PublishClash lab records state batch
      tabled us o bad p e = absurd (omega (arith, e))
      tabled us o (got rs (x ∷ r)) p e = absurd (whole-behind ((times state.count record_field).read (take (state.count * record_size) records)) rs x r p)
      tabled us o (got rs []) p e = ⊎_elim
          (λ (h, q). let z : 0 ≡ refusal_number CLASH = ap (λ x. publish_number x.answer) (sym q) ∙ e in absurd (omega (arith, z)))
          (λ (n, f, q). tests rs us p o (subst (FirstFails (publish_tests lab records heads state rs us (added lab state rs us))) (sym f.number ∙ ap (λ x. publish_number x.answer) (sym q) ∙ e) f))
          (verdict-cases (unpublished lab records heads state) (appended lab records heads state rs (added lab state rs us)) (publish_tests lab records heads state rs us (added lab state rs us)))

      reading : (m : Read (List Update)) → parse (times (length batch / update_size) update_field) batch ≡ m → publish_number (publish_batch lab records heads state m).answer ≡ refusal_number CLASH → PublishClash lab records state batch
      reading bad o e = absurd (omega (arith, e))
      reading (got us []) o e = tabled us o (counted records state.count) refl e
      reading (got us (x ∷ r)) o e = absurd (whole-behind ((times (length batch / update_size) update_field).read batch) us x r o)
