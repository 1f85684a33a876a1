-- What publishing comes to, from any tables: a success, with all that was read and tested, whose bytes lie in their places; or a refusal, which
-- leaves all as it was. Assumes nothing.
use mathlib.Core.Path.{◌≡◌, refl, sym, ap, ◌∙◌}
use mathlib.Core.Logic.{◌⊎◌, inl, inr, ⊎_elim}
use mathlib.Core.Bool.{true, ◌&&◌}
use mathlib.Core.List.{List, [], ◌∷◌, ◌++◌}
use Prim.Native.Nat.{ℕ, suc, ◌+◌, ◌*◌, ◌/◌, ◌%◌, ◌^◌, ◌<◌, ◌≤◌}
use native.Mathlib.Omega.{arith}
use lib.Dec.{eqb, leb}
use lib.ListN.{length, take, drop, length-map}
use borrow.Author.Tests.{leb-true}
use Rattle.fips.proofs.Size.{sha256-length}
use Rattle.paper.specs.Lists.{All, every}
use Rattle.paper.specs.Numbers.{wide, version_most, record_size, update_size, heads_most, INPUT, TABLE, refusal_number}
use Rattle.paper.specs.Bytes.{Bytes, Bytewise, pasted}
use Rattle.paper.specs.Strings.{head_string}
use Rattle.paper.specs.Labelling.{Labelling}
use Rattle.paper.specs.Layout.{Read, got, bad, seq, times, times_bytes, view, within, parse}
use Rattle.paper.specs.Verdict.{test}
use Rattle.paper.specs.Table.{Record, Update, record_field, update_field, records_within, heads_within, head_at, counted, head_of, head_digest}
use Rattle.paper.specs.Publish.{new_record, unpublished, appended, publish_tests, publish_table, publish_batch, batch_within, publish}
use Rattle.paper.specs.Effect.{added}
use Rattle.paper.specs.Answer.{publish_number}
use Rattle.paper.specs.declared.State.{State}
use Rattle.paper.specs.declared.Refusal.{Refusal}
use Rattle.paper.proofs.Lists.{every-all, and_left, and_right}
use Rattle.paper.proofs.Verdicts.{Hold, refusal-positive, verdict-cases}
use Rattle.paper.proofs.Accepted.{whole-behind}
use Rattle.paper.proofs.Layouts.{times-lawful, bytes-parse}
use Rattle.paper.proofs.Proofs.{update-lawful}
use Rattle.paper.proofs.Fit.{epoch-fit}
use Rattle.paper.proofs.Pasted.{part_at}
use Rattle.paper.proofs.Kept.{records-length}

-- an update in layout becomes a record in layout, unless its name is at 1,023
pub record-new : (lab : Labelling) (rs : List Record) (e : ℕ) (u : Update) → update_field.Fits u → (new_record lab rs e u).version ≤ version_most → e < 2 ^ 32 → record_field.Fits (new_record lab rs e u)
unfolding view seq within
record-new lab rs e u g v h = ((g.0.0, ((omega arith, v, omega arith), (epoch-fit e h, (g.0.1.0, g.0.1.1)))), refl)

-- updates that were read fit
pub updates-fit : (batch : Bytes) → Bytewise batch → (us : List Update) (r : Bytes) → parse (times (length batch / update_size) update_field) batch ≡ got us r → All update_field.Fits us
unfolding times
updates-fit batch b us r e = (bytes-parse (times-lawful (length batch / update_size) update-lawful) batch us r b e).0.1

module _ (lab : Labelling) (records heads : Bytes) (state : State) where
  -- ---- a success or a refusal

  -- a success from these counted records: updates that were read, all tests, and what is left
  pub record Success (batch : Bytes) (rs : List Record) : Type 0 where
    pub us : List Update
    pub read : parse (times (length batch / update_size) update_field) batch ≡ got us []
    pub heads-within : heads_within heads ≡ true
    pub holds : Hold (publish_tests lab records heads state rs us (added lab state rs us))
    pub leaves : publish lab records heads state batch ≡ appended lab records heads state rs (added lab state rs us)

  abbrev Succeeds : Bytes → Type 0
  Succeeds batch = (rs : List Record) × (counted records state.count ≡ got rs []) × Success batch rs

  abbrev Refuses : Bytes → Type 0
  Refuses batch = (r : Refusal) × (publish lab records heads state batch ≡ unpublished lab records heads state r)

  pub outcome : (batch : Bytes) → Succeeds batch ⊎ Refuses batch
  unfolding publish counted
  outcome batch = ⊎_elim
      (λ (h, q). reading (and_left _ _ (and_right (records_within records) _ h.0)) (parse (times (length batch / update_size) update_field) batch) refl q)
      (λ (n, f, q). inr (f.failed.refusal, q))
      (verdict-cases (unpublished lab records heads state) (publish_batch lab records heads state (parse (times (length batch / update_size) update_field) batch)) (test INPUT (records_within records && (heads_within heads && batch_within batch)) ∷ []))
    where
      tabled : heads_within heads ≡ true → (us : List Update) → parse (times (length batch / update_size) update_field) batch ≡ got us []
          → (m : Read (List Record)) → counted records state.count ≡ m → publish lab records heads state batch ≡ publish_table lab records heads state us m → Succeeds batch ⊎ Refuses batch
      tabled w us o bad p q = inr (TABLE, q)
      tabled w us o (got rs (x ∷ r)) p q = absurd (whole-behind ((times state.count record_field).read (take (state.count * record_size) records)) rs x r p)
      tabled w us o (got rs []) p q = ⊎_elim
          (λ (h, v). inl (rs, p, record { us = us; read = o; heads-within = w; holds = h; leaves = q ∙ v }))
          (λ (n, f, v). inr (f.failed.refusal, q ∙ v))
          (verdict-cases (unpublished lab records heads state) (appended lab records heads state rs (added lab state rs us)) (publish_tests lab records heads state rs us (added lab state rs us)))

      reading : heads_within heads ≡ true → (m : Read (List Update)) → parse (times (length batch / update_size) update_field) batch ≡ m → publish lab records heads state batch ≡ publish_batch lab records heads state m
          → Succeeds batch ⊎ Refuses batch
      reading w bad o q = inr (INPUT, q)
      reading w (got us []) o q = tabled w us o (counted records state.count) refl q
      reading w (got us (x ∷ r)) o q = absurd (whole-behind ((times (length batch / update_size) update_field).read batch) us x r o)

  pub success : (batch : Bytes) → publish_number (publish lab records heads state batch).answer ≡ 0 → Succeeds batch
  success batch e = ⊎_elim (λ w. w) (λ (r, q). let z : refusal_number r ≡ 0 = ap (λ y. publish_number y.answer) (sym q) ∙ e in absurd (omega (arith, refusal-positive r))) (outcome batch)

  -- ---- the bytes of a success

  -- the new records fit, as many as there are updates, and they and the new head lie in their tables
  pub record Placed (rs : List Record) (us : List Update) : Type 0 where
    pub fit : All record_field.Fits (added lab state rs us)
    pub count : length (added lab state rs us) ≡ length us
    pub size : length (times_bytes record_field.bytes (added lab state rs us)) ≡ length us * record_size
    pub records-room : state.count * record_size + length (times_bytes record_field.bytes (added lab state rs us)) ≤ length records
    pub head-size : length (head_digest lab heads (suc state.epoch) (rs ++ added lab state rs us)) ≡ wide
    pub heads-room : suc state.epoch * wide + length (head_digest lab heads (suc state.epoch) (rs ++ added lab state rs us)) ≤ length heads

  module _ (rs : List Record) (us : List Update) (fits : All update_field.Fits us) (w : heads_within heads ≡ true) (h : Hold (publish_tests lab records heads state rs us (added lab state rs us))) where
    abbrev more : List Record
    more = added lab state rs us

    full : leb ((state.count + length us) * record_size) (length records) && (leb ((state.epoch + 2) * wide) (length heads) && every (λ r. leb r.version version_most) more) ≡ true
    full = h.1.1.0

    full-room : (state.count + length us) * record_size ≤ length records
    full-room = leb-true _ _ (and_left _ _ full)

    full-slot : (state.epoch + 2) * wide ≤ length heads
    full-slot = leb-true _ _ (and_left _ _ (and_right (leb ((state.count + length us) * record_size) (length records)) _ full))

    versions : All (λ r. leb r.version version_most ≡ true) more
    versions = every-all _ more (and_right (leb ((state.epoch + 2) * wide) (length heads)) _ (and_right (leb ((state.count + length us) * record_size) (length records)) _ full))

    -- an epoch in the head table has few bits
    epoch-small : suc state.epoch < 2 ^ 32
    unfolding heads_within
    epoch-small =
        let n : length heads / wide ≤ heads_most = leb-true _ heads_most (and_right (leb 1 (length heads / wide)) _ (and_right (eqb (length heads % wide) 0) _ w)) in
        omega (arith, full-slot)

    new-fit : (u : Update) → update_field.Fits u → leb (new_record lab rs (suc state.epoch) u).version version_most ≡ true → record_field.Fits (new_record lab rs (suc state.epoch) u)
    new-fit u g v = record-new lab rs (suc state.epoch) u g (leb-true _ version_most v) epoch-small

    more-fit : All record_field.Fits more
    more-fit = go us fits versions
      where
        go : (us : List Update) → All update_field.Fits us → All (λ r. leb r.version version_most ≡ true) (added lab state rs us) → All record_field.Fits (added lab state rs us)
        go [] f v = tt
        go (u ∷ us) f v = (new-fit u f.0 v.0, go us f.1 v.1)

    pub tested-placed : Placed rs us
    tested-placed =
        let n : length more ≡ length us = length-map us (new_record lab rs (suc state.epoch)) in
        let z : length (times_bytes record_field.bytes more) ≡ length us * record_size = records-length more more-fit ∙ ap (λ n. n * record_size) n in
        let d = sha256-length (head_string (head_of lab heads (suc state.epoch) (rs ++ more))) in
        record { fit = more-fit; count = n; size = z; records-room = omega (arith, full-room); head-size = d; heads-room = omega (arith, full-slot) }

  module _ (batch : Bytes) (bytes : Bytewise batch) (rs : List Record) (x : Success batch rs) where
    pub placed : Placed rs x.us
    placed = tested-placed rs x.us (updates-fit batch bytes x.us [] x.read) x.heads-within x.holds

    -- the new head stands in its slot
    pub head-new : head_at (pasted heads (suc state.epoch * wide) (head_digest lab heads (suc state.epoch) (rs ++ added lab state rs x.us))) (suc state.epoch)
        ≡ head_digest lab heads (suc state.epoch) (rs ++ added lab state rs x.us)
    unfolding head_at
    head-new =
        let at = suc state.epoch * wide in
        let d = head_digest lab heads (suc state.epoch) (rs ++ added lab state rs x.us) in
        ap (λ w. take w (drop at (pasted heads at d))) (sym placed.head-size) ∙ part_at heads at d placed.heads-room
