-- What publishing and start do not read: records past the count, and heads other than the current one. Tables that are alike in all else
-- give the same answer, and the same bytes are written into them. Stated once over the labelling. Assumes nothing.
use Rattle.std.specs.Prelude.{Ok, Err}
use mathlib.Core.Path.{◌≡◌, refl, sym, ap, ◌∙◌, subst}
use mathlib.Core.Logic.{by_cases}
use mathlib.Core.Bool.{true, ◌&&◌}
use mathlib.Core.List.{List, [], ◌∷◌, ◌++◌}
use Prim.Native.Nat.{ℕ, suc, ◌+◌, ◌*◌, ◌/◌, ◌%◌, ◌≤◌}
use native.Mathlib.Omega.{arith}
use native.Mathlib.Decide.{dec_le}
use lib.Dec.{eqb, leb}
use lib.ListN.{length, take, length-take}
use borrow.Author.Tests.{leb-true}
use Rattle.fips.specs.Sha256.{sha256}
use Rattle.fips.proofs.Size.{sha256-length}
use Rattle.paper.specs.Lists.{All}
use Rattle.paper.specs.Numbers.{wide, record_size, update_size, heads_most, INPUT, TABLE}
use Rattle.paper.specs.Bytes.{Bytes, Bytewise}
use Rattle.paper.specs.Strings.{head_string}
use Rattle.paper.specs.Labelling.{Labelling}
use Rattle.paper.specs.Tree.{root_digest}
use Rattle.paper.specs.Layout.{Read, got, bad, times, times_bytes, parse}
use Rattle.paper.specs.Verdict.{test, verdict}
use Rattle.paper.specs.Table.{Record, Update, record_field, update_field, records_within, heads_within, counted, head_lies, in_shape, all_at, old_at, head_digest}
use Rattle.paper.specs.Publish.{start, Published, unpublished, appended, publish_tests, publish_table, publish_batch, batch_within, publish}
use Rattle.paper.specs.Effect.{Alike, SamePublished, publish_leaves, StartReads, start_leaves, added}
use Rattle.paper.specs.declared.State.{State}
use Rattle.paper.specs.Answer.{StartAnswer, PublishAnswer, returned}
use Rattle.paper.specs.declared.Refusal.{Refusal}
use Rattle.paper.proofs.Lists.{all_take, and_left, and_right}
use Rattle.paper.proofs.Verdicts.{Hold, verdict-alike}
use Rattle.paper.proofs.Layouts.{times-lawful, bytes-parse}
use Rattle.paper.proofs.Proofs.{record-lawful}
use Rattle.paper.proofs.Kept.{records-length}
use Rattle.paper.proofs.Success.{tested-placed, updates-fit}

-- ---- the counted records lie in the table, or are not read

counted-lie : (records : Bytes) (n : ℕ) → Bytewise records → (rs : List Record) (r : Bytes) → counted records n ≡ got rs r → n * record_size ≤ length records
unfolding counted times
counted-lie records n w rs r e =
    let (f, q) = bytes-parse (times-lawful n record-lawful) (take (n * record_size) records) rs r (all_take _ (n * record_size) records w) e in
    omega (arith, f.0, records-length rs f.1, ap length q, length-take (n * record_size) records)

not-counted : (records : Bytes) (n : ℕ) → Bytewise records → ¬ (n * record_size ≤ length records) → counted records n ≡ bad
not-counted records n w h = go (counted records n) refl
  where
    go : (m : Read (List Record)) → counted records n ≡ m → m ≡ bad
    go bad e = refl
    go (got rs r) e = absurd (h (counted-lie records n w rs r e))

module _ (lab : Labelling) (state : State) (records heads records' heads' : Bytes) (alike : Alike state records heads records' heads') where
  counted_same : counted records state.count ≡ counted records' state.count
  unfolding counted
  counted_same = by_cases (dec_le (state.count * record_size) (length records))
      (λ l. ap (parse (times state.count record_field)) (alike.counted-records l))
      (λ l. not-counted records state.count alike.bytes l ∙ sym (not-counted records' state.count alike.bytes' (λ k. l (omega (arith, alike.records-length)))))

  -- ---- the same tests

  input-same : (batch : Bytes) → (records_within records && (heads_within heads && batch_within batch)) ≡ (records_within records' && (heads_within heads' && batch_within batch))
  unfolding records_within heads_within
  input-same batch = rw (alike.records-length, alike.heads-length)

  tests_same : (rs : List Record) (us : List Update) (more : List Record) → publish_tests lab records heads state rs us more ≡ publish_tests lab records' heads' state rs us more
  unfolding head_lies
  tests_same rs us more = rw (alike.records-length, alike.heads-length)

  -- ---- the same is written

  abbrev Same : Published → Published → Type 0
  Same = SamePublished state records heads records' heads'

  refused : (r : Refusal) → Same (unpublished lab records heads state r) (unpublished lab records' heads' state r)
  refused r = record { answer = returned state r; more = []; head = []; size = λ next e. no-success next e; one_left = refl; other-left = refl }
    where
      no-success : {A : Type 0} (next : State) → ◌≡◌ {A = PublishAnswer} (returned state r) (Ok next) → A
      no-success next e = let z : ◌≡◌ {A = ℕ} 0 1 = cc in absurd (omega arith)

  -- the head's string has no other part of the head table than the current head
  head-same : (rs : List Record) → suc state.epoch * wide ≤ length heads → head_digest lab heads' (suc state.epoch) rs ≡ head_digest lab heads (suc state.epoch) rs
  head-same rs l =
      let e = suc state.epoch in
      ap (λ p. sha256 (head_string (record { epoch = e; previous = p; all = root_digest (all_at lab e rs); old = root_digest (old_at lab e rs) }))) (sym (alike.current-head l))

  appended-same : (rs : List Record) (us : List Update) → All update_field.Fits us → heads_within heads ≡ true → Hold (publish_tests lab records heads state rs us (added lab state rs us))
      → Same (appended lab records heads state rs (added lab state rs us)) (appended lab records' heads' state rs (added lab state rs us))
  unfolding head_lies
  appended-same rs us f w h =
      let l : suc state.epoch * wide ≤ length heads = leb-true _ _ (and_left _ (in_shape lab state.epoch [] rs) h.0) in
      record {
        answer = Ok next;
        more = bytes;
        head = head_digest lab heads (suc state.epoch) (rs ++ more);
        size = sizes;
        one_left = refl;
        other-left = ap (λ d. publish_leaves state (Ok next) bytes d records' heads') (head-same (rs ++ more) l);
      }
    where
      more : List Record
      more = added lab state rs us

      bytes : Bytes
      bytes = times_bytes record_field.bytes more

      next : State
      next = record { count = state.count + length more; epoch = suc state.epoch }

      sizes : (s : State) → ◌≡◌ {A = PublishAnswer} (Ok next) (Ok s) → (state.count * record_size + length bytes ≡ s.count * record_size) × (length (head_digest lab heads (suc state.epoch) (rs ++ more)) ≡ wide)
      sizes s e =
          let p = tested-placed lab records heads state rs us f w h in
          let q : next.count ≡ s.count = cc in
          (omega (arith, p.size, p.count, q), p.head-size)

  table_same : (us : List Update) → All update_field.Fits us → heads_within heads ≡ true → (m : Read (List Record)) → Same (publish_table lab records heads state us m) (publish_table lab records' heads' state us m)
  table_same us f w bad = refused TABLE
  table_same us f w (got rs r) =
      let more = added lab state rs us in
      let ts = publish_tests lab records heads state rs us more in
      subst (λ l. Same (verdict (unpublished lab records heads state) (appended lab records heads state rs more) ts) (verdict (unpublished lab records' heads' state) (appended lab records' heads' state rs more) l))
      (tests_same rs us more) (verdict-alike Same _ _ _ _ ts refused (appended-same rs us f w))

  batch-same : (m : Read (List Update)) → ((us : List Update) (r : Bytes) → m ≡ got us r → All update_field.Fits us) → heads_within heads ≡ true
      → Same (publish_batch lab records heads state m) (publish_batch lab records' heads' state m)
  batch-same bad f w = refused INPUT
  batch-same (got us r) f w =
      subst (λ m. Same (publish_table lab records heads state us (counted records state.count)) (publish_table lab records' heads' state us m)) counted_same
      (table_same us (f us r refl) w (counted records state.count))

  -- "Records past the count are not read." "A previous head is read from the head table, and no other head is."
  pub publish-unread : (batch : Bytes) → Bytewise batch → SamePublished state records heads records' heads' (publish lab records heads state batch) (publish lab records' heads' state batch)
  unfolding publish
  publish-unread batch b =
      let m = parse (times (length batch / update_size) update_field) batch in
      let ts = test INPUT (records_within records && (heads_within heads && batch_within batch)) ∷ [] in
      subst
      (λ t. Same (publish lab records heads state batch) (verdict (unpublished lab records' heads' state) (publish_batch lab records' heads' state m) (test INPUT t ∷ []))) (input-same batch)
      (verdict-alike Same _ _ _ _ ts refused (λ h. batch-same m (updates-fit batch b) (and_left _ _ (and_right (records_within records) _ h.0))))

  -- in particular the answers are the same
  pub answer-unread : (batch : Bytes) → Bytewise batch → (publish lab records heads state batch).answer ≡ (publish lab records' heads' state batch).answer
  answer-unread batch b =
      let x = publish-unread batch b in
      ap (λ y. y.answer) x.one_left ∙ told x.answer x.more x.head ∙ ap (λ y. y.answer) (sym x.other-left)
    where
      told : (a : PublishAnswer) (more head : Bytes) → (publish_leaves state a more head records heads).answer ≡ (publish_leaves state a more head records' heads').answer
      told (Ok next) more head = refl
      told (Err e) more head = refl

-- ---- start

-- "Starting a directory tests 1 only and writes head 0; it has no records."
pub start-unread : (lab : Labelling) → StartReads lab
unfolding start heads_within
start-unread lab = record {
  answer = answer;
  head = head_digest lab [] 0 [];
  size = sha256-length _;
  leaves = λ heads. verdict-alike (λ x a. x ≡ start_leaves a (head_digest lab [] 0 []) heads) _ _ Err (Ok none) (test INPUT (heads_within heads) ∷ []) (λ n. refl) (λ h. refl);
}
  where
    none : State
    none = record { count = 0; epoch = 0 }

    answer : ℕ → StartAnswer
    answer n = verdict Err (Ok none) (test INPUT (eqb (n % wide) 0 && (leb 1 (n / wide) && leb (n / wide) heads_most)) ∷ [])
