-- What a successful publishing leaves is kept, and so is all that start and publishings left. Assumes nothing.
use Rattle.std.specs.Prelude.{Ok, Err}
use mathlib.Core.Path.{◌≡◌, refl, sym, ap, ◌∙◌, subst}
use mathlib.Core.Logic.{⊎_elim, by_cases}
use mathlib.Core.Bool.{true, ◌&&◌}
use mathlib.Core.List.{List, [], ◌∷◌, ◌++◌, flat_map}
use Prim.Native.Nat.{ℕ, zero, suc, ◌+◌, ◌*◌, ◌<◌, ◌≤◌}
use native.Mathlib.Omega.{arith}
use native.Mathlib.Decide.{dec_le}
use lib.ListN.{length, take, length-append}
use Rattle.fips.specs.Sha256.{sha256}
use Rattle.paper.specs.Lists.{All}
use Rattle.paper.specs.Numbers.{INPUT, wide, record_size}
use Rattle.paper.specs.Bytes.{Bytes, Bytewise, pasted}
use Rattle.paper.specs.Strings.{Node, head_string}
use Rattle.paper.specs.Tree.{root_digest}
use Rattle.paper.specs.Labelling.{Labelling}
use Rattle.paper.specs.Layout.{got, times, times_bytes, parse}
use Rattle.paper.specs.Verdict.{test}
use Rattle.paper.specs.Table.{Record, Update, record_field, records_within, heads_within, head_at, counted, all_leaves, old_leaves, all_at, old_at, previous_head, head_digest, distinct}
use Rattle.paper.specs.Publish.{Started, start, publish}
use Rattle.paper.specs.Effect.{added}
use Rattle.paper.specs.Answer.{publish_number}
use Rattle.paper.specs.Left.{Left, started, published}
use Rattle.paper.specs.declared.State.{State}
use Rattle.paper.specs.Answer.{StartAnswer, PublishAnswer}
use Rattle.paper.specs.declared.Refusal.{Refusal}
use Rattle.paper.proofs.Lists.{all_in, in-all, all_append, all_take, and_left, and_right}
use Rattle.paper.proofs.Verdicts.{Hold, FirstFails, verdict-cases}
use Rattle.paper.proofs.Layouts.{times-lawful, parse-bytes, bytes-parse}
use Rattle.paper.proofs.Proofs.{record-lawful}
use Rattle.paper.proofs.Fits.{digest-wide}
use Rattle.paper.proofs.Pasted.{pasted_length, pasted-front, part-before, pasted-bytes}
use Rattle.paper.proofs.Shape.{by-epoch-append, published-shape, new-epochs}
use Rattle.paper.proofs.Kept.{Kept, record-bytewise, times-append, within_same, records-same, kept-at-start}
use Rattle.paper.proofs.Success.{Success, success, Placed, placed, head-new}

module _ (lab : Labelling) (records heads : Bytes) (state : State) (kept : Kept lab records heads state) where
  abbrev rs : List Record
  rs = kept.rs

  abbrev next : ℕ
  next = suc state.epoch

  -- a success is one from the records that are kept
  kept-success : (batch : Bytes) (s : State) → (publish lab records heads state batch).answer ≡ Ok s → Success lab records heads state batch rs
  kept-success batch s e =
      let (l, q, x) = success lab records heads state batch (ap publish_number e) in
      let w : got l [] ≡ got rs [] = sym q ∙ kept.read in
      let v : l ≡ rs = cc in
      subst (λ l. Success lab records heads state batch l) v x

  -- ---- what is left

  module _ (batch : Bytes) (batch-bytes : Bytewise batch) (x : Success lab records heads state batch rs) where
    abbrev us : List Update
    us = x.us

    abbrev more : List Record
    more = added lab state rs us

    abbrev bytes : Bytes
    bytes = times_bytes record_field.bytes more

    abbrev head : Bytes
    head = head_digest lab heads next (rs ++ more)

    abbrev records' : Bytes
    records' = pasted records (state.count * record_size) bytes

    abbrev heads' : Bytes
    heads' = pasted heads (next * wide) head

    lie : Placed lab records heads state rs us
    lie = placed lab records heads state batch batch-bytes rs x

    -- ---- the tables after publishing

    old-bytes : take (state.count * record_size) records ≡ times_bytes record_field.bytes rs
    unfolding counted times
    old-bytes = sym (bytes-parse (times-lawful state.count record-lawful) _ rs [] (all_take _ (state.count * record_size) records kept.record-bytes) kept.read).1

    read_again : counted records' (state.count + length more) ≡ got (rs ++ more) []
    unfolding counted times
    read_again =
        let n = state.count + length more in
        let e : n * record_size ≡ state.count * record_size + length bytes = omega (arith, lie.size, lie.count) in
        let w : take (n * record_size) records' ≡ times_bytes record_field.bytes (rs ++ more) =
        ap (λ k. take k records') e ∙ pasted-front records (state.count * record_size) bytes (omega (arith, lie.records-room)) ∙ ap (λ l. l ++ bytes) old-bytes ∙ sym (times-append rs more) in
        let f : (times n record_field).Fits (rs ++ more) = (length-append rs more ∙ ap (λ k. k + length more) kept.size, all_append _ rs more kept.fits lie.fit) in
        ap (parse (times n record_field)) w ∙ parse-bytes (times-lawful n record-lawful) (rs ++ more) f

    later : (t : ℕ) → t ≤ state.epoch → All (λ r. t < r.epoch) more
    later t k = in-all _ more (λ r m. omega (arith, all_in _ more (new-epochs lab state.epoch rs kept.shape us) r m))

    all_same : (t : ℕ) → t ≤ state.epoch → all_at lab t (rs ++ more) ≡ all_at lab t rs
    all_same t k = ap (flat_map (all_leaves lab)) (by-epoch-append t rs more (later t k))

    old-same : (t : ℕ) → t ≤ state.epoch → old_at lab t (rs ++ more) ≡ old_at lab t rs
    old-same t k = ap (flat_map (old_leaves lab)) (by-epoch-append t rs more (later t k))

    -- a head before the new one is as it was
    head-before : (t : ℕ) → t ≤ state.epoch → head_at heads' t ≡ head_at heads t
    unfolding head_at
    head-before t k = part-before heads (next * wide) head lie.heads-room (t * wide) wide (omega arith)

    previous-same : (t : ℕ) → t ≤ next → previous_head heads' t ≡ previous_head heads t
    previous-same zero k = refl
    previous-same (suc t) k = head-before t (omega arith)

    head-kept : (t : ℕ) → t ≤ next → head_at heads' t ≡ head_digest lab heads' t (rs ++ more)
    head-kept t k = by_cases (dec_le t state.epoch)
        (λ l. head-before t l ∙ kept.head-is t l ∙ same_head t (sym (previous-same t (omega arith))) (sym (all_same t l)) (sym (old-same t l)))
        (λ l.
        let e : t ≡ next = omega arith in
        subst (λ t. head_at heads' t ≡ head_digest lab heads' t (rs ++ more)) (sym e) (head-new lab records heads state batch batch-bytes rs x ∙ same_head next (sym (previous-same next (omega arith))) refl refl))
      where
        same_head : (t : ℕ) {p q : Bytes} {a b c d : List Node} → p ≡ q → a ≡ b → c ≡ d
            → sha256 (head_string (record { epoch = t; previous = p; all = root_digest a; old = root_digest c })) ≡ sha256 (head_string (record { epoch = t; previous = q; all = root_digest b; old = root_digest d }))
        same_head t x y z = λ i. sha256 (head_string (record { epoch = t; previous = x i; all = root_digest (y i); old = root_digest (z i) }))

    clash : distinct (all_at lab next (rs ++ more)) && distinct (old_at lab next (rs ++ more)) ≡ true
    clash = x.holds.1.1.1.0

    pub kept-published : Bytewise bytes → Kept lab records' heads' (record { count = state.count + length more; epoch = next })
    kept-published b = record {
      rs = rs ++ more;
      read = read_again;
      fits = all_append _ rs more kept.fits lie.fit;
      size = length-append rs more ∙ ap (λ k. k + length more) kept.size;
      shape = published-shape lab state.epoch rs kept.shape us x.holds.1.0;
      record-bytes = pasted-bytes records (state.count * record_size) bytes lie.records-room kept.record-bytes b;
      head-bytes = pasted-bytes heads (next * wide) head lie.heads-room kept.head-bytes (digest-wide _).bytes;
      records-within = records-same records records' (sym (pasted_length records (state.count * record_size) bytes lie.records-room)) kept.records-within;
      heads-within = within_same heads heads' (sym (pasted_length heads (next * wide) head lie.heads-room)) kept.heads-within;
      room = omega (arith, lie.size, lie.count, lie.records-room, pasted_length records (state.count * record_size) bytes lie.records-room);
      lies = omega (arith, lie.head-size, lie.heads-room, pasted_length heads (next * wide) head lie.heads-room);
      head-is = head-kept;
      all-distinct = λ t k. by_cases (dec_le t state.epoch)
          (λ l. ap distinct (all_same t l) ∙ kept.all-distinct t l)
          (λ l. let e : t ≡ next = omega arith in subst (λ t. distinct (all_at lab t (rs ++ more)) ≡ true) (sym e) (and_left _ _ clash));
      old-distinct = λ t k. by_cases (dec_le t state.epoch)
          (λ l. ap distinct (old-same t l) ∙ kept.old-distinct t l)
          (λ l. let e : t ≡ next = omega arith in subst (λ t. distinct (old_at lab t (rs ++ more)) ≡ true) (sym e) (and_right (distinct (all_at lab next (rs ++ more))) _ clash));
    }

-- ---- all that start and publishings left

-- the bytes of a value that fits are bytes
fields-bytes : (rs : List Record) → All record_field.Fits rs → Bytewise (times_bytes record_field.bytes rs)
unfolding times_bytes
fields-bytes [] f = tt
fields-bytes (r ∷ rs) f = all_append _ (record_field.bytes r) (times_bytes record_field.bytes rs) (record-bytewise r f.0) (fields-bytes rs f.1)

start-kept : (lab : Labelling) (records heads : Bytes) (state : State) → Bytewise records → Bytewise heads → records_within records ≡ true → (start lab heads).answer ≡ Ok state
    → Kept lab records (start lab heads).heads state
unfolding start
start-kept lab records heads state rb hb w e = ⊎_elim began refused (verdict-cases no_start begun (test INPUT (heads_within heads) ∷ []))
  where
    no_start : Refusal → Started
    no_start r = record { answer = Err r; heads = heads }

    begun : Started
    begun = record { answer = Ok (record { count = 0; epoch = 0 }); heads = pasted heads 0 (head_digest lab heads 0 []) }

    began : Hold (test INPUT (heads_within heads) ∷ []) × (start lab heads ≡ begun) → Kept lab records (start lab heads).heads state
    began (h, q) =
        let z : ◌≡◌ {A = StartAnswer} (Ok (record { count = 0; epoch = 0 })) (Ok state) = ap (λ x. x.answer) (sym q) ∙ e in
        let s : record { count = 0; epoch = 0 } ≡ state = cc in
        subst (λ x. Kept lab records x.heads state) (sym q) (subst (Kept lab records _) s (kept-at-start lab records heads rb hb w h.0))

    refused : (n : ℕ) × (f : FirstFails (test INPUT (heads_within heads) ∷ []) n) × (start lab heads ≡ no_start f.failed.refusal) → Kept lab records (start lab heads).heads state
    refused (n, f, q) =
        let z : ◌≡◌ {A = StartAnswer} (Err f.failed.refusal) (Ok state) = ap (λ x. x.answer) (sym q) ∙ e in
        let y : ◌≡◌ {A = ℕ} 0 1 = cc in absurd (omega arith)

-- a publishing that succeeds leaves what is kept
publish-kept : (lab : Labelling) (records heads : Bytes) (state : State) → Kept lab records heads state → (batch : Bytes) → Bytewise batch → (s : State)
    → (publish lab records heads state batch).answer ≡ Ok s → Kept lab (publish lab records heads state batch).records (publish lab records heads state batch).heads s
publish-kept lab records heads state k batch b s e =
    let x = kept-success lab records heads state k batch s e in
    let n = state.count + length (more lab records heads state k batch b x) in
    let z : ◌≡◌ {A = PublishAnswer} (Ok (record { count = n; epoch = suc state.epoch })) (Ok s) = ap (λ y. y.answer) (sym x.leaves) ∙ e in
    let q : record { count = n; epoch = suc state.epoch } ≡ s = cc in
    subst (λ y. Kept lab y.records y.heads s) (sym x.leaves) (subst (Kept lab _ _) q (kept-published lab records heads state k batch b x (fields-bytes _ (lie lab records heads state k batch b x).fit)))

pub left-kept : (lab : Labelling) {records heads : Bytes} {state : State} → Left lab records heads state → Kept lab records heads state
left-kept lab (started {state = s} records heads rb hb w e) = start-kept lab records heads s rb hb w e
left-kept lab (published {records = records} {heads = heads} {state = state} {next = s} l batch b e) = publish-kept lab records heads state (left-kept lab l) batch b s e
