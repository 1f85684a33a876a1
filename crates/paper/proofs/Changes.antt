-- What a success changes, from any tables. Publishing leaves the new state, the records of the batch in their slots and the new epoch's head in
-- its slot, start the head of epoch 0, a writer its proof at the output's start, and nothing else is touched. So a publisher that does nothing is
-- wrong. Stated once over the labelling. Assumes nothing.
use mathlib.Core.Path.{◌≡◌, refl, sym, ap, ◌∙◌, subst}
use mathlib.Core.Logic.{◌⊎◌}
use mathlib.Core.Bool.{Bool}
use mathlib.Core.List.{List, [], ◌∷◌, ◌++◌, append_assoc}
use Prim.Native.Nat.{ℕ, suc, ◌+◌, ◌*◌, ◌/◌, ◌%◌, ◌≤◌, ◌<◌}
use native.Mathlib.Omega.{arith}
use lib.Dec.{eqb, leb}
use lib.ListN.{length, take, drop}
use lib.Seq.{take_at, drop_at, drop-drop}
use borrow.Author.Tests.{leb-true}
use Rattle.fips.proofs.Size.{sha256-length}
use Rattle.paper.specs.Lists.{All}
use Rattle.paper.specs.Numbers.{wide, record_size, INPUT, ROOM}
use Rattle.paper.specs.Bytes.{Bytes, Bytewise, pasted}
use Rattle.paper.specs.Labelling.{Labelling}
use Rattle.paper.specs.Bits.{bits_of}
use Rattle.paper.specs.Tree.{root, root_digest}
use Rattle.paper.specs.Path.{way}
use Rattle.paper.specs.Layout.{Read, got, bad, times, times_bytes}
use Rattle.paper.specs.Fields.{path_field}
use Rattle.paper.specs.Verdict.{Test, test}
use Rattle.paper.specs.Lookup.{lookup_field}
use Rattle.paper.specs.History.{history_field}
use Rattle.paper.specs.Audit.{audit_field}
use Rattle.paper.specs.Table.{Record, record_field, heads_within, head_at, counted, head_digest}
use Rattle.paper.specs.Publish.{Started, start, publish}
use Rattle.paper.specs.Write.{lookup_proof, history_proof, audit_proof, unwritten, write_read, write_with, write_lookup, write_history, write_audit}
use Rattle.paper.specs.Level.{Laid, leaves_of, laid, tree_root, tree_path}
use Rattle.paper.specs.Answer.{reply, start_reply, start_number, publish_reply, publish_number, state_values, write_reply, write_number, tree_reply, tree_number}
use Rattle.paper.specs.Effect.{record_at, SlotsHold, added, OnlyWithin, StartChanged, Changed, Fronted, WriteChanged, TreeChanged}
use Rattle.paper.specs.declared.State.{State}
use Rattle.paper.proofs.Lists.{and_left, and_right, all_append, all_right}
use Rattle.paper.proofs.Verdicts.{accepted}
use Rattle.paper.proofs.Accepted.{whole-behind}
use Rattle.paper.proofs.Pasted.{pasted_length, pasted-behind, pasted-other, part_at}
use Rattle.paper.proofs.Kept.{record-length}
use Rattle.paper.proofs.Success.{success, placed, head-new}

-- ---- publishing

-- records that stand in a table one behind the other stand each in its slot
slots-hold : (d : Bytes) (k : ℕ) (rs : List Record) (rest : Bytes) → All record_field.Fits rs → drop (k * record_size) d ≡ times_bytes record_field.bytes rs ++ rest → SlotsHold d k rs
unfolding record_at times_bytes
slots-hold d k [] rest f e = tt
slots-hold d k (r ∷ rs) rest f e =
    let b = record_field.bytes r in
    let more = times_bytes record_field.bytes rs in
    let n = record-length r f.0 in
    let q : drop (k * record_size) d ≡ b ++ (more ++ rest) = e ∙ append_assoc b more rest in
    let s : suc k * record_size ≡ k * record_size + record_size = omega arith in (
      ap (take record_size) q ∙ take_at b (more ++ rest) record_size n,
      slots-hold d (suc k) rs rest f.1 (ap (λ i. drop i d) s ∙ sym (drop-drop record_size (k * record_size) d) ∙ ap (drop record_size) q ∙ drop_at b (more ++ rest) record_size n),
    )

-- what is laid over a table touches no other place of it
only-within : (d : Bytes) (at high : ℕ) (s : Bytes) → at + length s ≤ length d → at + length s ≡ high → OnlyWithin at high d (pasted d at s)
only-within d at high s fits e = record {
  size = pasted_length d at s fits;
  others = λ i o. pasted-other d at s fits i (subst (λ h. (i < at) ⊎ (h ≤ i)) (sym e) o);
}

module _ (lab : Labelling) (records heads : Bytes) (state : State) (batch : Bytes) where
  -- "Publishing appends the batch in its order with the next epoch." "Success writes only the named records, head or proof."
  pub publish-changes : Bytewise batch → publish_number (publish lab records heads state batch).answer ≡ 0 → Changed lab records heads state batch
  publish-changes bytes e =
      let (rs, q, x) = success lab records heads state batch e in
      let p = placed lab records heads state batch bytes rs x in
      let more = added lab state rs x.us in
      let r = ap (λ y. y.records) x.leaves in
      let h = ap (λ y. y.heads) x.leaves in
      let block = times_bytes record_field.bytes more in
      let at = state.count * record_size in
      let high = (state.count + length x.us) * record_size in
      let slot = suc state.epoch * wide in
      record {
        rs = rs;
        counted-records = q;
        us = x.us;
        updates = x.read;
        says = ap (λ y. publish_reply y.answer) x.leaves ∙ ap (λ n. reply 0 ((state.count + n) ∷ suc state.epoch ∷ [])) p.count;
        slots = subst (λ d. SlotsHold d state.count more) (sym r) (slots-hold (pasted records at block) state.count more _ p.fit (pasted-behind records at block p.records-room));
        head = ap (λ d. head_at d (suc state.epoch)) h ∙ head-new lab records heads state batch bytes rs x;
        records-only = subst (λ d. OnlyWithin at high records d) (sym r) (only-within records at high block p.records-room (omega (arith, p.size)));
        heads-only = subst (λ d. OnlyWithin slot ((state.epoch + 2) * wide) heads d) (sym h)
            (only-within heads slot ((state.epoch + 2) * wide) (head_digest lab heads (suc state.epoch) (rs ++ more)) p.heads-room (omega (arith, p.head-size)));
      }

  -- so a publisher that does nothing is wrong: the state is another, and the tables are others unless they held these very bytes before
  module _ (c : Changed lab records heads state batch) where
    pub state-moves : ¬ ((publish_reply (publish lab records heads state batch).answer).values ≡ state_values state)
    state-moves e =
        let z : (state.count + length c.us) ∷ suc state.epoch ∷ [] ≡ state_values state = ap (λ r. r.values) (sym c.says) ∙ e in
        let y : suc state.epoch ≡ state.epoch = cc in omega arith

    pub head-moves : ¬ (head_at heads (suc state.epoch) ≡ head_digest lab heads (suc state.epoch) (c.rs ++ added lab state c.rs c.us)) → ¬ ((publish lab records heads state batch).heads ≡ heads)
    head-moves d e = d (ap (λ h. head_at h (suc state.epoch)) (sym e) ∙ c.head)

    pub records-move : ¬ SlotsHold records state.count (added lab state c.rs c.us) → ¬ ((publish lab records heads state batch).records ≡ records)
    records-move d e = d (subst (λ r. SlotsHold r state.count (added lab state c.rs c.us)) e c.slots)

-- ---- starting

pub start-changes : (lab : Labelling) (heads : Bytes) → start_number (start lab heads).answer ≡ 0 → StartChanged lab heads
unfolding start heads_within head_at
start-changes lab heads e =
    let d = head_digest lab heads 0 [] in
    let (h, q) = accepted _ _ (λ (x : Started). start_number x.answer) (λ n. refl) (test INPUT (heads_within heads) ∷ []) e in
    let n : 1 ≤ length heads / wide = leb-true 1 _ (and_left _ _ (and_right (eqb (length heads % wide) 0) _ h.0)) in
    let size : length d ≡ wide = sha256-length _ in
    let room : 0 + length d ≤ length heads = omega (arith, size, n) in
    let r = ap (λ x. x.heads) q in
    record {
      says = ap (λ x. start_reply x.answer) q;
      head = ap (λ t. take wide t) r ∙ ap (λ w. take w (pasted heads 0 d)) (sym size) ∙ part_at heads 0 d room;
      heads-only = subst (λ t. OnlyWithin 0 wide heads t) (sym r) (only-within heads 0 wide d room (omega (arith, size)));
    }

-- ---- writers

fronted : (out s : Bytes) → length s ≤ length out → Fronted s out (pasted out 0 s)
fronted out s h = record { bytes = part_at out 0 s (omega arith); rest = only-within out 0 (length s) s (omega arith) (omega arith) }

module _ (lab : Labelling) (records heads : Bytes) (state : State) (out : Bytes) where
  -- the three writers are this one
  write-changes : (input : Bool) (t : ℕ) (clear : List Record → Bool) (proof : List Record → Bytes)
      → write_number (write_with lab records heads state out input t clear proof).answer ≡ 0 → WriteChanged records state out proof (write_with lab records heads state out input t clear proof)
  unfolding write_with counted
  write-changes input t clear proof e =
      let (_, q) = accepted (unwritten lab records heads state out) _ (λ x. write_number x.answer) (λ n. refl) (test INPUT _ ∷ []) e in
      read (counted records state.count) refl q (ap (λ x. write_number x.answer) (sym q) ∙ e)
    where
      read : (m : Read (List Record)) → counted records state.count ≡ m → write_with lab records heads state out input t clear proof ≡ write_read lab records heads state out t clear proof m
          → write_number (write_read lab records heads state out t clear proof m).answer ≡ 0 → WriteChanged records state out proof (write_with lab records heads state out input t clear proof)
      read bad p q z = absurd (omega arith)
      read (got rs (x ∷ r)) p q z = absurd (whole-behind ((times state.count record_field).read (take (state.count * record_size) records)) rs x r p)
      read (got rs []) p q z =
          let (h, v) = accepted (unwritten lab records heads state out) _ (λ x. write_number x.answer) (λ n. refl) _ z in
          record {
            rs = rs;
            counted-records = p;
            says = ap (λ x. write_reply x.answer) (q ∙ v);
            front = subst (λ o. Fronted (proof rs) out o) (ap (λ x. x.out) (sym (q ∙ v))) (fronted out (proof rs) (leb-true _ _ h.1.1.1.0));
          }

  -- "Success writes only the named .. proof."
  pub lookup-changes : (name : Bytes) (t : ℕ) → write_number (write_lookup lab records heads state out name t).answer ≡ 0
      → WriteChanged records state out (λ rs. lookup_field.bytes (lookup_proof lab name t rs heads)) (write_lookup lab records heads state out name t)
  lookup-changes name t = write-changes _ t _ _

  pub history-changes : (name : Bytes) (t : ℕ) → write_number (write_history lab records heads state out name t).answer ≡ 0
      → WriteChanged records state out (λ rs. history_field.bytes (history_proof lab name t rs heads)) (write_history lab records heads state out name t)
  history-changes name t = write-changes _ t _ _

  pub audit-changes : (t : ℕ) → write_number (write_audit lab records heads state out t).answer ≡ 0
      → WriteChanged records state out (λ rs. audit_field.bytes (audit_proof lab heads t rs)) (write_audit lab records heads state out t)
  audit-changes t = write-changes _ t _ _

-- ---- the tree level

laid-changes : (out s : Bytes) (tests : List Test) → tree_number (laid out s tests).answer ≡ 0 → TreeChanged out s (laid out s tests)
unfolding laid
laid-changes out s tests e =
    let room = test ROOM (leb (length s) (length out)) ∷ [] in
    let (h, q) = accepted _ _ (λ (x : Laid). tree_number x.answer) (λ n. refl) (tests ++ room) e in
    record {
      says = ap (λ x. tree_reply x.answer) q;
      front = subst (λ o. Fronted s out o) (ap (λ x. x.out) (sym q)) (fronted out s (leb-true _ _ (all_right _ tests room h).0));
    }

pub root-changes : (entries out : Bytes) → tree_number (tree_root entries out).answer ≡ 0 → TreeChanged out (root_digest (leaves_of entries)) (tree_root entries out)
unfolding tree_root
root-changes entries out = laid-changes out _ _

pub path-changes : (entries label : Bytes) (absent : Bool) (out : Bytes) → tree_number (tree_path entries label absent out).answer ≡ 0
    → TreeChanged out (path_field.bytes (way (bits_of label) (root (leaves_of entries)))) (tree_path entries label absent out)
unfolding tree_path
path-changes entries label absent out = laid-changes out _ _
