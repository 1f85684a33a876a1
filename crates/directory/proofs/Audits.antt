-- Audits from what publishing left: each step is accepted between the heads of its epochs. Assumes nothing.
use mathlib.Core.Path.{◌≡◌, ap, ◌∙◌, subst}
use mathlib.Core.Bool.{◌&&◌}
use mathlib.Core.List.{List, [], ◌∷◌}
use Prim.Native.Nat.{ℕ, zero, suc, ◌-◌, ◌≤◌}
use native.Mathlib.Omega.{arith}
use lib.Dec.{leb}
use lib.ListN.{length, take}
use borrow.Author.Tests.{leb-true, le-leb}
use Rattle.paper.specs.Bytes.{Bytes, pasted}
use Rattle.paper.specs.Labelling.{Labelling, Sized}
use Rattle.paper.specs.Audit.{audit_field, audit_strings, check_audit}
use Rattle.paper.specs.Table.{Record, head_at, all_at, old_at, distinct}
use Rattle.paper.specs.Write.{Wrote, audit_proof, write_audit}
use Rattle.paper.specs.Left.{Left}
use Rattle.paper.specs.Standing.{Standing}
use Rattle.paper.specs.Answer.{reply, audit_reply}
use Rattle.paper.specs.declared.State.{State}
use Rattle.paper.proofs.Lists.{and_both}
use Rattle.paper.proofs.Writers.{answered}
use Rattle.paper.proofs.Demand2.{audit-answered}
use Rattle.directory.specs.Own.{directory, audit_answer}
use Rattle.directory.proofs.Standing.{left-stands}
use Rattle.directory.proofs.Writers.{answers}
use Rattle.paper.specs.Answer as W

module _ (lab : Labelling) (sized : Sized lab) {records heads : Bytes} {state : State} (left : Left lab records heads state) where
  abbrev rs : List Record
  rs = directory records state

  stands : Standing lab records heads state rs
  stands = left-stands lab left

  -- ---- accepted

  accepted : (t : ℕ) → 1 ≤ t → t ≤ state.epoch → check_audit (head_at heads (t - 1)) (head_at heads t) (audit_field.bytes (audit_proof lab heads t rs)) ≡ audit_answer lab t rs heads
  accepted zero l k = absurd (omega arith)
  accepted (suc t) l k =
      let e : t ≡ suc t - 1 = omega arith in
      subst (λ o. check_audit (head_at heads o) (head_at heads (suc t)) (audit_field.bytes (audit_proof lab heads (suc t) rs)) ≡ W.audit_accepted o (suc t) (length (audit_strings (audit_proof lab heads (suc t) rs)))) e (audit-answered lab sized stands t k)

  module _ (t : ℕ) (out : Bytes) where
    -- ---- what the writer wrote

    module _ (n : ℕ) (s : State) (written : (write_audit lab records heads state out t).answer ≡ W.written n s) where
      pub audit-wrote : Wrote lab records heads state out (leb 1 t) t (λ rs. distinct (all_at lab (t - 1) rs) && (distinct (old_at lab (t - 1) rs) && (distinct (all_at lab t rs) && distinct (old_at lab t rs)))) (λ rs. audit_field.bytes (audit_proof lab heads t rs)) rs n
      audit-wrote = answered lab records heads state out (leb 1 t) t _ _ rs stands.read n s written

      -- the answer is the directory's own
      pub audit-is : check_audit (head_at heads (t - 1)) (head_at heads t) (take n (write_audit lab records heads state out t).out) ≡ audit_answer lab t rs heads
      audit-is = let w = audit-wrote in ap (check_audit (head_at heads (t - 1)) (head_at heads t)) w.bytes ∙ accepted t (leb-true 1 t w.input-good) w.reached

      -- "every .. audit proof .. is accepted at its epoch's head, with the directory's own answer": number 0, both epochs and the count
      pub audit-kept : audit_reply (check_audit (head_at heads (t - 1)) (head_at heads t) (take n (write_audit lab records heads state out t).out))
          ≡ reply 0 ((t - 1) ∷ t ∷ length (audit_strings (audit_proof lab heads t rs)) ∷ [])
      audit-kept = ap audit_reply audit-is

    -- ---- and the writer does answer

    -- for each step up to the current epoch, with room: what publishing left has no clash
    pub audit-answers : 1 ≤ t → t ≤ state.epoch → length (audit_field.bytes (audit_proof lab heads t rs)) ≤ length out
        → write_audit lab records heads state out t ≡ record { answer = W.written (length (audit_field.bytes (audit_proof lab heads t rs))) state; out = pasted out 0 (audit_field.bytes (audit_proof lab heads t rs)) }
    audit-answers l k n =
        let j : t - 1 ≤ state.epoch = omega arith in
        answers lab records heads state rs out (leb 1 t) t _ _ stands (le-leb 1 t l) k
        (and_both (stands.all-distinct (t - 1) j) (and_both (stands.old-distinct (t - 1) j) (and_both (stands.all-distinct t k) (stands.old-distinct t k)))) n
