-- `arrow::arrow_after`: the lookup at the head before the step, the step, the history at the head after it.
use mathlib.Core.Path.{◌≡◌, sym, ap, ◌∙◌}
use mathlib.Core.Bool.{Bool, true, false, ◌&&◌, and_assoc}
use mathlib.Core.List.{List, [], ◌∷◌}
use Rattle.std.specs.Prelude.{is_ok}
use Rattle.paper.specs.Labelling.{plain}
use Rattle.paper.specs.Lookup.{check_lookup}
use Rattle.paper.specs.History.{check_history}
use Rattle.paper.specs.Audit.{check_audit}
use Rattle.paper.specs.Arrow.{AuditStep}
use Rattle.paper.proofs.Labelling.{plain-tied}
use Rattle.ranges.proofs.Slices.{bytewise}
use Rattle.arrow.specs.Pointed.{Pointed}
use Rattle.arrow.proofs.Pointing.{pointed, after-is}
use Rattle.arrow.proofs.arrow_after.Goals as goal
use Rattle.arrow.proofs.arrow_after.Goals.{After-is_ok, Joined-is_ok, then-is_ok, else-is_ok}

-- whether the lookup, the step and the history are accepted
abbrev L : After-is_ok → Bool
L c = let a = c.args in is_ok (check_lookup plain a.before.now a.name.now a.lookup.now)

abbrev A : After-is_ok → Bool
A c = let a = c.args in is_ok (check_audit a.before.now a.after.now a.step.now)

abbrev H : After-is_ok → Bool
H c = let a = c.args in is_ok (check_history plain a.after.now a.name.now a.history.now)

-- the first two
both : (c : Joined-is_ok) → c.if-is_ok.value ≡ (L (goal.at.Joined-is_ok c).After-is_ok && A (goal.at.Joined-is_ok c).After-is_ok)
both c =
    let looked = c.is_ok.ensures.value ∙ ap is_ok c.check_lookup.ensures in
    elim c.if-is_ok.branch [
      | then-is_ok w ↦ w.value-is ∙ w.is_ok-then-is_ok.ensures.value ∙ ap is_ok w.check_audit.ensures ∙ sym (rw (sym looked ∙ w.if-is_ok.true))
      | else-is_ok w ↦ w.value-is ∙ w.if-is_ok.false ∙ sym (rw (sym looked ∙ w.if-is_ok.false))
    ]

-- the Boolean is the answer
answers : (c : After-is_ok) (r : Bool) → let a = c.args in r ≡ ((L c && A c) && H c) → Pointed plain a.before.now a.name.now a.lookup.now (record { head = a.after.now; proof = a.step.now } ∷ []) a.history.now r
answers c r e =
    let a = c.args in
    pointed plain plain-tied a.before.now a.name.now a.lookup.now (record { head = a.after.now; proof = a.step.now } ∷ []) a.history.now r
    (bytewise a.lookup.now c.type_inv.lookup) (bytewise a.step.now c.type_inv.step, tt) (bytewise a.history.now c.type_inv.history)
    (e ∙ and_assoc (L c) (A c) (H c) ∙ sym (after-is plain a.before.now a.after.now a.name.now a.lookup.now a.step.now a.history.now))

pub returns-then-is_ok-2 : goal.returns-then-is_ok-2
returns-then-is_ok-2 c =
    let s = (goal.at.returns-then-is_ok-2 c).After-is_ok in
    let b = sym (both (goal.at.returns-then-is_ok-2 c).Joined-is_ok) ∙ c.if-is_ok-2.true in
    answers s _ (c.is_ok-then-is_ok-2.ensures.value ∙ ap is_ok c.check_history.ensures ∙ sym (ap (λ x. x && H s) b))

pub returns-else-is_ok-2 : goal.returns-else-is_ok-2
returns-else-is_ok-2 c =
    let s = (goal.at.returns-else-is_ok-2 c).After-is_ok in
    let b = sym (both (goal.at.returns-else-is_ok-2 c).Joined-is_ok) ∙ c.if-is_ok-2.false in
    answers s _ (c.if-is_ok-2.false ∙ sym (ap (λ x. x && H s) b))
