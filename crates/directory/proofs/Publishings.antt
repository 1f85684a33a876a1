-- Starting leaves a directory, and so does each publishing from one, whether it succeeds or refuses. Assumes nothing.
use Rattle.std.specs.Prelude.{Ok, Err}
use mathlib.Core.Path.{◌≡◌, sym, ap, ◌∙◌, subst}
use mathlib.Core.Logic.{⊎_elim}
use mathlib.Core.Bool.{true, false}
use Prim.Native.Nat.{ℕ}
use native.Mathlib.Omega.{arith}
use Rattle.paper.specs.Numbers.{INPUT}
use Rattle.paper.specs.Bytes.{Bytes, Bytewise}
use Rattle.paper.specs.Labelling.{Labelling}
use Rattle.paper.specs.Verdict.{verdict}
use Rattle.paper.specs.Table.{records_within}
use Rattle.paper.specs.Publish.{Started, start, Published, publish}
use Rattle.paper.specs.Left.{Left, started, published}
use Rattle.paper.specs.Answer.{returned}
use Rattle.paper.specs.declared.Refusal.{Refusal}
use Rattle.paper.specs.declared.State.{State}
use Rattle.paper.proofs.Success.{outcome}
use Rattle.directory.specs.Begun.{begun, Begins, state_after, GoesOn, opened_by, opened, Opens}

left-started : (lab : Labelling) (records heads : Bytes) → Bytewise records → Bytewise heads → records_within records ≡ true
    → (x : Started) → x ≡ start lab heads → (s : State) → x.answer ≡ Ok s → Left lab records x.heads s
left-started lab records heads rb hb w x e s q =
    subst (λ h. Left lab records h s) (sym (ap (λ y. y.heads) e)) (started records heads rb hb w (sym (ap (λ y. y.answer) e) ∙ q))

-- a record table out of bounds is refused
pub unbegun : (lab : Labelling) (records heads : Bytes) → records_within records ≡ false → Begins lab records heads (record { answer = Err INPUT; heads = heads })
unfolding begun verdict
unbegun lab records heads w = record { is = sym (rw w); left = λ s e. let z : ◌≡◌ {A = ℕ} 0 1 = cc in absurd (omega arith) }

pub begun-left : (lab : Labelling) (records heads : Bytes) → Bytewise records → Bytewise heads → records_within records ≡ true → (x : Started) → x ≡ start lab heads → Begins lab records heads x
unfolding begun verdict
begun-left lab records heads rb hb w x e = record { is = e ∙ sym (rw w); left = left-started lab records heads rb hb w x e }

left-further : (lab : Labelling) {records heads : Bytes} {state : State} → Left lab records heads state → (batch : Bytes) → Bytewise batch
    → (x : Published) → x ≡ publish lab records heads state batch → Left lab x.records x.heads (state_after x.answer)
left-further lab {records} {heads} {state} left batch b x e =
    subst (λ y. Left lab y.records y.heads (state_after y.answer)) (sym e) (⊎_elim
    (λ (rs, p, w).
    let q = ap (λ y. y.answer) w.leaves in
    subst (λ a. Left lab (publish lab records heads state batch).records (publish lab records heads state batch).heads (state_after a)) (sym q) (published left batch b q))
    (λ (r, q). subst (λ y. Left lab y.records y.heads (state_after y.answer)) (sym q) left)
    (outcome lab records heads state batch))

pub further-left : (lab : Labelling) {records heads : Bytes} {state : State} → Left lab records heads state → (batch : Bytes) → Bytewise batch
    → (x : Published) → x ≡ publish lab records heads state batch → GoesOn lab records heads state batch x
further-left lab left batch b x e = record { is = e; left = left-further lab left batch b x e }

-- ---- starting, and then a first batch

-- a start that refuses
pub opened-not : (lab : Labelling) (records heads batch : Bytes) (x : Started) → Begins lab records heads x → (r : Refusal) → x.answer ≡ Err r
    → Opens lab records heads batch (record { answer = returned (record { count = 0; epoch = 0 }) r; records = records; heads = x.heads })
unfolding opened
opened-not lab records heads batch x b r q = record {
  is = ap (opened_by lab records x.heads batch) (sym q) ∙ ap (λ y. opened_by lab records y.heads batch y.answer) b.is;
  left = λ s e. let z : ◌≡◌ {A = ℕ} 0 1 = cc in absurd (omega arith);
}

pub opened-left : (lab : Labelling) (records heads batch : Bytes) (x : Started) → Begins lab records heads x → (s : State) → x.answer ≡ Ok s
    → (y : Published) → GoesOn lab records x.heads s batch y → Opens lab records heads batch y
unfolding opened
opened-left lab records heads batch x b s q y g = record {
  is = g.is ∙ ap (opened_by lab records x.heads batch) (sym q) ∙ ap (λ y. opened_by lab records y.heads batch y.answer) b.is;
  left = λ t e. subst (λ a. Left lab y.records y.heads (state_after a)) e g.left;
}
