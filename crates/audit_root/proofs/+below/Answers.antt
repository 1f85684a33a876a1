-- `audit_root::below`: the range splits behind what its first and last record share, where `Step` says what the parts come to. What is
-- left of 256 bits falls, since each part shares more bits than the range.
use native.Mathlib.Omega.{arith}
use mathlib.Core.Path.{sym, ap, ap₂, ◌∙◌, subst}
use mathlib.Core.List.{[]}
use Prim.Native.Nat.{ℕ, ◌+◌, ◌-◌}
use lib.ListN.{length, take, get_or}
use Rattle.paper.specs.Numbers.{wide}
use Rattle.paper.specs.Bits.{bits_of, pack, first_difference}
use Rattle.audit_form.specs.Places.{records_of}
use Rattle.audit_root.specs.Built.{grown, hashed, forked, nodes_of, Range}
use Rattle.audit_root.proofs.Single.{none-of, none-grown}
use Rattle.audit_root.proofs.Step.{Step, ends-at, range-step, range-few}
use Rattle.audit_root.proofs.+below.Goals as goal
use Rattle.audit_root.proofs.+below.Goals.{After-lefts, After-split_at}

pub returns-in-empty : goal.returns-in-empty
returns-in-empty t c =
    let a = c.args in
    sym (ap (λ r. grown (nodes_of a.new (records_of r))) (none-of a.rows.now c.in-empty.len_below) ∙ none-grown a.new)

-- what the cut gives
cut : (t : ℕ) (c : After-lefts t) → Step c.args.rows.now (get_or c.args.rows.now 0 []) c.args.from c.first_difference-k.result c.lefts.result
cut t c =
    let rows = c.args.rows.now in
    let k = c.first_difference-k.result in
    let e = c.first_difference-k.ensures ∙ ap₂ (λ x y. first_difference (take 32 x) (take 32 y)) c.label_at-label.ensures.bytes c.label_at.ensures.bytes in
    let (middle, q) = ends-at rows c.in-len2-up.len_at_least in
    subst (Step rows (get_or rows 0 []) c.args.from k) (sym c.lefts.ensures) (range-step rows c.args.from c.requires (get_or rows 0 []) middle (get_or rows (length rows - 1) []) q k e)

pub split_at-requires : goal.split_at-requires
split_at-requires t c = omega (arith, (cut t c).less)

left : (t : ℕ) (c : After-split_at t) → Range c.split_at.result.0.now (c.first_difference-k.result + 1)
left t c = rw c.split_at.ensures.front (cut t (goal.at.After-split_at t c).After-lefts).left

right : (t : ℕ) (c : After-split_at t) → Range c.split_at.result.1.now (c.first_difference-k.result + 1)
right t c = rw c.split_at.ensures.back (cut t (goal.at.After-split_at t c).After-lefts).right

pub overflow_add-k : goal.overflow_add-k
overflow_add-k t c = omega (arith, (cut t (goal.at.overflow_add-k t c).After-lefts).small)

pub below-left-requires : goal.below-left-requires
below-left-requires t c =
    let q = c.decreases in
    let k = cut t (goal.at.below-left-requires t c).After-lefts in
    (omega (arith, q, k.deeper, k.small), left t (goal.at.below-left-requires t c).After-split_at)

pub overflow_add-k-in-len2-up : goal.overflow_add-k-in-len2-up
overflow_add-k-in-len2-up t c = omega (arith, (cut t (goal.at.overflow_add-k-in-len2-up t c).After-lefts).small)

pub below-right-requires : goal.below-right-requires
below-right-requires t c =
    let q = c.decreases in
    let k = cut t (goal.at.below-right-requires t c).After-lefts in
    (omega (arith, q, k.deeper, k.small), right t (goal.at.below-right-requires t c).After-split_at)

pub overflow_cast-k : goal.overflow_cast-k
overflow_cast-k t c = omega (arith, (cut t (goal.at.overflow_cast-k t c).After-lefts).small)

pub fork-requires : goal.fork-requires
fork-requires t c =
    let l = left t (goal.at.fork-requires t c).After-split_at in
    let r = right t (goal.at.fork-requires t c).After-split_at in
    let a = c.args in
    omega (
      arith,
      ap hashed c.below-left.ensures,
      range-few c.split_at.result.0.now l.rises a.new,
      l.formed.few,
      ap hashed c.below-right.ensures,
      range-few c.split_at.result.1.now r.rises a.new,
      r.formed.few,
    )

pub returns-in-len2-up : goal.returns-in-len2-up
returns-in-len2-up t c =
    let a = c.args in
    let k = c.first_difference-k.result in
    let x = c.prefix_of.ensures ∙ ap (λ y. pack wide (take k (bits_of y))) c.label_at-label.ensures.bytes in
    let l = c.below-left.ensures ∙ ap (λ q. grown (nodes_of a.new (records_of q))) c.split_at.ensures.front in
    let r = c.below-right.ensures ∙ ap (λ q. grown (nodes_of a.new (records_of q))) c.split_at.ensures.back in
    c.fork.ensures ∙ (λ i. forked k (x i) (l i) (r i)) ∙ sym ((cut t (goal.at.returns-in-len2-up t c).After-lefts).joins a.new)
