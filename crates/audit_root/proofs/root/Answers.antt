-- `audit_root::root`: the list is cut at the first bit, where `RootStep` says what the two sides come to.
use native.Mathlib.Omega.{arith}
use mathlib.Core.Path.{◌≡◌, sym, ap, ◌∙◌, subst}
use mathlib.Core.List.{[]}
use Rattle.paper.specs.Numbers.{wide}
use Rattle.paper.specs.Bits.{from_bits, pack}
use Rattle.paper.specs.Tree as T
use Rattle.paper.specs.Audit.{in_order}
use Rattle.audit_form.specs.Places.{records_at, records_of, Rows}
use Rattle.audit_form.proofs.Chunks.{rows-records, rows-listed}
use Rattle.audit_root.specs.Built.{built, grown, or_nothing, joined, nodes_of, Range}
use Rattle.audit_root.proofs.Step.{RootStep, root-step, sides-few}
use Rattle.audit_root.proofs.root.Goals as goal
use Rattle.audit_root.proofs.root.Goals.{After-lefts, After-split_at, After-rows-rows}

-- the rows are the list
are : (c : After-rows-rows) → records_of c.rows-rows.result.now ≡ records_at c.args.s.now c.args.at c.args.n
are c = ap records_of c.rows-rows.ensures ∙ rows-records c.args.s.now c.args.at c.args.n

formed : (c : After-rows-rows) → Rows c.rows-rows.result.now
formed c = rw c.rows-rows.ensures (rows-listed c.args.s.now c.args.at c.args.n c.requires.0)

-- the cut, where it is known
cut : (c : After-lefts) → RootStep c.rows-rows.result.now c.lefts.result
cut c =
    let r = (goal.at.After-lefts c).After-rows-rows in
    let e = ap in_order (are r) ∙ c.requires.1 in
    subst (RootStep c.rows-rows.result.now) (sym c.lefts.ensures) (root-step c.rows-rows.result.now (formed r) e)

pub split_at-requires : goal.split_at-requires
split_at-requires c = (cut c).most

left : (c : After-split_at) → Range c.split_at.result.0.now 1
left c = rw c.split_at.ensures.front (cut (goal.at.After-split_at c).After-lefts).left

right : (c : After-split_at) → Range c.split_at.result.1.now 1
right c = rw c.split_at.ensures.back (cut (goal.at.After-split_at c).After-lefts).right

pub below-requires : goal.below-requires
below-requires c = left (goal.at.below-requires c).After-split_at

pub below-requires-2 : goal.below-requires-2
below-requires-2 c = right (goal.at.below-requires-2 c).After-split_at

pub join-requires : goal.join-requires
join-requires c =
    let k = cut (goal.at.join-requires c).After-lefts in
    let a = c.args in
    let l = c.or_nothing-left.ensures ∙ ap or_nothing c.below.ensures ∙ ap (λ q. or_nothing (grown (nodes_of a.new (records_of q)))) c.split_at.ensures.front in
    let r = c.or_nothing-right.ensures ∙ ap or_nothing c.below-2.ensures ∙ ap (λ q. or_nothing (grown (nodes_of a.new (records_of q)))) c.split_at.ensures.back in
    omega (
      arith,
      ap (λ b. b.count) l,
      ap (λ b. b.count) r,
      sides-few c.rows-rows.result.now c.lefts.result k a.new,
      (formed (goal.at.join-requires c).After-rows-rows).few,
    )

pub returns : goal.returns
unfolding pack from_bits
returns c =
    let k = cut (goal.at.returns c).After-lefts in
    let a = c.args in
    let l = c.or_nothing-left.ensures ∙ ap or_nothing c.below.ensures ∙ ap (λ q. or_nothing (grown (nodes_of a.new (records_of q)))) c.split_at.ensures.front in
    let r = c.or_nothing-right.ensures ∙ ap or_nothing c.below-2.ensures ∙ ap (λ q. or_nothing (grown (nodes_of a.new (records_of q)))) c.split_at.ensures.back in
    c.join.ensures
    ∙ (λ i. joined 0 (pack wide []) (l i) (r i))
    ∙ k.joins a.new
    ∙ ap (λ R. built (T.root (nodes_of a.new R))) (are (goal.at.returns c).After-rows-rows)
