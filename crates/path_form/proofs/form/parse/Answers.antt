-- `path_form::form::parse`: count, steps and end are read one behind the other, as the layout does.
use native.Mathlib.Omega.{arith}
use mathlib.Core.Path.{◌≡◌, sym, ap, ◌∙◌}
use Prim.Native.Nat.{◌+◌, ◌*◌, ◌≤◌}
use lib.ListN.{length}
use Rattle.paper.specs.Bytes.{Bytewise}
use Rattle.path_form.specs.Parsed.{path_at}
use Rattle.ranges.proofs.Slices.{bytewise}
use Rattle.path_form.proofs.Steps.{rising-there}
use Rattle.path_form.proofs.Reading.{Counted, path_with, path-countless, path-counted, path-falls, path-rest}
use Rattle.path_form.proofs.form.parse.Goals as goal
use Rattle.path_form.proofs.form.parse.Goals.{After-count_at, After-end_at, In_ok-count, Else-not-rises}

bytes : (c : After-count_at) → Bytewise c.args.s.now
bytes c = bytewise c.args.s.now c.type_inv.s

counted : (c : In_ok-count) → Counted c.args.s.now c.args.at c.in_ok-count.count
counted c =
    path-counted c.args.s.now c.args.at (bytes (goal.at.In_ok-count c).After-count_at) _ (sym c.count_at.ensures ∙ c.in_ok-count.was)

-- steps that rise are there
there : (c : Else-not-rises) → c.args.at + 2 + 34 * c.in_ok-count.count ≤ length c.args.s.now
there c =
    rising-there c.args.s.now (c.args.at + 2) c.in_ok-count.count (counted (goal.at.Else-not-rises c).In_ok-count).there (sym c.rises.ensures ∙ c.if-not-rises.false)

pub returns-in_err-count : goal.returns-in_err-count
returns-in_err-count c =
    c.from_residual.ensures ∙ sym (path-countless c.args.s.now c.args.at (bytes (goal.at.returns-in_err-count c).After-count_at) (sym c.count_at.ensures ∙ c.in_err-count.was))

pub overflow_add-steps : goal.overflow_add-steps
overflow_add-steps c = omega (arith, (counted c).there)

pub rises-requires : goal.rises-requires
rises-requires c = ((counted c).there, (counted c).high)

pub returns-then-not-rises : goal.returns-then-not-rises
returns-then-not-rises c =
    sym (path-falls c.args.s.now c.args.at (bytes (goal.at.returns-then-not-rises c).After-count_at) c.in_ok-count.count (counted (goal.at.returns-then-not-rises c).In_ok-count)
    (sym c.rises.ensures ∙ c.if-not-rises.true))

pub overflow_mul-count : goal.overflow_mul-count
overflow_mul-count c = omega (arith, there c)

pub overflow_add-steps-2 : goal.overflow_add-steps-2
overflow_add-steps-2 c = omega (arith, there c)

pub end_at-requires : goal.end_at-requires
end_at-requires c = there c

-- with count and steps in order the end decides
rest : (c : After-end_at) →
    path_at c.args.s.now c.args.at ≡ path_with c.args.at c.in_ok-count.count c.end_at.result
rest c =
    path-rest c.args.s.now c.args.at (bytes (goal.at.After-end_at c).After-count_at) c.in_ok-count.count (counted (goal.at.After-end_at c).In_ok-count) (sym c.rises.ensures ∙ c.if-not-rises.false)
    ∙ ap (path_with c.args.at c.in_ok-count.count) (sym c.end_at.ensures)

pub returns-in_err-end : goal.returns-in_err-end
returns-in_err-end c =
    c.from_residual-in_err-end.ensures ∙ sym (rest (goal.at.returns-in_err-end c).After-end_at ∙ ap (path_with _ _) c.in_err-end.was)

pub returns : goal.returns
returns c =
    sym (rest (goal.at.returns c).After-end_at ∙ ap (path_with _ _) c.in_ok-end.was)
