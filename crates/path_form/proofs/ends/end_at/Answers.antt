-- `path_form::ends::end_at`: the kind says which fields follow.
use borrow.Author.Rules.{rules}
use native.Mathlib.Omega.{arith}
use mathlib.Core.Path.{◌≡◌, sym, ◌∙◌}
use Prim.Native.Nat.{ℕ, ◌+◌, ◌<◌, ◌≤◌}
use lib.ListN.{get_or}
use Rattle.paper.specs.Bytes.{Bytewise}
use Rattle.paper.specs.Fields.{end_of, end_field}
use Rattle.path_form.specs.Parsed.{ended_at}
use Rattle.ranges.proofs.Slices.{bytewise}
use Rattle.path_form.proofs.Ending.{kind-missing, kind-good, kind-bad, none-yes, none-no}
use Rattle.path_form.proofs.ends.end_at.Goals as goal
use Rattle.path_form.proofs.ends.end_at.Goals.{After-shared_slice_known-2-1}

pub returns-then-at-s : goal.returns-then-at-s
returns-then-at-s c =
    let a = c.args in
    sym (kind-missing a.m a.s.now a.at (bytewise a.s.now c.type_inv.s) (search rules))

bytes : (c : After-shared_slice_known-2-1) → Bytewise c.args.s.now
bytes c = bytewise c.args.s.now c.shared_slice_known-1.given

-- where the kind is k, the end is one of that kind
by_kind : (c : After-shared_slice_known-2-1) (k : ℕ) → let a = c.args in get_or a.s.now a.at 0 ≡ k → k ≤ 3
    → ended_at (end_of a.m k) a.s.now (a.at + 1) (a.at + 1) ≡ ended_at (end_field a.m) a.s.now a.at (a.at + 1)
by_kind c k e l =
    let a = c.args in
    sym (kind-good a.m a.s.now a.at (bytes c) k (search rules) e l)

pub returns-in-0 : goal.returns-in-0
returns-in-0 c = c.this_leaf.ensures c.args.m ∙ by_kind (goal.at.returns-in-0 c).After-shared_slice_known-2-1 0 c.in-0.is (omega arith)

pub returns-in-1 : goal.returns-in-1
returns-in-1 c = c.other_leaf.ensures c.args.m ∙ by_kind (goal.at.returns-in-1 c).After-shared_slice_known-2-1 1 c.in-1.is (omega arith)

pub returns-in-2 : goal.returns-in-2
returns-in-2 c = c.other_inner.ensures c.args.m ∙ by_kind (goal.at.returns-in-2 c).After-shared_slice_known-2-1 2 c.in-2.is (omega arith)

pub returns-in-3 : goal.returns-in-3
returns-in-3 c =
    let a = c.args in
    sym (none-yes a.m a.s.now (a.at + 1) (bytes (goal.at.returns-in-3 c).After-shared_slice_known-2-1) (search rules) c.if-m-eq1.true) ∙ by_kind (goal.at.returns-in-3 c).After-shared_slice_known-2-1 3 c.in-3.is (omega arith)

pub returns-in_default : goal.returns-in_default
returns-in_default c =
    let a = c.args in
    sym (none-no a.m a.s.now (a.at + 1) (bytes (goal.at.returns-in_default c).After-shared_slice_known-2-1) c.if-m-eq1.false) ∙ by_kind (goal.at.returns-in_default c).After-shared_slice_known-2-1 3 c.in-3.is (omega arith)

pub returns-in_default-2 : goal.returns-in_default-2
returns-in_default-2 c =
    let a = c.args in
    let h : 3 < get_or a.s.now a.at 0 = omega arith in
    sym (kind-bad a.m a.s.now a.at (bytes (goal.at.returns-in_default-2 c).After-shared_slice_known-2-1) (search rules) h)
