-- `shown::layout::first_path`: keys and paths are read one behind the other, and the place behind the last is the end.
use mathlib.Core.Path.{◌≡◌, sym, ◌∙◌}
use Rattle.paper.specs.Bytes.{Bytewise}
use Rattle.paper.specs.Layout.{times}
use Rattle.paper.specs.Shows.{item_field}
use Rattle.paper.proofs.Layouts.{times-lawful}
use Rattle.paper.proofs.Proofs.{item-lawful}
use Rattle.ranges.proofs.Slices.{bytewise}
use Rattle.fields.specs.After.{after_at}
use Rattle.std.specs.Prelude.{Some}
use Rattle.fields.proofs.Behind.{after-within}
use Rattle.shown.proofs.Formed.{first-keyless, first-pathless, first_more, first-at}
use Rattle.shown.proofs.layout.first_path.Goals as goal
use Rattle.shown.proofs.layout.first_path.Goals.{After-items_after, In_ok-start}

bytes : (c : After-items_after) → Bytewise c.args.s.now
bytes c = bytewise c.args.s.now c.type_inv.s

pub returns-in_err-start : goal.returns-in_err-start
returns-in_err-start c =
    let a = c.args in
    c.from_residual.ensures
    ∙ sym (first-keyless a.k a.m a.s.now (bytes (goal.at.returns-in_err-start c).After-items_after) c.requires (sym c.items_after.ensures ∙ c.in_err-start.was))

-- the keys end where the paths start
keyed : (c : In_ok-start) →
    after_at (times c.args.k item_field) c.args.s.now 108 ≡ Some c.in_ok-start.start
keyed c = sym c.items_after.ensures ∙ c.in_ok-start.was

pub paths_after-requires : goal.paths_after-requires
paths_after-requires c =
    let a = c.args in
    after-within (times-lawful a.k item-lawful) a.s.now (bytes (goal.at.paths_after-requires c).After-items_after) 108 _ c.requires (keyed c)

pub returns-in_err-last : goal.returns-in_err-last
returns-in_err-last c =
    let a = c.args in
    c.from_residual-in_err-last.ensures
    ∙ sym (first-pathless a.k a.m a.s.now (bytes (goal.at.returns-in_err-last c).After-items_after) c.requires _ (keyed (goal.at.returns-in_err-last c).In_ok-start) (sym c.paths_after.ensures ∙ c.in_err-last.was))

pub returns-then-last-s : goal.returns-then-last-s
returns-then-last-s c =
    let a = c.args in
    sym (first_more a.k a.m a.s.now (bytes (goal.at.returns-then-last-s c).After-items_after) c.requires _ (keyed (goal.at.returns-then-last-s c).In_ok-start) _ (sym c.paths_after.ensures ∙ c.in_ok-last.was) c.if-last-s.true)

pub returns : goal.returns
returns c =
    let a = c.args in
    sym (first-at a.k a.m a.s.now (bytes (goal.at.returns c).After-items_after) c.requires _ (keyed (goal.at.returns c).In_ok-start) _ (sym c.paths_after.ensures ∙ c.in_ok-last.was) c.if-last-s.false)
