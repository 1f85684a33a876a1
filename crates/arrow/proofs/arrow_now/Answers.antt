-- `arrow::arrow_now`: both checks at one head.
use mathlib.Core.Path.{◌≡◌, sym, ap, ◌∙◌}
use mathlib.Core.List.{[]}
use Rattle.std.specs.Prelude.{is_ok}
use Rattle.paper.specs.Labelling.{plain}
use Rattle.paper.specs.Lookup.{check_lookup}
use Rattle.paper.proofs.Labelling.{plain-tied}
use Rattle.ranges.proofs.Slices.{bytewise}
use Rattle.arrow.proofs.Pointing.{pointed, now-is}
use Rattle.arrow.proofs.arrow_now.Goals as goal
use Rattle.arrow.proofs.arrow_now.Goals.{After-is_ok}

-- whether the lookup is accepted
looked : (c : After-is_ok) → let a = c.args in c.is_ok.result ≡ is_ok (check_lookup plain a.head.now a.name.now a.lookup.now)
looked c = c.is_ok.ensures.value ∙ ap is_ok c.check_lookup.ensures

pub returns-then-is_ok : goal.returns-then-is_ok
returns-then-is_ok c =
    let a = c.args in
    let l = sym (looked (goal.at.returns-then-is_ok c).After-is_ok) ∙ c.if-is_ok.true in
    pointed plain plain-tied a.head.now a.name.now a.lookup.now [] a.history.now _ (bytewise a.lookup.now c.type_inv.lookup) tt (bytewise a.history.now c.type_inv.history)
    (c.is_ok-then-is_ok.ensures.value ∙ ap is_ok c.check_history.ensures ∙ sym (now-is plain a.head.now a.name.now a.lookup.now a.history.now ∙ rw l))

pub returns-else-is_ok : goal.returns-else-is_ok
returns-else-is_ok c =
    let a = c.args in
    let l = sym (looked (goal.at.returns-else-is_ok c).After-is_ok) ∙ c.if-is_ok.false in
    pointed plain plain-tied a.head.now a.name.now a.lookup.now [] a.history.now _ (bytewise a.lookup.now c.type_inv.lookup) tt (bytewise a.history.now c.type_inv.history)
    (c.if-is_ok.false ∙ sym (now-is plain a.head.now a.name.now a.lookup.now a.history.now ∙ rw l))
