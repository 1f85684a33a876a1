-- `promises::first::first_lookup`: what was opened is a directory, and so the answer is its own.
use Rattle.paper.specs.Labelling.{plain}
use Rattle.paper.specs.Publish.{Published}
use Rattle.std.specs.Prelude.{Err}
use Rattle.std.proofs.lemmas.Result.{err_from_is_err_and}
use Rattle.promises.specs.Kept.{lookup_kept, first_lookup}
use Rattle.promises.proofs.Chains.{first-refused, first-kept}
use Rattle.promises.proofs.first.first_lookup.Goals as goal
use Rattle.promises.proofs.first.first_lookup.Goals.{After-opened}

-- what opening left
abbrev made : After-opened → Published
made o = record { answer = o.opened.result; records = o.opened.new.records; heads = o.opened.new.heads }

pub lookup_kept-requires : goal.lookup_kept-requires
lookup_kept-requires c = c.opened.ensures.left _ c.in_ok-state.was

pub returns-in_err-state : goal.returns-in_err-state
unfolding first_lookup
returns-in_err-state c =
    let a = c.args in
    let (_, e, g) = err_from_is_err_and c.from_residual.result c.from_residual.ensures.1 in
    rw (e, g) (first-refused Err (λ rs hs s. lookup_kept plain rs hs s a.out.now a.name.now a.epoch) a.out.now (made (goal.at.returns-in_err-state c).After-opened) _ c.opened.ensures.is _ c.in_err-state.was)

pub returns : goal.returns
unfolding first_lookup
returns c =
    let a = c.args in
    first-kept Err (λ rs hs s. lookup_kept plain rs hs s a.out.now a.name.now a.epoch) a.out.now (made (goal.at.returns c).After-opened) _ c.opened.ensures.is _ c.in_ok-state.was
    (record { answer = c.lookup_kept.result; out = c.lookup_kept.new.out }) c.lookup_kept.ensures
