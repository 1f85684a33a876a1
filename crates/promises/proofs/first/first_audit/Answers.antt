-- `promises::first::first_audit`: what was opened is a directory, and so the answer is its own.
use Rattle.paper.specs.Labelling.{plain}
use Rattle.paper.specs.Publish.{Published}
use Rattle.std.specs.Prelude.{Err}
use Rattle.std.proofs.lemmas.Result.{err_from_is_err_and}
use Rattle.promises.specs.Kept.{audit_kept, first_audit}
use Rattle.promises.proofs.Chains.{first-refused, first-kept}
use Rattle.promises.proofs.first.first_audit.Goals as goal
use Rattle.promises.proofs.first.first_audit.Goals.{After-opened}

-- what opening left
abbrev made : After-opened → Published
made o = record { answer = o.opened.result; records = o.opened.new.records; heads = o.opened.new.heads }

pub audit_kept-requires : goal.audit_kept-requires
audit_kept-requires c = c.opened.ensures.left _ c.in_ok-state.was

pub returns-in_err-state : goal.returns-in_err-state
unfolding first_audit
returns-in_err-state c =
    let a = c.args in
    let (_, e, g) = err_from_is_err_and c.from_residual.result c.from_residual.ensures.1 in
    rw (e, g) (first-refused Err (λ rs hs s. audit_kept plain rs hs s a.out.now a.epoch) a.out.now (made (goal.at.returns-in_err-state c).After-opened) _ c.opened.ensures.is _ c.in_err-state.was)

pub returns : goal.returns
unfolding first_audit
returns c =
    let a = c.args in
    first-kept Err (λ rs hs s. audit_kept plain rs hs s a.out.now a.epoch) a.out.now (made (goal.at.returns c).After-opened) _ c.opened.ensures.is _ c.in_ok-state.was
    (record { answer = c.audit_kept.result; out = c.audit_kept.new.out }) c.audit_kept.ensures
