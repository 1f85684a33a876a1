-- `noonhaggle::handset::noonhaggle_check_audit`: the checker's answer, as C has it.
use mathlib.Core.Path.{ap, ◌∙◌}
use Rattle.results.specs.Results.{audit_result}
use Rattle.noonhaggle.proofs.handset.noonhaggle_check_audit.Goals as goal

pub returns : goal.returns
returns c = c.into.ensures ∙ ap audit_result c.check_audit.ensures
