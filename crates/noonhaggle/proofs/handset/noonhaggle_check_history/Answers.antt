-- `noonhaggle::handset::noonhaggle_check_history`: the checker's answer, as C has it.
use mathlib.Core.Path.{ap, ◌∙◌}
use Rattle.results.specs.Results.{history_result}
use Rattle.noonhaggle.proofs.handset.noonhaggle_check_history.Goals as goal

pub returns : goal.returns
returns c = c.into.ensures ∙ ap history_result c.check_history.ensures
