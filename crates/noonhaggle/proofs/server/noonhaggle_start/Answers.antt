-- `noonhaggle::server::noonhaggle_start`: the entry's answer, as C has it.
use Rattle.noonhaggle.proofs.Left.{start-left}
use Rattle.noonhaggle.proofs.server.noonhaggle_start.Goals as goal

pub returns : goal.returns
returns c = start-left _ _ _ _ c.into.ensures c.start.ensures
