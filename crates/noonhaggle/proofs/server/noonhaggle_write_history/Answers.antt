-- `noonhaggle::server::noonhaggle_write_history`: the writer's answer, as C has it.
use Rattle.noonhaggle.proofs.Left.{write-left}
use Rattle.noonhaggle.proofs.server.noonhaggle_write_history.Goals as goal

pub returns : goal.returns
returns c = write-left _ _ _ _ c.into.ensures c.write_history.ensures
