-- `noonhaggle::server::noonhaggle_write_audit`: the writer's answer, as C has it.
use Rattle.noonhaggle.proofs.Left.{write-left}
use Rattle.noonhaggle.proofs.server.noonhaggle_write_audit.Goals as goal

pub returns : goal.returns
returns c = write-left _ _ _ _ c.into.ensures c.write_audit.ensures
