-- `noonhaggle::server::noonhaggle_publish`: the entry's answer, as C has it.
use Rattle.noonhaggle.proofs.Left.{publish-left}
use Rattle.noonhaggle.proofs.server.noonhaggle_publish.Goals as goal

pub returns : goal.returns
returns c = publish-left _ _ _ _ _ c.into.ensures c.publish.ensures
