-- `noonhaggle::handset::noonhaggle_sha256`: the digest in a struct.
use mathlib.Core.Path.{ap}
use Rattle.noonhaggle.proofs.handset.noonhaggle_sha256.Goals as goal

pub returns : goal.returns
returns c = ap (λ d. record { bytes = d }) c.sha256-digest.ensures
