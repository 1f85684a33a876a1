-- `start::empty_root`: an inner node over nothing and nothing.
use mathlib.Core.Path.{sym, ap, ◌∙◌}
use Rattle.fips.specs.Sha256.{sha256}
use Rattle.paper.specs.Numbers.{wide}
use Rattle.paper.specs.Bytes.{zeros}
use Rattle.paper.specs.Strings.{inner_string}
use Rattle.start.proofs.Started.{empty-root}
use Rattle.start.proofs.empty_root.Goals as goal

pub returns : goal.returns
returns c = c.inner.ensures ∙ ap (λ d. sha256 (inner_string 0 (zeros wide) d d)) c.nothing-none.ensures ∙ sym empty-root
