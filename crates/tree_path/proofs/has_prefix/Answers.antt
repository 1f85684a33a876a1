-- `tree_path::has_prefix`: two labels share as many bits as they agree on.
use native.Mathlib.Omega.{arith}
use mathlib.Core.Path.{ap, ◌∙◌}
use lib.Dec.{leb}
use lib.ListN.{take}
use Rattle.paper.specs.Bits.{first_difference}
use Rattle.tree_path.proofs.Labels.{begins-by}
use Rattle.tree_path.proofs.has_prefix.Goals as goal

pub returns : goal.returns
returns c =
    let a = c.args in
    let e = c.first_difference.ensures ∙ ap (λ x. first_difference (take 32 a.label.now) (take 32 x)) c.label_of.ensures.bytes in
    ap (leb a.k) e ∙ begins-by a.leaf.now a.label.now a.k (omega (arith, c.told-leaf)) c.told-label c.requires
