-- `tree_path::is_label`: labels are the same where their bytes are.
use native.Mathlib.Omega.{arith}
use mathlib.Core.Path.{sym, ap, ◌∙◌}
use lib.ListN.{take}
use lib.Seq.{length-take-le}
use Rattle.paper.specs.Bytes.{same}
use Rattle.paper.proofs.Lists.{all_take}
use Rattle.tree.proofs.Rising.{all-at}
use Rattle.tree_path.proofs.Labels.{same-bits}
use Rattle.tree_path.proofs.is_label.Goals as goal

pub returns : goal.returns
returns c =
    let s = c.args.leaf.now in
    let label = c.args.label.now in
    c.same.ensures ∙ ap (λ x. same x label) c.label_of.ensures.bytes
    ∙ same-bits (take 32 s) label (all_take _ 32 s (all-at _ s 0 (λ i h. c.fits-leaf i))) (all-at _ label 0 (λ i h. c.fits-label i))
    (length-take-le 32 s (omega (arith, c.told-leaf)) ∙ sym c.told-label)
