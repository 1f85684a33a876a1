-- What start and publishings left is a directory, over the records that are read back from its table. Assumes nothing.
use mathlib.Core.Path.{sym, ap, subst}
use Rattle.paper.specs.Bytes.{Bytes}
use Rattle.paper.specs.Labelling.{Labelling}
use Rattle.paper.specs.Left.{Left}
use Rattle.paper.specs.Standing.{Standing}
use Rattle.paper.specs.declared.State.{State}
use Rattle.paper.proofs.Standing.{kept-stands}
use Rattle.paper.proofs.Published.{left-kept}
use Rattle.directory.specs.Own.{records_read, directory}

pub left-stands : (lab : Labelling) {records heads : Bytes} {state : State} → Left lab records heads state → Standing lab records heads state (directory records state)
unfolding directory
left-stands lab {records} {heads} {state} left =
    let k = left-kept lab left in
    subst (Standing lab records heads state) (sym (ap records_read k.read)) (kept-stands lab k)
