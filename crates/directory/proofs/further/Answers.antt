-- `directory::further`: what publishing leaves of a directory is one.
use Rattle.paper.specs.Labelling.{plain}
use Rattle.ranges.proofs.Slices.{bytewise}
use Rattle.directory.proofs.Publishings.{further-left}
use Rattle.directory.proofs.further.Goals as goal

pub returns : goal.returns
returns c =
    let batch = c.args.batch.now in
    further-left plain c.requires batch (bytewise batch c.type_inv.batch) _ c.publish.ensures
