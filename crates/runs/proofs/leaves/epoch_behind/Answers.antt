-- `runs::leaves::epoch_behind`: the path stands k times on from the first.
use Rattle.runs.proofs.Cursors.{leaf-epoch}
use Rattle.runs.proofs.leaves.epoch_behind.Goals as goal

pub returns : goal.returns
returns c =
    let a = c.args in
    leaf-epoch a.s.now a.first a.k c.past.result c.leaf_at.result c.past.ensures c.leaf_at.ensures
