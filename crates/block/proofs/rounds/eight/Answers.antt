-- `block::rounds::eight` meets its contract: a round after the other. Assumes nothing.
use Rattle.block.proofs.Turns.{rounds-eight}
use Rattle.block.proofs.rounds.eight.Goals as goal

pub returns : goal.returns
returns c x =
    let a = c.args in
    rounds-eight a.w.now x a.t
    c.round-r.ensures
    c.round-r-2.ensures
    c.round-r-3.ensures
    c.round-r-4.ensures
    c.round-r-5.ensures
    c.round-r-6.ensures
    c.round-r-7.ensures
    c.round.ensures
