-- `runs::leaves::past`: with each turn the place moves on by a path.
use borrow.Author.Rules.{rules}
use native.Mathlib.Omega.{arith}
use mathlib.Core.Path.{◌≡◌, ap, ◌∙◌}
use Rattle.runs.specs.Runs.{place_at}
use Rattle.runs.proofs.Cursors.{place_none, place-next}
use Rattle.runs.proofs.leaves.past.Goals as goal

pub loop-init : goal.loop-init
loop-init c = (search rules, place_none c.args.s.now c.args.at)

pub loop-preserved : goal.loop-preserved
loop-preserved c =
    let a = c.args in
    (omega arith, ap (λ x. x.next) c.leaf_at-here.ensures ∙ place-next a.s.now a.at c.loop.counter c.loop.here c.loop.invariant.1)

pub returns : goal.returns
returns c =
    let a = c.args in
    let e : c.loop.counter ≡ a.k = omega (arith, c.loop.invariant.0) in
    c.loop.invariant.1 ∙ ap (place_at a.s.now a.at) e
