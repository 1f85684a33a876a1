-- `runs::runs::each`: what is left of the row decides.
use native.Mathlib.Omega.{arith}
use mathlib.Core.Path.{sym, ◌∙◌}
use Rattle.std.proofs.lemmas.Result.{err_from_is_err_and}
use Rattle.runs.proofs.Going.{going-starts, going_on, going-fails, going-ends, steady-starts, steady_on}
use Rattle.runs.proofs.runs.each.Goals as goal

pub loop-i-init : goal.loop-i-init
loop-i-init g c = record {
  steady = steady-starts c.args.low c.args.high c.args.from;
  going = λ f h. going-starts f c.args.low c.args.high c.args.from;
}

pub returns-in_err-reader-clause-is : goal.returns-in_err-reader-clause-is
returns-in_err-reader-clause-is g c f h =
    let a = c.args in
    let p = err_from_is_err_and c.from_residual.result c.from_residual.ensures.1 in
    rw (p.1, p.2)
    (sym (going-fails f a.low a.high a.from c.loop-i.i c.loop-i.reader (c.loop-i.invariant.going f h) _ _ (omega arith) (h c.loop-i.i c.ask.result (omega arith) c.ask.ensures) (sym c.take.ensures.is ∙ c.in_err-reader.was)))

pub loop-i-preserved : goal.loop-i-preserved
loop-i-preserved g c =
    let a = c.args in
    record {
      steady = steady_on a.low a.high a.from c.loop-i.i c.loop-i.reader c.loop-i.invariant.steady _ _ (omega arith) (sym c.take.ensures.is ∙ c.in_ok-reader.was) c.in_ok-reader.ensures.counted;
      going = λ f h. going_on f a.low a.high a.from c.loop-i.i c.loop-i.reader (c.loop-i.invariant.going f h) _ _ (omega arith) (h c.loop-i.i c.ask.result (omega arith) c.ask.ensures) (sym c.take.ensures.is ∙ c.in_ok-reader.was) c.in_ok-reader.ensures.counted;
    }

pub returns-clause-is : goal.returns-clause-is
returns-clause-is g c f h =
    let a = c.args in
    going-ends f a.low a.high a.from c.loop-i.i c.loop-i.reader (c.loop-i.invariant.going f h) (omega arith)
