-- `runs::runs::replaced`: what is left of the row decides, and the place is that of the version after the one asked for.
use native.Mathlib.Omega.{arith}
use mathlib.Core.Path.{◌≡◌, sym, ap, ◌∙◌}
use Rattle.std.proofs.lemmas.Result.{err_from_is_err_and}
use Rattle.runs.specs.Runs.{ask_replaced}
use Rattle.runs.proofs.Going.{going-starts, going-ready, going_on, going-fails, going-ends}
use Rattle.runs.proofs.Cursors.{place_none, place-next, leaf-next, leaf-epoch}
use Rattle.runs.proofs.runs.replaced.Goals as goal
use Rattle.runs.proofs.runs.replaced.Goals.{After-take}

pub loop-i-init : goal.loop-i-init
loop-i-init c =
    let s = c.args.from.proof.now in (
      going-starts (ask_replaced s c.args.first) 1 c.args.n c.args.from,
      ap (λ x. x.next) c.leaf_at-later.ensures ∙ place-next s c.args.first 0 c.args.first (place_none s c.args.first),
    )

pub take-requires : goal.take-requires
take-requires c = going-ready (ask_replaced c.args.from.proof.now c.args.first) 1 c.args.n c.args.from c.loop-i.i c.loop-i.reader c.loop-i.invariant.0 _ (omega arith) c.requires (omega arith)

asked : (c : After-take) → c.present.result ≡ ask_replaced c.args.from.proof.now c.args.first c.loop-i.i
asked c =
    let a = c.args in
    c.present.ensures ∙ rw (leaf-epoch a.from.proof.now a.first c.loop-i.i c.loop-i.later c.leaf_at-leaf.result c.loop-i.invariant.1 c.leaf_at-leaf.ensures)

pub returns-in_err-reader : goal.returns-in_err-reader
returns-in_err-reader c =
    let a = c.args in
    let p = err_from_is_err_and c.from_residual.result c.from_residual.ensures.1 in
    rw (p.1, p.2) (record {
      is = sym (going-fails (ask_replaced a.from.proof.now a.first) 1 a.n a.from c.loop-i.i c.loop-i.reader c.loop-i.invariant.0 _ _ (omega arith) (asked (goal.at.returns-in_err-reader c).After-take) (sym c.take.ensures.is ∙ c.in_err-reader.was));
      counted = tt;
    })

pub loop-i-preserved : goal.loop-i-preserved
loop-i-preserved c =
    let a = c.args in (
      going_on (ask_replaced a.from.proof.now a.first) 1 a.n a.from c.loop-i.i c.loop-i.reader c.loop-i.invariant.0 _ _ (omega arith) (asked (goal.at.loop-i-preserved c).After-take) (sym c.take.ensures.is ∙ c.in_ok-reader.was) c.in_ok-reader.ensures.counted,
      leaf-next a.from.proof.now a.first c.loop-i.i c.loop-i.later c.leaf_at-leaf.result c.loop-i.invariant.1 c.leaf_at-leaf.ensures,
    )

pub returns : goal.returns
returns c =
    let a = c.args in
    record {
      is = going-ends (ask_replaced a.from.proof.now a.first) 1 a.n a.from c.loop-i.i c.loop-i.reader c.loop-i.invariant.0 (omega arith);
      counted = omega (arith, c.loop-i.invariant.0.count);
    }
