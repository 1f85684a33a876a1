-- `runs::runs::versions`: what is left of the row decides; the places are those of the version's key and path, and the lowest
-- epoch is one more than that of the version before.
use native.Mathlib.Omega.{arith}
use mathlib.Core.Path.{◌≡◌, refl, sym, ap, ◌∙◌, subst}
use Prim.Native.Nat.{◌+◌, ◌-◌}
use Rattle.std.proofs.lemmas.Result.{err_from_is_err_and}
use Rattle.shown.specs.Form.{ItemStands}
use Rattle.runs.specs.Runs.{ask_version, item_at, path_on, place_at, epoch_from}
use Rattle.runs.proofs.Going.{going-starts, going-ready, going_on, going-fails, going-ends}
use Rattle.runs.proofs.Cursors.{place_none, item-none, epoch-none, item-next, place-next, leaf-epoch, step-moves}
use Rattle.runs.proofs.runs.versions.Goals as goal
use Rattle.runs.proofs.runs.versions.Goals.{In-loop-i, After-take}

pub overflow_add-i-end : goal.overflow_add-i-end
overflow_add-i-end c = omega (arith, c.requires.small)

pub loop-i-init : goal.loop-i-init
loop-i-init c =
    let s = c.args.first.proof.now in record {
      some = omega arith;
      most = refl;
      going = going-starts (ask_version s c.args.first.at c.args.epoch) 1 (c.args.n + 1) c.args.first;
      item = item-none s;
      here = place_none s c.args.first.at;
      low = ap (λ k. k + 1) (epoch-none s c.args.first.at);
    }

-- the key stands whole
stands : (c : In-loop-i) → ItemStands c.args.first.proof.now c.loop-i.item
stands c =
    subst (ItemStands c.args.first.proof.now) (sym c.loop-i.invariant.item) (c.requires.items (c.loop-i.i - 1) (omega (arith, c.loop-i.invariant.some, c.loop-i.invariant.most)))

pub commitment_at-key-requires : goal.commitment_at-key-requires
commitment_at-key-requires c = stands c

pub bounds-proof-item : goal.bounds-proof-item
bounds-proof-item c = let r = (stands (goal.at.bounds-proof-item c).In-loop-i).room in omega arith

pub take-requires : goal.take-requires
take-requires c =
    going-ready (ask_version c.args.first.proof.now c.args.first.at c.args.epoch) 1 (c.args.n + 1) c.args.first c.loop-i.i c.loop-i.reader c.loop-i.invariant.going _ (omega arith) c.requires.ahead (omega (arith, c.loop-i.invariant.most))

asked : (c : After-take) → c.present-asked.result ≡ ask_version c.args.first.proof.now c.args.first.at c.args.epoch c.loop-i.i
asked c = c.present-asked.ensures ∙ rw (c.commitment_at-key.ensures, c.loop-i.invariant.item, c.loop-i.invariant.low)

pub returns-in_err-reader : goal.returns-in_err-reader
returns-in_err-reader c =
    let a = c.args in
    let p = err_from_is_err_and c.from_residual.result c.from_residual.ensures.1 in
    rw (p.1, p.2) (record {
      is = sym (going-fails (ask_version a.first.proof.now a.first.at a.epoch) 1 (a.n + 1) a.first c.loop-i.i c.loop-i.reader c.loop-i.invariant.going _ _ (omega (arith, c.loop-i.invariant.most)) (asked (goal.at.returns-in_err-reader c).After-take) (sym c.take.ensures.is ∙ c.in_err-reader.was));
      counted = tt;
    })

pub loop-i-preserved : goal.loop-i-preserved
loop-i-preserved c =
    let a = c.args in
    let s = a.first.proof.now in
    let i = c.loop-i.i in
    let v = c.loop-i.invariant in
    let e : i - 1 + 1 ≡ i + 1 - 1 = omega (arith, v.some) in
    let took = sym c.take.ensures.is ∙ c.in_ok-reader.was in
    let moved = step-moves _ c.loop-i.reader c.in_ok-reader.reader took ∙ ap (λ b. path_on b.now c.loop-i.reader.at) v.going.proof in
    record {
      some = omega arith;
      most = v.most;
      going = going_on (ask_version s a.first.at a.epoch) 1 (a.n + 1) a.first i c.loop-i.reader v.going _ _ (omega (arith, v.most)) (asked (goal.at.loop-i-preserved c).After-take) took c.in_ok-reader.ensures.counted;
      item = item-next s (i - 1) c.loop-i.item v.item ∙ ap (item_at s) e;
      here = moved ∙ place-next s a.first.at (i - 1) c.loop-i.reader.at v.here ∙ ap (place_at s a.first.at) e;
      low = ap (λ k. k + 1) (leaf-epoch s a.first.at (i - 1) c.loop-i.reader.at c.leaf_at.result v.here c.leaf_at.ensures ∙ ap (epoch_from s a.first.at) e);
    }

pub returns : goal.returns
returns c =
    let a = c.args in
    record {
      is = going-ends (ask_version a.first.proof.now a.first.at a.epoch) 1 (a.n + 1) a.first c.loop-i.i c.loop-i.reader c.loop-i.invariant.going (omega (arith, c.loop-i.invariant.most));
      counted = omega (arith, c.loop-i.invariant.going.count);
    }
