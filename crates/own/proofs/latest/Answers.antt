-- `own::latest`: from the last record back, none of those passed is the name's.
use native.Mathlib.Omega.{arith}
use mathlib.Core.Path.{◌≡◌, sym, ap, ◌∙◌}
use Prim.Native.Nat.{suc, ◌-◌}
use Rattle.table.specs.Index.{last_where}
use Rattle.table.proofs.Last.{last_none, last-yes, last-no}
use Rattle.own.specs.Own.{own_by}
use Rattle.own.proofs.latest.Goals as goal

pub returns-then-is_own : goal.returns-then-is_own
returns-then-is_own c =
    let a = c.args in
    let t = own_by a.records.now a.name.now a.epoch in
    let e : c.loop-k.k ≡ suc (c.loop-k.k - 1) = omega (arith, c.loop-k-test.true) in
    sym (c.loop-k.invariant ∙ ap (last_where t) e ∙ last-yes t (c.loop-k.k - 1) (sym c.is_own.ensures ∙ c.if-is_own.true))

pub loop-k-preserved : goal.loop-k-preserved
loop-k-preserved c =
    let a = c.args in
    let t = own_by a.records.now a.name.now a.epoch in
    let e : c.loop-k.k ≡ suc (c.loop-k.k - 1) = omega (arith, c.loop-k-test.true) in
    c.loop-k.invariant ∙ ap (last_where t) e ∙ last-no t (c.loop-k.k - 1) (sym c.is_own.ensures ∙ c.if-is_own.false)

pub returns : goal.returns
returns c =
    let a = c.args in
    let t = own_by a.records.now a.name.now a.epoch in
    let e : c.loop-k.k ≡ 0 = omega (arith, c.loop-k-test.false) in
    sym (c.loop-k.invariant ∙ ap (last_where t) e ∙ last_none t)
