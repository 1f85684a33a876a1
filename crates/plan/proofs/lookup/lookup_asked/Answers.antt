-- `plan::lookup::lookup_asked` answers what stands at place i of the list of one or of three. Assumes nothing.
use mathlib.Core.Path.{◌≡◌, sym, ap, ◌∙◌}
use native.Mathlib.Omega.{arith}
use lib.ListN.{length, get_or-eq_default}
use Rattle.paper.specs.Shows.{missing, in_all}
use Rattle.paper.specs.Lookup.{lookup_asked}
use Rattle.plan.specs.Asked.{asked}
use Rattle.plan.proofs.Markers.{markers-most, markers-some}
use Rattle.plan.proofs.Rows.{lookup-some}
use Rattle.plan.proofs.lookup.lookup_asked.Goals as goal

pub returns-then-lookup_paths-i : goal.returns-then-lookup_paths-i
returns-then-lookup_paths-i c =
    let a = c.args in
    c.missing.ensures ∙ sym (ap asked (get_or-eq_default (lookup_asked a.v) (missing (in_all 0)) (omega arith)))

pub returns-then-v-eq0 : goal.returns-then-v-eq0
returns-then-v-eq0 c =
    let a = c.args in
    let z = c.if-v-eq0.true in
    let e : a.i ≡ 0 = omega (arith, ap (λ v. length (lookup_asked v)) z) in
    c.missing-then-v-eq0.ensures ∙ rw (z, e)

pub returns-then-i-eq0 : goal.returns-then-i-eq0
returns-then-i-eq0 c = c.present.ensures ∙ rw (lookup-some c.args.v (omega arith), c.if-i-eq0.true)

pub returns-then-i-eq1 : goal.returns-then-i-eq1
returns-then-i-eq1 c = c.missing-then-i-eq1.ensures ∙ rw (lookup-some c.args.v (omega arith), c.if-i-eq1.true)

pub overflow_cast-marker_of : goal.overflow_cast-marker_of
overflow_cast-marker_of c =
    let v = c.args.v in
    omega (arith, markers-most 16 v (omega arith) (omega arith), markers-some v (omega arith))

pub returns : goal.returns
returns c =
    let a = c.args in
    let s = lookup-some a.v (omega arith) in
    let e : a.i ≡ 2 = omega (arith, ap length s) in
    c.present-2.ensures ∙ rw (s, e, c.marker_of.ensures)
