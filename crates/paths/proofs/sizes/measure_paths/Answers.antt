-- `paths::sizes::measure_paths`: those passed are measured.
use native.Mathlib.Omega.{arith}
use native.Mathlib.Numerals.{add-one}
use mathlib.Core.Path.{◌≡◌, sym, ap, ◌∙◌, subst}
use lib.ListN.{length, take, get_or}
use lib.Seq.{take-length}
use Rattle.paper.specs.Lists.{every}
use Rattle.std.proofs.Common.{Some, None}
use Rattle.paper.specs.Fields.{path_field}
use Rattle.paper.specs.Shows as P
use Rattle.plan.specs.Asked.{asked_of}
use Rattle.paths.specs.Paths.{wanted, path_for, free_for, path_bytes, all_of, old_of, Sized}
use Rattle.paths.proofs.Asked.{wanted-back, bytes-none, free-none, sum_more, one_there}
use Rattle.paths.proofs.sizes.measure_paths.Goals as goal
use Rattle.paths.proofs.sizes.measure_paths.Goals.{After-asked, In_ok-sum}

pub loop-i-init : goal.loop-i-init
loop-i-init c =
    let a = c.args in
    let A = all_of a.trees.now in
    let O = old_of a.trees.now in
    record { bound = omega arith; free = free-none a.name.now A O (asked_of a.plan); sizes = sym (ap length (bytes-none a.name.now A O (asked_of a.plan))) }

-- what is asked of the next path
next-asked : (c : After-asked) → wanted c.asked.result ≡ get_or (asked_of c.args.plan) c.loop-i.i (P.missing (P.in_all 0))
next-asked c = ap wanted c.asked.ensures ∙ wanted-back (get_or (asked_of c.args.plan) c.loop-i.i (P.missing (P.in_all 0)))

pub returns-in_err-sum : goal.returns-in_err-sum
returns-in_err-sum c =
    let a = c.args in
    let A = all_of a.trees.now in
    let O = old_of a.trees.now in
    let one = subst (λ x. Sized (free_for a.name.now A O x) (path_field.bytes (path_for a.name.now A O x)) None) (next-asked (goal.at.returns-in_err-sum c).After-asked) c.in_err-sum.ensures in
    rw c.from_residual.ensures (one_there a.name.now A O (asked_of a.plan) c.loop-i.i (P.missing (P.in_all 0)) (omega (arith, c.loop-i-test.true, c.paths-i-end.ensures)) one)

-- the next path is measured
one : (c : In_ok-sum) → let a = c.args in let x = get_or (asked_of a.plan) c.loop-i.i (P.missing (P.in_all 0)) in
    Sized (free_for a.name.now (all_of a.trees.now) (old_of a.trees.now) x) (path_field.bytes (path_for a.name.now (all_of a.trees.now) (old_of a.trees.now) x)) (Some c.in_ok-sum.field-0)
one c =
    let a = c.args in
    subst (λ x. Sized (free_for a.name.now (all_of a.trees.now) (old_of a.trees.now) x) (path_field.bytes (path_for a.name.now (all_of a.trees.now) (old_of a.trees.now) x)) (Some c.in_ok-sum.field-0)) (next-asked (goal.at.In_ok-sum c).After-asked) c.in_ok-sum.ensures

pub overflow_add-sum : goal.overflow_add-sum
overflow_add-sum c =
    let m = one (goal.at.overflow_add-sum c).In_ok-sum in
    omega (arith, c.loop-i.invariant.bound, c.loop-i-test.true, c.paths-i-end.ensures, c.requires.1, m.measured.1, m.most)

pub loop-i-preserved : goal.loop-i-preserved
loop-i-preserved c =
    let a = c.args in
    let A = all_of a.trees.now in
    let O = old_of a.trees.now in
    let m = one c in
    let more = sum_more a.name.now A O (asked_of a.plan) c.loop-i.i (P.missing (P.in_all 0)) (omega (arith, c.loop-i-test.true, c.paths-i-end.ensures)) c.loop-i.sum c.in_ok-sum.field-0 c.loop-i.invariant.free c.loop-i.invariant.sizes m in
    record { bound = omega (arith, c.loop-i.invariant.bound, m.measured.1, m.most); free = rw (add-one c.loop-i.i) more.0; sizes = rw (add-one c.loop-i.i) more.1 }

pub returns : goal.returns
returns c =
    let a = c.args in
    let A = all_of a.trees.now in
    let O = old_of a.trees.now in
    let k : c.loop-i.i ≡ length (asked_of a.plan) = omega (arith, c.loop-i.auto.i-end, c.loop-i-test.false, c.paths-i-end.ensures) in
    let e : take c.loop-i.i (asked_of a.plan) ≡ asked_of a.plan = ap (λ j. take j (asked_of a.plan)) k ∙ take-length (asked_of a.plan) in
    (ap (every (free_for a.name.now A O)) (sym e) ∙ c.loop-i.invariant.free, c.loop-i.invariant.sizes ∙ ap (λ x. length (path_bytes a.name.now A O x)) e)
