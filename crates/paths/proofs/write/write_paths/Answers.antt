-- `paths::write::write_paths`: those passed are written.
use native.Mathlib.Omega.{arith}
use native.Mathlib.Numerals.{add-one}
use mathlib.Core.Path.{◌≡◌, ap, ◌∙◌, subst}
use lib.ListN.{length, take, get_or}
use lib.Seq.{take-length}
use Rattle.paper.specs.Fields.{path_field}
use Rattle.paper.specs.Shows as P
use Rattle.plan.specs.Asked.{asked_of}
use Rattle.path_fields.specs.Written.{Wrote}
use Rattle.paths.specs.Paths.{wanted, path_for, path_bytes, all_of, old_of}
use Rattle.paths.proofs.Asked.{wanted-back, wrote_none, bytes-room, wrote-more}
use Rattle.paths.proofs.write.write_paths.Goals as goal
use Rattle.paths.proofs.write.write_paths.Goals.{After-asked}

pub loop-i-init : goal.loop-i-init
loop-i-init c =
    let a = c.args in
    wrote_none a.name.now (all_of a.trees.now) (old_of a.trees.now) (asked_of a.plan) a.out.now a.at

-- what is asked of the next path
next-asked : (c : After-asked) → wanted c.asked.result ≡ get_or (asked_of c.args.plan) c.loop-i.i (P.missing (P.in_all 0))
next-asked c = ap wanted c.asked.ensures ∙ wanted-back (get_or (asked_of c.args.plan) c.loop-i.i (P.missing (P.in_all 0)))

pub write_one-next-requires : goal.write_one-next-requires
write_one-next-requires c =
    let a = c.args in
    let A = all_of a.trees.now in
    let O = old_of a.trees.now in
    let h = c.loop-i-test.true in
    let e = ap (λ x. length (path_field.bytes (path_for a.name.now A O x))) (next-asked (goal.at.write_one-next-requires c).After-asked) in
    let room = bytes-room a.name.now A O (asked_of a.plan) c.loop-i.i (P.missing (P.in_all 0)) (omega (arith, h, c.paths-i-end.ensures)) in
    (c.requires.0, omega (arith, c.requires.1, c.loop-i.auto.out, c.loop-i.invariant.behind, room, e))

pub loop-i-preserved : goal.loop-i-preserved
loop-i-preserved c =
    let a = c.args in
    let A = all_of a.trees.now in
    let O = old_of a.trees.now in
    let i = c.loop-i.i in
    let h = c.loop-i-test.true in
    let d = P.missing (P.in_all 0) in
    let one = subst (λ x. Wrote c.loop-i.out c.loop-i.next (path_field.bytes (path_for a.name.now A O x)) c.write_one-next.new.out c.write_one-next.result) (next-asked (goal.at.loop-i-preserved c).After-asked) c.write_one-next.ensures in
    rw (add-one i) (wrote-more a.name.now A O (asked_of a.plan) i d (omega (arith, h, c.paths-i-end.ensures)) a.out.now c.loop-i.out _ a.at c.loop-i.next _ (omega (arith, c.requires.1)) c.loop-i.invariant one)

pub returns : goal.returns
returns c =
    let a = c.args in
    let k : c.loop-i.i ≡ length (asked_of a.plan) = omega (arith, c.loop-i.auto.i-end, c.loop-i-test.false, c.paths-i-end.ensures) in
    let e : take c.loop-i.i (asked_of a.plan) ≡ asked_of a.plan = ap (λ j. take j (asked_of a.plan)) k ∙ take-length (asked_of a.plan) in
    subst (λ x. Wrote a.out.now a.at (path_bytes a.name.now (all_of a.trees.now) (old_of a.trees.now) x) c.loop-i.out c.loop-i.next) e c.loop-i.invariant
