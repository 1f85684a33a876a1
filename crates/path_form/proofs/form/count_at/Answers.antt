-- `path_form::form::count_at`: the tests are those of the count's layout.
use borrow.Author.Tests.{ltb-true, ltb-false}
use native.Mathlib.Omega.{arith}
use mathlib.Core.Path.{sym}
use mathlib.Core.Logic.{inl, inr}
use Prim.Native.Nat.{◌+◌, ◌<◌}
use lib.ListN.{length}
use Rattle.ranges.proofs.Slices.{bytewise}
use Rattle.path_form.proofs.Reading.{count-short, count-out, count-read}
use Rattle.path_form.proofs.form.count_at.Goals as goal
use Rattle.path_form.proofs.form.count_at.Goals.{then-s-lt2-via-else-s-lt2+then-s-at, then-s-lt2-via-then-s-lt2}

pub returns-then-s-lt2 : goal.returns-then-s-lt2
returns-then-s-lt2 c =
    let a = c.args in
    let h : length a.s.now < a.at + 2 = elim c.then-s-lt2.branch [ then-s-lt2-via-then-s-lt2 w ↦ omega arith | then-s-lt2-via-else-s-lt2+then-s-at w ↦ omega (arith, ltb-true) ] in
    sym (count-short a.s.now a.at (bytewise a.s.now c.type_inv.s) h)

pub read16-count-requires : goal.read16-count-requires
read16-count-requires c = omega (arith, ltb-false)

pub returns-then-count-lt1 : goal.returns-then-count-lt1
returns-then-count-lt1 c =
    let a = c.args in
    sym (count-out a.s.now a.at (bytewise a.s.now c.type_inv.s) c.read16-count.result c.read16-count.ensures (elim c.then-count-lt1.either [ inl l ↦ inl l | inr l ↦ inr l.1 ]))

pub returns : goal.returns
returns c =
    let a = c.args in
    sym (count-read a.s.now a.at (bytewise a.s.now c.type_inv.s) c.read16-count.result c.read16-count.ensures (omega (arith, ltb-false)) (omega (arith, ltb-false)) (omega (arith, ltb-false)))
