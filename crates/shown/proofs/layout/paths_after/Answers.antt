-- `shown::layout::paths_after`: the place behind the paths passed is where the others stand.
use borrow.Author.Rules.{rules}
use native.Mathlib.Omega.{arith}
use native.Mathlib.Nat.{sub-zero}
use mathlib.Core.Path.{◌≡◌, refl, sym, ap, ◌∙◌}
use Prim.Native.Nat.{ℕ, ◌-◌}
use lib.ListN.{length, drop}
use Rattle.paper.specs.Layout.{Read, got, bad}
use Rattle.paper.specs.Fields.{path_field}
use Rattle.paper.specs.Path as P
use Rattle.paper.specs.Bytes.{Bytes, Bytewise}
use Rattle.paper.proofs.Proofs.{path-lawful}
use Rattle.ranges.proofs.Slices.{bytewise}
use Rattle.fields.specs.After.{after_of, after_at}
use Rattle.std.specs.Prelude.{Some, None}
use Rattle.fields.proofs.Behind.{after-within, loop-on, loop-stop, loop-end}
use Rattle.path_form.specs.Parsed.{path_of, path_at}
use Rattle.path_form.specs.declared.Path.{Path}
use Rattle.shown.proofs.layout.paths_after.Goals as goal
use Rattle.shown.proofs.layout.paths_after.Goals.{At-loop}

-- a parsed path: the place behind it
module _ (s : Bytes) (at : ℕ) where
  path-on : (p : Path) → path_at s at ≡ Some p → after_at path_field s at ≡ Some p.next
  unfolding path_at
  path-on p e = by (path_field.read (drop at s)) e
    where
      by : (x : Read P.Path) → path_of (length s) at x ≡ Some p → after_of (length s) x ≡ Some p.next
      by bad e = let z : ◌≡◌ {A = ℕ} 0 1 = cc in absurd (omega arith)
      by (got x r) e = let n : length s - length r ≡ p.next = cc in ap Some n

  path-stop : path_at s at ≡ None → after_at path_field s at ≡ None
  unfolding path_at
  path-stop e = by (path_field.read (drop at s)) e
    where
      by : (x : Read P.Path) → path_of (length s) at x ≡ None → after_of (length s) x ≡ None
      by bad e = refl
      by (got x r) e = let z : ◌≡◌ {A = ℕ} 0 1 = cc in absurd (omega arith)

bytes : (c : At-loop) → Bytewise c.args.s.now
bytes c = bytewise c.args.s.now c.type_inv.s

pub loop-init : goal.loop-init
loop-init c = (search rules, search rules, rw (sub-zero c.args.m))

pub returns-in_err-place : goal.returns-in_err-place
returns-in_err-place c =
    let a = c.args in
    c.from_residual.ensures
    ∙ sym (c.loop.invariant.2 ∙ loop-stop path-lawful a.s.now (bytes (goal.at.returns-in_err-place c).At-loop) a.m c.loop.counter c.loop.place (omega arith) (omega arith)
    (path-stop a.s.now c.loop.place (sym c.parse.ensures ∙ c.in_err-place.was)))

pub loop-preserved : goal.loop-preserved
loop-preserved c =
    let a = c.args in
    let e = path-on a.s.now c.loop.place _ (sym c.parse.ensures ∙ c.in_ok-place.was) in (
      omega arith,
      after-within path-lawful a.s.now (bytes (goal.at.loop-preserved c).At-loop) c.loop.place _ (omega arith) e,
      c.loop.invariant.2 ∙ loop-on path-lawful a.s.now (bytes (goal.at.loop-preserved c).At-loop) a.m c.loop.counter c.loop.place (omega arith) _ (omega arith) e,
    )

pub returns : goal.returns
returns c =
    let a = c.args in
    sym (c.loop.invariant.2 ∙ loop-end path-lawful a.s.now (bytes (goal.at.returns c).At-loop) a.m c.loop.counter c.loop.place (omega arith) (omega arith))
