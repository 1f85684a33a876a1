-- `audit_form::prefix_form`: the range, and the bits past the prefix, which are zero if cutting them changes nothing.
use native.Mathlib.Omega.{arith}
use mathlib.Core.Path.{sym, ap₂, ◌∙◌}
use mathlib.Core.Logic.{inl, inr}
use Prim.Native.Nat.{◌≤◌}
use lib.ListN.{take, drop}
use borrow.Author.Tests.{ltb-true, ltb-false}
use Rattle.paper.specs.Numbers.{wide}
use Rattle.paper.specs.Bytes.{number, same}
use Rattle.paper.specs.Bits.{bits_of, pack}
use Rattle.audit_form.specs.Places.{key_at}
use Rattle.ranges.proofs.Slices.{bytewise}
use Rattle.audit_form.proofs.Record.{prefix-out, prefix-in}
use Rattle.audit_form.proofs.prefix_form.Goals as goal
use Rattle.audit_form.proofs.prefix_form.Goals.{then-length-lt1-via-else-length-lt1+then-length-gt255, then-length-lt1-via-then-length-lt1}

pub returns-then-length-lt1 : goal.returns-then-length-lt1
returns-then-length-lt1 c =
    let e = c.read16-length.ensures in
    sym (prefix-out c.args.row.now 0 (elim c.then-length-lt1.branch [ then-length-lt1-via-then-length-lt1 w ↦ inl (omega arith) | then-length-lt1-via-else-length-lt1+then-length-gt255 w ↦ inr (omega (arith, ltb-true)) ]))

pub returns : goal.returns
unfolding key_at
returns c =
    let s = c.args.row.now in
    let w = bytewise s (λ i. record { fits = c.fits-row i }) in
    let n = c.read16-length.ensures in
    let least : 1 ≤ number (take 2 (drop 1 s)) = omega arith in
    let most : number (take 2 (drop 1 s)) ≤ 255 = omega (arith, ltb-false) in
    c.same.ensures
    ∙ ap₂ same (c.prefix_of.ensures ∙ ap₂ (λ k x. pack wide (take k (bits_of x))) n c.label_at-prefix.ensures.bytes) c.label_at-prefix.ensures.bytes
    ∙ sym (prefix-in s 0 w (omega (arith, c.told-row)) least most)
