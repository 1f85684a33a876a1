-- `audit_rules::stands_before`: each key goes on past what the labels share, and there the second has a 1.
use native.Mathlib.Omega.{arith}
use borrow.Author.Tests.{le-ltb}
use mathlib.Core.Path.{◌≡◌, ap, ap₂, ◌∙◌}
use mathlib.Core.Bool.{false}
use Prim.Native.Nat.{◌≤◌, ◌<◌, min}
use lib.ListN.{take, drop, get_or}
use Rattle.paper.specs.Bytes.{number}
use Rattle.paper.specs.Bits.{bits_of, first_difference}
use Rattle.audit_form.specs.Places.{label_at}
use Rattle.audit_rules.proofs.Rules.{order-bit, order-ends}
use Rattle.audit_rules.proofs.stands_before.Goals as goal
use Rattle.audit_rules.proofs.stands_before.Goals.{After-min}

differ : (c : After-min) → c.first_difference-k.result ≡ first_difference (take 32 (label_at c.args.a.now 0)) (take 32 (label_at c.args.b.now 0))
differ c = c.first_difference-k.ensures ∙ ap₂ (λ x y. first_difference (take 32 x) (take 32 y)) c.label_at.ensures.bytes c.label_at-label.ensures.bytes

least : (c : After-min) → c.min.result ≡ min (number (take 2 (drop 1 c.args.a.now))) (number (take 2 (drop 1 c.args.b.now)))
least c = c.min.ensures ∙ ap₂ min c.read16.ensures c.read16-2.ensures

pub returns-then-k-min : goal.returns-then-k-min
returns-then-k-min c =
    let b = (goal.at.returns-then-k-min c).After-min in
    let h : c.first_difference-k.result < min (number (take 2 (drop 1 c.args.a.now))) (number (take 2 (drop 1 c.args.b.now))) = omega (arith, least b, c.if-k-min.true) in
    c.label_bit.ensures
    ∙ ap (λ x. get_or (bits_of x) c.first_difference-k.result false) c.label_at-label.ensures.bytes
    ∙ order-bit c.args.a.now c.args.b.now c.first_difference-k.result c.told-a c.told-b (differ b) h

pub returns-else-k-min : goal.returns-else-k-min
returns-else-k-min c =
    let b = (goal.at.returns-else-k-min c).After-min in
    let h : min (number (take 2 (drop 1 c.args.a.now))) (number (take 2 (drop 1 c.args.b.now))) ≤ c.first_difference-k.result = omega (arith, least b, c.if-k-min.false) in
    rw (le-ltb _ _ c.if-k-min.false) (order-ends c.args.a.now c.args.b.now c.first_difference-k.result c.told-a c.told-b (differ b) h)
