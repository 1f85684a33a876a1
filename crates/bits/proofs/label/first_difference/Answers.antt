-- `bits::label::first_difference` gives the first place at which the labels differ, or the shorter one's end.
use mathlib.Core.Path.{sym, ◌∙◌}
use mathlib.Core.Logic.{⊎_elim}
use Prim.Native.Nat.{◌+◌, ◌*◌}
use native.Mathlib.Omega.{arith}
use borrow.Author.Tests.{eqb-true, eqb-false}
use Rattle.paper.specs.Bits.{bits_of}
use Rattle.bits.proofs.Lcp.{agree-more, bits-same, bits-differ, first_difference-at}
use Rattle.bits.proofs.label.first_difference.Goals as goal

pub bytes-init : goal.bytes-init
bytes-init c = (omega arith, omega arith, omega arith, λ j h. absurd (omega arith))

pub loop-k-init : goal.loop-k-init
loop-k-init c = (omega arith, λ j h. c.bytes.invariant.3 j (omega arith))

pub loop-k-preserved : goal.loop-k-preserved
loop-k-preserved c =
    let args = c.args in
    let n = c.bytes.i * 8 + c.loop-k.k in
    let e = sym c.label_bit.ensures ∙ bits-same _ _ c.if-label_bit.false ∙ c.label_bit-in-loop-k.ensures in
    (omega arith, λ j h. agree-more (bits_of args.a.now) (bits_of args.b.now) n c.loop-k.invariant.1 e j (omega arith))

pub bytes-preserved : goal.bytes-preserved
bytes-preserved c = (omega arith, omega (arith, eqb-false), omega (arith, eqb-false), λ j h. c.loop-k.invariant.1 j (omega arith))

pub returns-then-i-eq32 : goal.returns-then-i-eq32
returns-then-i-eq32 c =
    let args = c.args in
    first_difference-at args.a.now args.b.now (c.bytes.i * 8) (omega arith) (omega arith) (omega arith) c.bytes.invariant.3
    (λ l la lb e. ⊎_elim (λ w. omega arith) (⊎_elim (λ w. omega (arith, eqb-true)) (λ w. omega (arith, eqb-true))) c.then-i-eq32.either)

pub returns-then-label_bit : goal.returns-then-label_bit
returns-then-label_bit c =
    let args = c.args in
    let n = c.bytes.i * 8 + c.loop-k.k in
    first_difference-at args.a.now args.b.now n (omega arith) (omega (arith, eqb-false)) (omega (arith, eqb-false)) c.loop-k.invariant.1
    (λ l la lb e. bits-differ _ _ c.if-label_bit.true (c.label_bit.ensures ∙ e ∙ sym c.label_bit-in-loop-k.ensures))
