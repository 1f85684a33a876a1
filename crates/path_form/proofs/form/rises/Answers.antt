-- `path_form::form::rises`: the lengths passed were in their ranges, so the rest decides.
use borrow.Author.Tests.{ltb-false}
use native.Mathlib.Omega.{arith}
use mathlib.Core.Path.{◌≡◌, sym, ◌∙◌}
use mathlib.Core.Logic.{inl, inr}
use Prim.Native.Nat.{◌+◌, ◌*◌, ◌≤◌, ◌<◌}
use lib.ListN.{length, take, drop, length-drop}
use Rattle.paper.specs.Bytes.{number}
use Rattle.path_form.proofs.Steps.{rising-room, rising-cut, rises-end, rises-stop, rises-on, chunks-many, step-number}
use Rattle.path_form.proofs.form.rises.Goals as goal
use Rattle.path_form.proofs.form.rises.Goals.{After-as_chunks, After-read16-length}

pub returns-then-s-at : goal.returns-then-s-at
returns-then-s-at c =
    let a = c.args in
    sym (rising-cut a.m (drop a.at a.s.now) (omega (arith, length-drop a.at a.s.now)))

room : (c : After-as_chunks) → c.args.at + 34 * c.args.m ≤ length c.args.s.now
room c = omega arith

many : (c : After-as_chunks) → length c.as_chunks.result.0.now ≡ c.args.m
many c = c.as_chunks.ensures.front_len ∙ chunks-many c.args.s.now c.args.at c.args.m (room c)

-- a step is one of those
here : (c : After-read16-length) → (c.loop-step.step-index < c.args.m) × (c.read16-length.result ≡ number (take 2 (drop (c.args.at + 34 * c.loop-step.step-index) c.args.s.now)))
here c =
    let a = c.args in
    let o = (goal.at.After-read16-length c).After-as_chunks in
    let h : c.loop-step.step-index < a.m = omega (arith, many o) in
    (h, c.read16-length.ensures ∙ step-number a.s.now a.at a.m (room o) c.as_chunks.result.0.now c.as_chunks.ensures.front c.loop-step.step-index h)

pub loop-step-init : goal.loop-step-init
loop-step-init c =
    let a = c.args in
    (omega arith, rising-room a.m (drop a.at a.s.now) (omega (arith, length-drop a.at a.s.now)))

pub returns-then-length-low : goal.returns-then-length-low
returns-then-length-low c =
    let a = c.args in
    let (h, e) = here (goal.at.returns-then-length-low c).After-read16-length in
    sym (c.loop-step.invariant.1
    ∙ rises-stop a.s.now a.at c.loop-step.step-index a.m c.loop-step.low c.loop-step.high c.read16-length.result h e (elim c.then-length-low.either [ inl l ↦ inl l | inr l ↦ inr l.1 ]))

pub loop-step-preserved : goal.loop-step-preserved
loop-step-preserved c =
    let a = c.args in
    let (h, e) = here (goal.at.loop-step-preserved c).After-read16-length in (
      omega arith,
      c.loop-step.invariant.1
          ∙ rises-on a.s.now a.at c.loop-step.step-index a.m c.loop-step.low c.loop-step.high c.read16-length.result h e (omega (arith, ltb-false)) (omega (arith, ltb-false)),
    )

pub returns : goal.returns
returns c =
    let a = c.args in
    sym (c.loop-step.invariant.1 ∙ rises-end a.s.now a.at c.loop-step.step-index a.m c.loop-step.low c.loop-step.high (omega (arith, many (goal.at.returns c).After-as_chunks)))
