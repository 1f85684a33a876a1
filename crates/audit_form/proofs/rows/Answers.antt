-- `audit_form::rows`: the chunks of the part are the list's records.
use native.Mathlib.Omega.{arith}
use mathlib.Core.Path.{◌≡◌, ap, ◌∙◌}
use Prim.Native.Nat.{◌+◌, ◌-◌, ◌*◌, ◌/◌}
use lib.ListN.{length, take, drop}
use Rattle.std.specs.Simd.{first_chunks}
use Rattle.ranges.proofs.Slices.{length_part}
use Rattle.audit_form.proofs.Chunks.{chunks-rows}
use Rattle.audit_form.proofs.rows.Goals as goal

pub returns : goal.returns
returns c =
    let a = c.args in
    let s = a.s.now in
    let e : a.at + a.n * 99 - a.at ≡ a.n * 99 = omega arith in
    let d : length (take (a.n * 99) (drop a.at s)) / 99 ≡ a.n = omega (arith, length_part s a.at (a.n * 99) c.requires) in
    c.as_chunks.ensures.front
    ∙ ap (λ k. first_chunks 99 (length (take k (drop a.at s)) / 99) (take k (drop a.at s))) e
    ∙ ap (λ k. first_chunks 99 k (take (a.n * 99) (drop a.at s))) d
    ∙ chunks-rows s a.at a.n
