-- `front::opening::previous_head`: the head before it in the table.
use native.Mathlib.Omega.{arith}
use mathlib.Core.Path.{◌≡◌, sym, ap, ◌∙◌}
use Prim.Native.Nat.{suc, ◌-◌}
use Rattle.paper.specs.Table.{previous_head}
use Rattle.front.proofs.Front.{previous-some}
use Rattle.front.proofs.opening.previous_head.Goals as goal

pub returns : goal.returns
returns c =
    let a = c.args in
    let t = a.epoch - 1 in
    let e : a.epoch ≡ suc t = omega (arith, c.if-epoch-eq0.false) in
    c.digest_at.ensures ∙ sym (ap (previous_head a.heads.now) e ∙ previous-some a.heads.now t)
