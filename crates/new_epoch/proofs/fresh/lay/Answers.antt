-- `new_epoch::fresh::lay`: four parts, one behind the other.
use native.Mathlib.Omega.{arith}
use mathlib.Core.Path.{sym, ap, ◌∙◌}
use Prim.Native.Nat.{◌+◌}
use lib.ListN.{take, drop}
use lib.Seq.{length-take-le}
use Rattle.paper.specs.Bytes.{be, pasted}
use Rattle.new_epoch.proofs.Made.{laid}
use Rattle.new_epoch.proofs.fresh.lay.Goals as goal

pub slice_bounds-put-end : goal.slice_bounds-put-end
slice_bounds-put-end c = sym (length-take-le 65 c.args.update.now (omega (arith, c.requires.0)))

pub put-requires : goal.put-requires
put-requires c = omega (arith, length-take-le 65 c.args.update.now (omega (arith, c.requires.0)), c.requires.1)

pub returns : goal.returns
returns c =
    let o = c.args.fresh.now in
    let u = c.args.update.now in
    let at = c.args.at in
    let one = c.put.ensures in
    let two = c.write16.ensures ∙ ap (λ x. pasted x (at + 65) (be 2 c.args.version)) one in
    let three = c.write32.ensures ∙ ap (λ x. pasted x (at + 67) (be 4 c.args.epoch)) two in
    let four = c.put-2.ensures ∙ ap (λ x. pasted x (at + 71) (take 97 (drop 65 u))) three in
    four ∙ laid o u at c.args.version c.args.epoch c.requires.0 (omega (arith, c.requires.1))
