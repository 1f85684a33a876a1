-- `gather::put_leaf`: a label, a commitment and an epoch one behind the other are a leaf.
use borrow.Author.Rules.{rules}
use native.Mathlib.Omega.{arith}
use mathlib.Core.Path.{◌≡◌, ap, ◌∙◌}
use Prim.Native.Nat.{◌+◌, ◌*◌}
use Rattle.paper.specs.Bytes.{be, pasted}
use Rattle.gather.proofs.Row.{gain-one}
use Rattle.gather.proofs.put_leaf.Goals as goal

pub returns : goal.returns
returns c =
    let first = c.put in
    let second = c.put-2 in
    let third = c.write32 in
    let n = c.args.n in
    let all : third.new.dst ≡ pasted (pasted (pasted c.args.row.now (n * 68) c.args.label) (n * 68 + 32) c.args.commitment) (n * 68 + 64) (be 4 c.args.epoch) =
    third.ensures ∙ ap (λ o. pasted o (n * 68 + 64) (be 4 c.args.epoch)) (second.ensures ∙ ap (λ o. pasted o (n * 68 + 32) c.args.commitment) first.ensures) in
    rw all (gain-one c.args.row.now n c.args.label c.args.commitment c.args.epoch (search rules) (search rules) (omega (arith, c.ranges.epoch)) c.requires)
