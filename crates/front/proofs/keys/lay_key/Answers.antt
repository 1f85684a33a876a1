-- `front::keys::lay_key`: after i turns the first i bytes of the key are laid over the output.
use borrow.Author.Rules.{rules}
use native.Mathlib.Omega.{arith}
use mathlib.Core.Path.{refl, sym, ap, ◌∙◌}
use Prim.Native.Nat.{◌+◌}
use native.Mathlib.Numerals.{add-one}
use lib.ListN.{get_or, set, length-set}
use lib.Seq.{paste, paste-zero, paste-suc}
use Rattle.paper.proofs.Pasted.{paste_all}
use Rattle.front.proofs.keys.lay_key.Goals as goal

pub loop-i-init : goal.loop-i-init
loop-i-init c = (search rules, refl, refl, paste-zero c.args.out.now c.args.at c.args.key.now)

pub loop-i-preserved : goal.loop-i-preserved
loop-i-preserved c =
    let a = c.args in
    let d = a.out.now in
    let s = a.key.now in
    let i = c.loop-i.i in
    let inv = c.loop-i.invariant in (
      search rules,
      inv.1,
      simp length-set inv.2,
      ap (λ l. set l (a.at + i) (get_or s i 0)) inv.3 ∙ paste-suc d a.at s i 0 (omega arith) (omega arith) ∙ ap (paste d a.at s) (sym (add-one i)),
    )

pub returns : goal.returns
returns c =
    let a = c.args in
    c.loop-i.invariant.3 ∙ paste_all a.out.now a.at a.key.now c.loop-i.i (omega arith)
