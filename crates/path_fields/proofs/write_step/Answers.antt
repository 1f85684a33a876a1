-- `path_fields::write_step`: the sibling lies right behind the length.
use borrow.Author.Rules.{rules}
use native.Mathlib.Omega.{arith}
use Rattle.path_fields.proofs.Writing.{step-wrote}
use Rattle.path_fields.proofs.write_step.Goals as goal

pub returns : goal.returns
returns c =
    let a = c.args in
    step-wrote a.out.now _ _ a.at a.k a.sibling.now (search rules) (omega (arith, c.requires.0)) c.write16.ensures c.put.ensures
