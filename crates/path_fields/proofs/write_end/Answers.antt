-- `path_fields::write_end`: the fields lie right behind the kind.
use mathlib.Core.Path.{◌∙◌}
use lib.ListN.{length-set}
use Rattle.path_fields.proofs.Writing.{end-wrote}
use Rattle.path_fields.proofs.write_end.Goals as goal

pub shape_of-out : goal.shape_of-out
shape_of-out c = c.put.auto.dst ∙ length-set c.args.out.now c.args.at c.number.result

pub returns : goal.returns
returns c =
    let a = c.args in
    rw (← c.number.ensures) (end-wrote a.out.now _ a.fields.now a.at c.number.result c.requires c.put.ensures)
