-- What is written of the path lies in its room.
use Rattle.std.proofs.Common.{sym, arith, refl, length-take-le}
use Rattle.tree_calls.proofs.Room.{path-within}
use Rattle.tree_calls.proofs.answer_tree_path.Goals as goal

pub slice_bounds-path-end : goal.slice_bounds-path-end
slice_bounds-path-end g c = omega (arith, path-within _ _ _ _ _ _ _ c.in-Ok.ensures refl, c.tree_path.auto.out)

pub slice_bounds-print_bytes-end : goal.slice_bounds-print_bytes-end
slice_bounds-print_bytes-end g c = sym (length-take-le _ _ (omega (arith, path-within _ _ _ _ _ _ _ c.in-Ok.ensures refl, c.tree_path.auto.out)))
