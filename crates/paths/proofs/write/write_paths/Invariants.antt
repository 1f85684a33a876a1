use lib.ListN.{take}
use Rattle.plan.specs.Asked.{asked_of}
use Rattle.path_fields.specs.Written.{Wrote}
use Rattle.paths.specs.Paths.{path_bytes, all_of, old_of}
use Rattle.paths.proofs.write.write_paths.Given as goal

abbrev pub invariant-loop-i : goal.invariant-loop-i
invariant-loop-i l = Wrote l.initial.out l.at (path_bytes l.name (all_of l.trees) (old_of l.trees) (take l.i (asked_of l.plan))) l.out l.next
