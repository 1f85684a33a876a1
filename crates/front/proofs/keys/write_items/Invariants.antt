use mathlib.Core.Path.{◌≡◌}
use Prim.Native.Nat.{◌≤◌}
use lib.ListN.{length}
use Rattle.paper.specs.Labelling.{plain}
use Rattle.paper.specs.Write.{versions_by}
use Rattle.record.specs.Places.{records_in}
use Rattle.path_fields.specs.Written.{Wrote}
use Rattle.front.specs.Front.{item_bytes, items_from}
use Rattle.front.proofs.keys.write_items.Given as goal

abbrev pub invariant-loop-i : goal.invariant-loop-i
invariant-loop-i l =
    (l.i ≤ l.count) × (length l.out ≡ length l.initial.out) × (length (versions_by plain l.name l.epoch (records_in l.from l.records)) ≤ length (versions_by plain l.name l.epoch (records_in l.i l.records)))
    × Wrote l.initial.out l.at (item_bytes (items_from l.records l.name l.epoch l.from l.i)) l.out l.next
