use mathlib.Core.Path.{◌≡◌}
use Prim.Native.Nat.{◌-◌, ◌≤◌}
use lib.ListN.{length}
use Rattle.paper.specs.Layout.{times}
use Rattle.paper.specs.Fields.{path_field}
use Rattle.fields.specs.After.{after_at}
use Rattle.shown.proofs.layout.paths_after.Given as goal

abbrev pub invariant-loop : goal.invariant-loop
invariant-loop l = (l.counter ≤ l.m) × (l.place ≤ length l.s) × (after_at (times l.m path_field) l.s l.at ≡ after_at (times (l.m - l.counter) path_field) l.s l.place)

abbrev pub decreases-loop : goal.decreases-loop
decreases-loop l = l.m - l.counter
