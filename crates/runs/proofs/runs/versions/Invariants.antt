use mathlib.Core.Path.{◌≡◌}
use Prim.Native.Nat.{◌+◌, ◌-◌, ◌≤◌}
use Rattle.runs.specs.Runs.{ask_version, item_at, place_at, epoch_from}
use Rattle.runs.proofs.Going.{Going}
use Rattle.runs.proofs.runs.versions.Given as goal

abbrev pub invariant-loop-i : goal.invariant-loop-i
invariant-loop-i l = record {
  some : 1 ≤ l.i;
  most : l.i-end ≡ l.n + 1;
  going : Going (ask_version l.first.proof.now l.first.at l.epoch) 1 (l.n + 1) l.initial.reader l.i l.reader;
  item : l.item ≡ item_at l.first.proof.now (l.i - 1);
  here : l.reader.at ≡ place_at l.first.proof.now l.first.at (l.i - 1);
  low : l.low ≡ epoch_from l.first.proof.now l.first.at (l.i - 1) + 1;
}

abbrev pub decreases-loop-i : goal.decreases-loop-i
decreases-loop-i l = l.n + 1 - l.i
