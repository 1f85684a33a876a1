-- `rows::take_rows`: by whose rows they are.
use native.Mathlib.Omega.{arith}
use Prim.Native.Nat.{ℕ, zero, suc, ◌≤◌}
use Rattle.paper.specs.Bytes.{Bytes}
use Rattle.paper.specs.Lookup.{lookup_keys}
use Rattle.shown.specs.Form.{ItemStands}
use Rattle.runs.specs.Runs.{onward, ItemsStand}
use Rattle.rows.proofs.take_rows.Goals as goal

-- the key of a version stands behind the front
first : (s : Bytes) (v : ℕ) → ItemsStand s (lookup_keys v) → 1 ≤ v → ItemStands s 108
unfolding onward
first s zero h l = absurd (omega arith)
first s (suc v) h l = h 0 (omega arith)

pub lookup_rows-requires : goal.lookup_rows-requires
lookup_rows-requires c =
    let a = c.args in
    record {
      ahead = record { front = c.requires.front; short = c.requires.short; room = omega (arith, c.requires.few) };
      item = first a.reader.proof.now a.plan.number (rw c.in-Lookup.is at c.requires.items);
    }
