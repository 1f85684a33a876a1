-- `plan::lookup::lookup_paths` answers the number of paths: one for version 0, three for any other. Assumes nothing.
use mathlib.Core.Path.{sym, ap}
use native.Mathlib.Omega.{arith}
use lib.ListN.{length}
use Rattle.plan.proofs.Rows.{lookup-some}
use Rattle.plan.proofs.lookup.lookup_paths.Goals as goal

pub returns-else-v-eq0 : goal.returns-else-v-eq0
returns-else-v-eq0 c = sym (ap length (lookup-some c.args.v (omega arith)))
