use Prim.Native.Nat.{◌-◌}
use Rattle.audit_root.proofs.+below.Given as goal

abbrev pub decreases-below : goal.decreases-below
decreases-below l = 256 - l.from
