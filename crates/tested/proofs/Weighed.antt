-- The tests of 7 and 8. Assumes nothing.
use mathlib.Core.Path.{◌≡◌}
use mathlib.Core.Bool.{Bool, true, false}
use Prim.Native.Nat.{◌≤◌, ◌<◌}
use lib.ListN.{length}
use borrow.Author.Tests.{le-leb, lt-leb}
use Rattle.paper.specs.Numbers.{CLASH, ROOM}
use Rattle.paper.specs.Bytes.{Bytes, pasted}
use Rattle.paper.specs.Verdict.{verdict}
use Rattle.paper.specs.declared.State.{State}
use Rattle.paper.specs.Answer.{written, returned}
use Rattle.tested.specs.Tested.{weighed}

module _ (state : State) (out : Bytes) (clear : Bool) (proof : Bytes) where
  pub clash : clear ≡ false → weighed state out clear proof ≡ record { answer = returned state CLASH; out = out }
  unfolding weighed verdict
  clash e = rw e

  pub no_room : clear ≡ true → length out < length proof → weighed state out clear proof ≡ record { answer = returned state ROOM; out = out }
  unfolding weighed verdict
  no_room e h = rw (e, lt-leb (length proof) (length out) h)

  pub wrote : clear ≡ true → length proof ≤ length out → weighed state out clear proof ≡ record { answer = written (length proof) state; out = pasted out 0 proof }
  unfolding weighed verdict
  wrote e h = rw (e, le-leb (length proof) (length out) h)
