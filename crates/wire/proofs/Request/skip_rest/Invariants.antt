-- `wire::Request::skip_rest` ends: what is left falls, or the input has ended.
use Rattle.std.proofs.Common.{◌≡◌, ◌+◌, ℕ, List, length}
use Rattle.std.specs.Io.KnownBytes.{Consumes}
use Rattle.wire.proofs.Request.skip_rest.Given as goal

abbrev pub invariant-loop-left : goal.invariant-loop-left
invariant-loop-left g l = (bytes : List ℕ) × (length bytes + l.left ≡ l.initial.left) × Consumes (g.I.Read.remaining l.initial.input) (g.I.Read.remaining l.input) bytes

abbrev pub decreases-loop-left : goal.decreases-loop-left
decreases-loop-left g l = l.left
