-- The tests of the tree level in their order: 1, 7, 8. Assumes nothing.
use mathlib.Core.Path.{◌≡◌}
use mathlib.Core.Bool.{Bool, true, false}
use mathlib.Core.List.{[], ◌∷◌}
use Prim.Native.Nat.{◌≤◌, ◌<◌}
use lib.ListN.{length}
use borrow.Author.Tests.{le-leb, lt-leb}
use Rattle.paper.specs.Numbers.{INPUT, CLASH, ROOM}
use Rattle.paper.specs.Bytes.{Bytes, pasted}
use Rattle.paper.specs.Verdict.{test, verdict}
use Rattle.paper.specs.Level.{Laid, laid}
use Rattle.paper.specs.declared.Refusal.{Refusal}
use Rattle.std.proofs.Common.{Ok, Err}

module _ (out s : Bytes) (input clear : Bool) where
  abbrev pub tested : Laid
  tested = laid out s (test INPUT input ∷ test CLASH clear ∷ [])

  abbrev pub refused : Refusal → Laid
  refused n = record { answer = Err n; out = out }

  pub out-of-bounds : input ≡ false → tested ≡ refused INPUT
  unfolding laid verdict
  out-of-bounds e = rw e

  pub clash : input ≡ true → clear ≡ false → tested ≡ refused CLASH
  unfolding laid verdict
  clash e f = rw (e, f)

  pub no_room : input ≡ true → clear ≡ true → length out < length s → tested ≡ refused ROOM
  unfolding laid verdict
  no_room e f h = rw (e, f, lt-leb (length s) (length out) h)

  pub written : input ≡ true → clear ≡ true → length s ≤ length out → tested ≡ record { answer = Ok (length s); out = pasted out 0 s }
  unfolding laid verdict
  written e f h = rw (e, f, le-leb (length s) (length out) h)

  -- the input is good: the others decide
  pub in_bounds : input ≡ true → tested ≡ laid out s (test CLASH clear ∷ [])
  unfolding laid verdict
  in_bounds e = rw e
