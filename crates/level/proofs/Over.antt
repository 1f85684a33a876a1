-- A label's path over leaves, once the input is tested. Assumes nothing.
use mathlib.Core.Path.{◌≡◌, refl, sym, ◌∙◌}
use mathlib.Core.Bool.{Bool, true, false, ◌&&◌}
use mathlib.Core.List.{List}
use Prim.Native.Nat.{◌≤◌, ◌<◌}
use lib.ListN.{length}
use Rattle.paper.specs.Numbers.{CLASH, ROOM}
use Rattle.paper.specs.Bytes.{Bytes, pasted}
use Rattle.paper.specs.Bits.{Bits}
use Rattle.paper.specs.Strings.{Node}
use Rattle.paper.specs.Tree.{root}
use Rattle.paper.specs.Path.{way}
use Rattle.paper.specs.Fields.{path_field}
use Rattle.paper.specs.Table.{holds, distinct}
use Rattle.std.proofs.Common.{Ok, Err}
use Rattle.level.specs.Rooted.{unclashed, path_over}
use Rattle.level.proofs.Tests.{tested, clash, no_room, written, in_bounds}

module _ (S : List Node) (L : Bits) (absent : Bool) (out : Bytes) where
  abbrev bytes : Bytes
  bytes = path_field.bytes (way L (root S))

  abbrev whole : path_over S L absent out ≡ tested out bytes true (unclashed S L absent)
  unfolding path_over
  whole = sym (in_bounds out bytes true (unclashed S L absent) refl)

  clear : distinct S ≡ true → (absent && holds L S) ≡ false → unclashed S L absent ≡ true
  clear e f = rw (e, f)

  pub over-clash : distinct S ≡ false → path_over S L absent out ≡ record { answer = Err CLASH; out = out }
  over-clash e = whole ∙ clash out bytes true (unclashed S L absent) refl (rw e)

  pub over-there : distinct S ≡ true → (absent && holds L S) ≡ true → path_over S L absent out ≡ record { answer = Err CLASH; out = out }
  over-there e f = whole ∙ clash out bytes true (unclashed S L absent) refl (rw (e, f))

  pub over-full : distinct S ≡ true → (absent && holds L S) ≡ false → length out < length bytes → path_over S L absent out ≡ record { answer = Err ROOM; out = out }
  over-full e f h = whole ∙ no_room out bytes true (unclashed S L absent) refl (clear e f) h

  pub over-written : distinct S ≡ true → (absent && holds L S) ≡ false → length bytes ≤ length out
      → path_over S L absent out ≡ record { answer = Ok (length bytes); out = pasted out 0 bytes }
  over-written e f h = whole ∙ written out bytes true (unclashed S L absent) refl (clear e f) h
