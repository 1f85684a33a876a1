-- The accepted key as a part of the lent proof: which bytes it has, and where it lies.
use Rattle.std.specs.Borrow.{Bor}
use Rattle.paper.specs.Bytes.{Bytes}
use Rattle.paper.specs.Lookup.{key_start, accepted_key}
use Rattle.paper.specs.Answer.{LookupAnswer}
use Rattle.ranges.specs.Part.{PartAt}

-- "The accepted key of a lookup can be had as that part of the lent proof; a refusal or version 0 gives the empty part at its
-- start.": its bytes, and its place in the proof's own memory
abbrev pub KeyPart : LookupAnswer → Bor Bytes → Bor Bytes → Type 0
KeyPart a proof key = PartAt proof (key_start a) (accepted_key a proof.now) key
