-- A text of 64 bytes, of which a front is written.
use Rattle.std.specs.Prelude.{◌+◌, length}
use Rattle.paper.specs.Bytes.{Bytes, zeros, pasted}
use Rattle.line.specs.declared.Text.{Text}

abbrev pub empty : Text
empty = record { bytes = zeros 64; length = 0 }

-- a text with x behind what is written
abbrev pub behind : Text → Bytes → Text
behind t x = record { bytes = pasted t.bytes t.length x; length = t.length + length x }

-- the text that is x
abbrev pub text_of : Bytes → Text
text_of x = behind empty x
