-- Bytes as text.
use Rattle.std.specs.Prelude.{List, [], ◌∷◌, ℕ, ◌/◌, ◌%◌}
use Rattle.io.specs.Digits.{hex_digit_ascii}

-- two lower-case hexadecimal digits for each byte
unfoldable pub hex_text : List ℕ → List ℕ
hex_text [] = []
hex_text (b ∷ s) = hex_digit_ascii (b / 16) ∷ hex_digit_ascii (b % 16) ∷ hex_text s
