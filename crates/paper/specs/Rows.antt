-- Document 01, "Rows to prove": "These rows are proved as one table over the definitions."
use Rattle.std.specs.Prelude.{◌≡◌, List, [], ◌∷◌, ◌++◌, ℕ, length}
use Rattle.paper.specs.Lists.{All}
use Rattle.paper.specs.Bytes.{Bytes, zeros}
use Rattle.paper.specs.Bits.{first_difference}
use Rattle.paper.specs.History.{history_asked}

-- "n, T | paths in a history"
pub record HistoryRow : Type 0 where
  pub n : ℕ
  pub T : ℕ
  pub paths : ℕ

abbrev pub history_row : ℕ → ℕ → ℕ → HistoryRow
history_row n T k = record { n = n; T = T; paths = k }

abbrev pub history_rows : List HistoryRow
history_rows =
    history_row 0 0 0
    ∷ history_row 0 1 1
    ∷ history_row 1 1 3
    ∷ history_row 3 9 10
    ∷ history_row 5 5 15
    ∷ history_row 512 512 1545
    ∷ history_row 1023 5000 2056
    ∷ []

-- "labels (rest zero) | first difference": a label, and where it first differs from the zero label
pub record LabelRow : Type 0 where
  pub label : Bytes
  pub first : ℕ

abbrev pub label_row : Bytes → ℕ → LabelRow
label_row label first = record { label = label; first = first }

abbrev pub label_rows : List LabelRow
label_rows =
    label_row (zeros 32) 256
    ∷ label_row (zeros 31 ++ (0x01 ∷ [])) 255
    ∷ label_row (0x01 ∷ zeros 31) 7
    ∷ label_row (0x80 ∷ zeros 31) 0
    ∷ []

-- the one table: each row of both parts is what the definitions give
pub record Rows : Type 0 where
  pub histories : All (λ r. length (history_asked r.n r.T) ≡ r.paths) history_rows
  pub labels : All (λ r. first_difference (zeros 32) r.label ≡ r.first) label_rows
