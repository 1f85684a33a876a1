-- "CLASH is tried at the tree level, which takes labels directly.": leaves one behind the other in any order, the root over them, and
-- the path of a label.
use Rattle.std.specs.Prelude.{Bool, true, not, ◌&&◌, List, [], ◌∷◌, ◌++◌, ℕ, zero, suc, ◌*◌, ◌/◌, ◌%◌, Ok, Err, eqb, leb, length, take, drop}
use Rattle.paper.specs.Numbers.{wide, records_most, INPUT, CLASH, ROOM}
use Rattle.paper.specs.Bytes.{Bytes, number, pasted}
use Rattle.paper.specs.Bits.{bits_of}
use Rattle.paper.specs.Strings.{Node, leaf}
use Rattle.paper.specs.Tree.{key, root, root_digest}
use Rattle.paper.specs.Path.{way}
use Rattle.paper.specs.Fields.{path_field}
use Rattle.paper.specs.Verdict.{Test, test, verdict}
use Rattle.paper.specs.Audit.{before?}
use Rattle.paper.specs.Table.{holds, distinct}
use Rattle.paper.specs.Answer.{TreeAnswer}

-- "label 32, commitment 32, epoch 4", as in a leaf's string
abbrev pub entry_size : ℕ
entry_size = 68

-- a record gives tree *all* two leaves at most
abbrev pub entries_most : ℕ
entries_most = 2 * records_most

abbrev pub entry_leaf : Bytes → Node
entry_leaf s = leaf (bits_of (take wide s)) (take wide (drop wide s)) (number (take 4 (drop 64 s)))

-- the first n leaves
unfoldable pub leaves_in : ℕ → Bytes → List Node
leaves_in zero s = []
leaves_in (suc n) s = entry_leaf s ∷ leaves_in n (drop entry_size s)

-- whether leaves stand in bit order, and no label is there twice
unfoldable pub rising : List Node → Bool
rising [] = true
rising (x ∷ []) = true
rising (x ∷ y ∷ S) = before? (key x) (key y) && rising (y ∷ S)

-- what a call of the tree level leaves: the answer, and the lent output
pub record Laid : Type 0 where
  pub answer : TreeAnswer
  pub out : Bytes

-- "A refusal writes nothing"; success writes these bytes at the output's start and answers their length
unfoldable pub laid : Bytes → Bytes → List Test → Laid
laid out s tests =
    verdict (λ r. record { answer = Err r; out = out })
    (record { answer = Ok (length s); out = pasted out 0 s })
    (tests ++ (test ROOM (leb (length s) (length out)) ∷ []))

unfoldable pub entries_within : Bytes → Bool
entries_within entries = eqb (length entries % entry_size) 0 && leb (length entries / entry_size) entries_most

abbrev pub leaves_of : Bytes → List Node
leaves_of entries = leaves_in (length entries / entry_size) entries

unfoldable pub tree_root : Bytes → Bytes → Laid
tree_root entries out = laid out (root_digest (leaves_of entries)) (test INPUT (entries_within entries) ∷ test CLASH (distinct (leaves_of entries)) ∷ [])

-- "two leaves of a needed tree share a label, or a label to be shown absent is there"
unfoldable pub tree_path : Bytes → Bytes → Bool → Bytes → Laid
tree_path entries label absent out =
    laid out (path_field.bytes (way (bits_of label) (root (leaves_of entries))))
    (test INPUT (entries_within entries && eqb (length label) wide)
    ∷ test CLASH (distinct (leaves_of entries) && not (absent && holds (bits_of label) (leaves_of entries)))
    ∷ [])
