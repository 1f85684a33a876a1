-- The root over leaves in any order, and a label's path.
use Rattle.std.specs.Prelude.{◌≡◌, Bool, true, false, Option, Some, None, not, ◌&&◌, List, [], ◌∷◌}
use Rattle.paper.specs.Numbers.{CLASH}
use Rattle.paper.specs.Bytes.{Bytes}
use Rattle.paper.specs.Bits.{Bits}
use Rattle.paper.specs.Strings.{Node}
use Rattle.paper.specs.Tree.{root, root_digest}
use Rattle.paper.specs.Path.{way}
use Rattle.paper.specs.Fields.{path_field}
use Rattle.paper.specs.Verdict.{test}
use Rattle.paper.specs.Table.{holds, distinct}
use Rattle.paper.specs.Level.{Laid, laid}

-- the root over the leaves, where no two of them share a label
abbrev pub Roots : List Node → Option Bytes → Type 0
Roots S None = distinct S ≡ false
Roots S (Some d) = (distinct S ≡ true) × (d ≡ root_digest S)

-- "two leaves of a needed tree share a label, or a label to be shown absent is there": whether neither is so
abbrev pub unclashed : List Node → Bits → Bool → Bool
unclashed S L absent = distinct S && not (absent && holds L S)

-- what is left of a label's path over leaves once the input is tested
unfoldable pub path_over : List Node → Bits → Bool → Bytes → Laid
path_over S L absent out = laid out (path_field.bytes (way L (root S))) (test CLASH (unclashed S L absent) ∷ [])
