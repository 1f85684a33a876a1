-- "A lookup's version, epoch, key and opening depend only on that name's own records and the epoch asked; head and path bytes and
-- refusals may depend on others."
use Rattle.std.specs.Prelude.{◌≡◌, List, [], ◌∷◌, ℕ, Ok, Err, take}
use Rattle.paper.specs.Bytes.{Bytes}
use Rattle.paper.specs.Path.{Path, epoch_of}
use Rattle.paper.specs.Layout.{got, parse}
use Rattle.paper.specs.Shows.{Item, Proof}
use Rattle.paper.specs.Lookup.{lookup_field}
use Rattle.paper.specs.Table.{Record}
use Rattle.paper.specs.Write.{Written, item_of}
use Rattle.paper.specs.Answer.{WriteAnswer}

-- what a lookup proof says of a name: its version, key and opening, and the epoch that its version's leaf bears; version 0 has none
pub record Said : Type 0 where
  pub version : ℕ
  pub epoch : ℕ
  pub items : List Item

unfoldable pub first_epoch : List Path → ℕ
first_epoch [] = 0
first_epoch (p ∷ ps) = epoch_of p.end

abbrev pub said_by : Proof → Said
said_by p = record { version = p.number; epoch = first_epoch p.paths; items = p.items }

-- what a name's own records say: the last one's version, epoch, key and opening
unfoldable pub last_says : List Record → Said
last_says [] = record { version = 0; epoch = 0; items = [] }
last_says (r ∷ []) = record { version = r.version; epoch = r.epoch; items = item_of r ∷ [] }
last_says (r ∷ q ∷ rs) = last_says (q ∷ rs)

-- the bytes of the proof that a writer left: as many from the output's start as it answers; a refusal leaves none
abbrev pub proof_left : WriteAnswer → Bytes → Bytes
proof_left (Ok w) out = take w.length out
proof_left (Err e) out = []

-- a writer left a lookup proof that says just this: it is what reading the layout gives
pub record Says (w : Written) (says : Said) : Type 0 where
  pub proof : Proof
  pub read : parse lookup_field (proof_left w.answer w.out) ≡ got proof []
  pub said : said_by proof ≡ says
