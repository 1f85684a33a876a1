-- The head of the next epoch, over the records of the table and the new ones.
use Rattle.std.specs.Prelude.{◌≡◌, Bool, true, false, ◌&&◌, List, ℕ, suc, Result, MatchResult, ◌+◌, ◌≤◌, ◌<◌}
use Rattle.paper.specs.Numbers.{records_most, CLASH}
use Rattle.paper.specs.Bytes.{Bytes}
use Rattle.paper.specs.Labelling.{plain}
use Rattle.paper.specs.Table.{Record, distinct, all_at, old_at, head_digest}
use Rattle.record.specs.Places.{Stands}
use Rattle.paper.specs.declared.Refusal.{Refusal}

-- the records of the table and the new ones can be read, and a tree has room for their leaves
pub record Plantable (records : Bytes) (count : ℕ) (fresh : Bytes) (n : ℕ) : Type 0 where
  pub stand : (i : ℕ) → i < count → Stands records i
  pub new : (i : ℕ) → i < n → Stands fresh i
  pub few : count + n ≤ records_most

-- "two leaves of a needed tree share a label": whether none do in either tree of the next epoch
abbrev pub apart : ℕ → List Record → Bool
apart epoch rs = distinct (all_at plain (suc epoch) rs) && distinct (old_at plain (suc epoch) rs)

-- the next epoch's head, or refusal 7
abbrev pub Headed : Bytes → ℕ → List Record → Result Bytes Refusal → Type 0
Headed heads epoch rs r = MatchResult r
    (λ head. (apart epoch rs ≡ true) × (head ≡ head_digest plain heads (suc epoch) rs))
    (λ e. (e ≡ CLASH) × (apart epoch rs ≡ false))
