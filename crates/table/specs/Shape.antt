-- Document 01, "Publishing": tables in shape, as the tests cite it.
use Rattle.std.specs.Prelude.{◌≡◌, Bool, true, false, ◌&&◌, Option, MatchOption, List, [], ℕ, suc, ◌*◌, ◌≤◌, ◌<◌, eqb, leb, ltb, length}
use Rattle.paper.specs.Lists.{All, every}
use Rattle.paper.specs.Numbers.{record_size}
use Rattle.paper.specs.Bytes.{Bytes}
use Rattle.paper.specs.Labelling.{plain}
use Rattle.paper.specs.Layout.{Read, got, bad}
use Rattle.paper.specs.Table.{Record, record_field, counted, head_lies, own_records, in_shape}
use Rattle.record.specs.Places.{records_in, Stands}
use Rattle.table.specs.Index.{Indexed, Unlinked}
use Rattle.table.specs.declared.index.Index.{Index}

-- "The counted records and the current head must lie in their tables", and the records obey the rules
abbrev pub shaped_read : ℕ → Read (List Record) → Bool
shaped_read epoch bad = false
shaped_read epoch (got rs r) = in_shape plain epoch [] rs

unfoldable pub shaped : Bytes → Bytes → ℕ → ℕ → Bool
shaped records heads count epoch = head_lies heads epoch && shaped_read epoch (counted records count)

-- the index where a test says yes, every entry of it
pub record Found (s : Bytes) (n : ℕ) (test : Bool) (x : Index) : Type 0 where
  pub is : test ≡ true
  pub records : x.records.now ≡ s
  pub count : x.count ≡ n
  pub index : Indexed s n x
  pub rest : Unlinked n x

abbrev pub Tested : Bytes → Bytes → ℕ → ℕ → Option Index → Type 0
Tested records heads count epoch r = let test = shaped records heads count epoch in MatchOption r (test ≡ false) (Found records count test)

-- the same of the records alone
abbrev pub Counted : Bytes → ℕ → ℕ → Option Index → Type 0
Counted records count epoch r = let test = shaped_read epoch (counted records count) in MatchOption r (test ≡ false) (Found records count test)

-- what is asked of a record behind those before it, in two parts: "epochs lie between 1 and the current one and never fall" ..
abbrev pub epoch_follows : ℕ → List Record → Record → Bool
epoch_follows current earlier r = leb 1 r.epoch && (leb r.epoch current && every (λ q. leb q.epoch r.epoch) earlier)

-- .. "and each name's versions run 1, 2, 3 with rising epochs"
abbrev pub version_follows : List Record → Record → Bool
version_follows earlier r =
    eqb r.version (suc (length (own_records plain r.name earlier)))
    && every (λ q. ltb q.epoch r.epoch) (own_records plain r.name earlier)

-- the first i records are in shape, and they and record i stand
pub record Reached (s : Bytes) (i epoch : ℕ) : Type 0 where
  pub shape : in_shape plain epoch [] (records_in i s) ≡ true
  pub stands : (k : ℕ) → k ≤ i → Stands s k

-- what tables in shape say of their bytes
pub record Shaped (records heads : Bytes) (count epoch : ℕ) : Type 0 where
  pub read : counted records count ≡ got (records_in count records) []
  pub room : count * record_size ≤ length records
  pub shape : in_shape plain epoch [] (records_in count records) ≡ true
  pub stands : (i : ℕ) → i < count → Stands records i
  pub fits : All record_field.Fits (records_in count records)
  pub lies : head_lies heads epoch ≡ true
