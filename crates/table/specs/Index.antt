-- An index over the names of a table's records: by a name's bucket the last record in it, and by a record the last one before it
-- in the same bucket. So the last record of a name is found by a walk from record to record.
use Rattle.std.specs.Prelude.{◌≡◌, Bool, cond, Option, None, Some, [], ◌∷◌, ℕ, zero, suc, ◌+◌, ◌*◌, ◌%◌, ◌≤◌, ◌<◌, eqb, length, get_or}
use Rattle.paper.specs.Numbers.{records_most}
use Rattle.paper.specs.Bytes.{Bytes}
use Rattle.paper.specs.Labelling.{plain, same_name}
use Rattle.record.specs.Places.{record_at, Stands}
use Rattle.table.specs.declared.index.Index.{Index}

abbrev pub buckets : ℕ
buckets = 4096

-- the number that an entry says: 0 is none, and k + 1 is k
abbrev pub linked : ℕ → Option ℕ
linked zero = None
linked (suc k) = Some k

-- the bucket of a name, from its bytes
unfoldable pub mixed : ℕ → Bytes → ℕ
mixed h [] = h
mixed h (b ∷ s) = mixed ((h * 31 + b) % buckets) s

unfoldable pub bucket_of : Bytes → ℕ
bucket_of name = mixed 0 name

-- the last number below n that passes the test, if one does
unfoldable pub last_where : (ℕ → Bool) → ℕ → Option ℕ
last_where t zero = None
last_where t (suc n) = cond (t n) (Some n) (last_where t n)

-- how many numbers there are up to it
abbrev pub up_to : Option ℕ → ℕ
up_to None = 0
up_to (Some k) = suc k

-- whether record k of a table has a name, and whether its name falls in a bucket
abbrev pub named : Bytes → Bytes → ℕ → Bool
named s name k = same_name plain (record_at s k).name name

abbrev pub falls : Bytes → ℕ → ℕ → Bool
falls s b k = eqb (bucket_of (record_at s k).name) b

-- the index over the first n records of a table; they stand
pub record Indexed (s : Bytes) (n : ℕ) (x : Index) : Type 0 where
  pub stands : (k : ℕ) → k < n → Stands s k
  pub width : length x.first ≡ buckets
  pub room : length x.next ≡ records_most
  pub few : n ≤ records_most
  pub heads : (b : ℕ) → b < buckets → linked (get_or x.first b 0) ≡ last_where (falls s b) n
  pub links : (k : ℕ) → k < n → linked (get_or x.next k 0) ≡ last_where (falls s (bucket_of (record_at s k).name)) k

-- an index over its own records
abbrev pub Own : Index → Type 0
Own x = Indexed x.records.now x.count x

-- and no record from number n on has a link
abbrev pub Unlinked : ℕ → Index → Type 0
Unlinked n x = (k : ℕ) → n ≤ k → get_or x.next k 0 ≡ 0
