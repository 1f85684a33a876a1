-- What stands at a place of an audit proof's bytes. Where the bytes are in layout, this is what the layout reads (proofs/Form.antt).
use Rattle.std.specs.Prelude.{◌≡◌, List, [], ◌∷◌, map, ℕ, zero, suc, ◌+◌, ◌*◌, ◌≤◌, ◌<◌, length, take, drop, get_or}
use Rattle.paper.specs.Lists.{All}
use Rattle.paper.specs.Numbers.{wide, audit_most}
use Rattle.paper.specs.Bytes.{Bytes, number}
use Rattle.paper.specs.Bits.{Bits, bits_of, pack}
use Rattle.paper.specs.Audit.{AuditRecord, unchanged, opened, fresh, Audit}
use Rattle.fields.specs.Head.{head_at}

-- "records of 99 bytes: kind, length 2, label or prefix 32, then ..": the 32 bytes, and the first bits of them
unfoldable pub label_at : Bytes → ℕ → Bytes
label_at s at = take wide (drop (at + 3) s)

unfoldable pub key_at : Bytes → ℕ → Bits
key_at s at = take (number (take 2 (drop (at + 1) s))) (bits_of (label_at s at))

-- ".. for kind 1 two digests, for kinds 0 and 2 commitment, epoch and 28 zero bytes"; the layout lets no kind above 2 through
unfoldable pub record_by : ℕ → Bytes → ℕ → AuditRecord
record_by zero s at = unchanged (key_at s at) (take wide (drop (at + 35) s)) (number (take 4 (drop (at + 67) s)))
record_by (suc zero) s at = opened (key_at s at) (take wide (drop (at + 35) s)) (take wide (drop (at + 67) s))
record_by (suc (suc k)) s at = fresh (key_at s at) (take wide (drop (at + 35) s)) (number (take 4 (drop (at + 67) s)))

unfoldable pub record_at : Bytes → ℕ → AuditRecord
record_at s at = record_by (get_or s at 0) s at

-- n records, one behind the other
unfoldable pub records_at : Bytes → ℕ → ℕ → List AuditRecord
records_at s at zero = []
records_at s at (suc n) = record_at s at ∷ records_at s (at + 99) n

-- the same records, each in its own 99 bytes: n of them, from a place on, and what stands in them
unfoldable pub rows_at : Bytes → ℕ → ℕ → List Bytes
rows_at s at zero = []
rows_at s at (suc n) = take 99 (drop at s) ∷ rows_at s (at + 99) n

abbrev pub records_of : List Bytes → List AuditRecord
records_of rows = map (λ r. record_at r 0) rows

-- "a count (4) and records": the count of the list at a place, and where the list ends
unfoldable pub count_at : Bytes → ℕ → ℕ
count_at s at = number (take 4 (drop at s))

unfoldable pub behind_at : Bytes → ℕ → ℕ
behind_at s at = at + 4 + count_at s at * 99

-- the audit: six bytes that open it, the two heads, the list of *all* and the list of *old*
unfoldable pub audit_at : Bytes → Audit
audit_at s = record {
  before = head_at s 6;
  after = head_at s 106;
  all = records_at s 210 (count_at s 206);
  old = records_at s (behind_at s 206 + 4) (count_at s (behind_at s 206));
}

-- a record in layout: the bits past its length are zero, so that its 32 bytes are those of its key
pub record Formed (s : Bytes) (at : ℕ) : Type 0 where
  pub reach : at + 99 ≤ length s
  pub kind : get_or s at 0 ≤ 2
  pub least : 1 ≤ number (take 2 (drop (at + 1) s))
  pub most : number (take 2 (drop (at + 1) s)) ≤ 256
  pub packed : pack wide (key_at s at) ≡ label_at s at

-- n records in layout, of which the document allows no more than 16,384
pub record Listed (s : Bytes) (at n : ℕ) : Type 0 where
  pub reach : at + n * 99 ≤ length s
  pub few : n ≤ audit_most
  pub each : (i : ℕ) → i < n → Formed s (at + i * 99)

-- the same of records that stand each in its own 99 bytes
pub record Rows (rows : List Bytes) : Type 0 where
  pub few : length rows ≤ audit_most
  pub each : All (λ r. Formed r 0) rows

-- an audit in layout: room for its heads, and two lists
pub record Laid (s : Bytes) : Type 0 where
  pub long : 206 ≤ length s
  pub all : Listed s 210 (count_at s 206)
  pub old : Listed s (behind_at s 206 + 4) (count_at s (behind_at s 206))
