-- A directory that stands: what start and any publishings keep, and what demand 2's theorems ask of tables and state.
use Rattle.std.specs.Prelude.{◌≡◌, true, List, [], ℕ, suc, ◌*◌, ◌^◌, ◌≤◌, ◌<◌, length}
use Rattle.paper.specs.Lists.{All}
use Rattle.paper.specs.Numbers.{wide, key_most, version_most, records_most, heads_most}
use Rattle.paper.specs.Bytes.{Bytes, Bytewise}
use Rattle.paper.specs.Labelling.{Labelling}
use Rattle.paper.specs.Layout.{got}
use Rattle.paper.specs.Shows.{Item}
use Rattle.paper.specs.Table.{Record, records_within, heads_within, head_at, counted, in_shape, all_at, old_at, previous_head, head_digest, distinct}
use Rattle.paper.specs.Write.{item_of}
use Rattle.paper.specs.declared.State.{State}

-- 32 bytes: a digest, an opening
pub record Wide (x : Bytes) : Type 0 where
  pub size : length x ≡ wide
  pub bytes : Bytewise x

-- "key | 1 to 64 bytes", "opening | 32 bytes"
pub record ItemFits (i : Item) : Type 0 where
  pub least : 1 ≤ length i.key
  pub most : length i.key ≤ key_most
  pub bytes : Bytewise i.key
  pub opening : Wide i.opening

-- "versions of a name | 1 to 1,023", "epoch in a proof | 32 bits, unsigned"
pub record RecordFits (r : Record) : Type 0 where
  pub least : 1 ≤ r.version
  pub most : r.version ≤ version_most
  pub epoch : r.epoch < 2 ^ 32
  pub item : ItemFits (item_of r)

pub record Standing (lab : Labelling) (records heads : Bytes) (state : State) (rs : List Record) : Type 0 where
  -- these are the counted records, within their bounds and in shape
  pub read : counted records state.count ≡ got rs []
  pub fits : All RecordFits rs
  pub few : length rs ≤ records_most
  pub shape : in_shape lab state.epoch [] rs ≡ true
  -- "The counted records and the current head must lie in their tables."
  pub records-within : records_within records ≡ true
  pub heads-within : heads_within heads ≡ true
  pub lies : suc state.epoch * wide ≤ length heads
  pub epochs : suc state.epoch ≤ heads_most
  -- each head up to the current one is that of the records by its epoch, over the head before it
  pub head-is : (t : ℕ) → t ≤ state.epoch → head_at heads t ≡ head_digest lab heads t rs
  pub previous : (t : ℕ) → t ≤ state.epoch → Wide (previous_head heads t)
  -- no two leaves of a tree share a label
  pub all-distinct : (t : ℕ) → t ≤ state.epoch → distinct (all_at lab t rs) ≡ true
  pub old-distinct : (t : ℕ) → t ≤ state.epoch → distinct (old_at lab t rs) ≡ true
