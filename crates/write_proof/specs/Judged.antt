-- Lookup and history proofs at once, by their kind: what is found of the name, the proof's bytes, and what is answered of trees
-- whose leaves share no label.
use Rattle.std.specs.Prelude.{Option, None, Some, List, ◌++◌, map, ℕ, ◌*◌, ◌≤◌, ◌<◌, length}
use Rattle.std.specs.Option.{unwrap_or}
use Rattle.paper.specs.Lists.{every}
use Rattle.paper.specs.Numbers.{wide}
use Rattle.paper.specs.Bytes.{Bytes}
use Rattle.paper.specs.Strings.{Node, Head}
use Rattle.paper.specs.Labelling.{plain}
use Rattle.paper.specs.Tree.{root_digest}
use Rattle.paper.specs.Shows.{Item}
use Rattle.paper.specs.Table.{Record, previous_head, last_version}
use Rattle.paper.specs.Write.{Written, item_of, last_item, versions_by}
use Rattle.paper.specs.declared.State.{State}
use Rattle.record.specs.Places.{record_at, records_in, Stands}
use Rattle.table.specs.Index.{last_where}
use Rattle.own.specs.Own.{own_by}
use Rattle.plan.specs.Kinds.{kind_number}
use Rattle.plan.specs.Asked.{asked_of}
use Rattle.plan.specs.declared.Kind.{Kind}
use Rattle.plan.specs.declared.Kind.TheVariants.{Lookup, History}
use Rattle.plan.specs.declared.Plan.{Plan}
use Rattle.paths.specs.Paths.{free_for, path_bytes}
use Rattle.front.specs.Front.{front_bytes, item_bytes}
use Rattle.tested.specs.Tested.{weighed}
use Rattle.write_proof.specs.declared.found.Found.{Found}

-- the keys
abbrev pub items_by : Kind → List Record → List Item
items_by Lookup rs = last_item rs
items_by History rs = map item_of rs

-- the version of the last record, or 0; from which record on keys are written
abbrev pub version_of : Bytes → Option ℕ → ℕ
version_of s None = 0
version_of s (Some k) = (record_at s k).version

abbrev pub from_by : Kind → Option ℕ → ℕ
from_by Lookup last = unwrap_or last 0
from_by History last = 0

-- both, of the name's last record by epoch t among the first `count`
abbrev pub found : Kind → Bytes → Bytes → ℕ → ℕ → Found
found kind s name t count = record { from = from_by kind (last_where (own_by s name t) count); number = version_of s (last_where (own_by s name t) count) }

-- the head of epoch t over two roots
abbrev pub head_over : Bytes → Bytes → Bytes → ℕ → Head
head_over heads all old t = record { epoch = t; previous = previous_head heads t; all = all; old = old }

-- what stands before a proof's paths
unfoldable pub before_with : Bytes → Bytes → Bytes → List Item → Plan → Bytes
before_with heads all old items p = front_bytes (kind_number p.kind) (head_over heads all old p.epoch) p.number ++ item_bytes items

-- a proof's bytes, for its keys and paths, out of the leaves of *all* and of *old*
module _ (heads name : Bytes) (A O : List Node) where
  abbrev pub head_in : ℕ → Head
  head_in t = head_over heads (root_digest A) (root_digest O) t

  unfoldable pub bytes_with : List Item → Plan → Bytes
  bytes_with items p = front_bytes (kind_number p.kind) (head_in p.epoch) p.number ++ (item_bytes items ++ path_bytes name A O (asked_of p))

module _ (kind : Kind) (records heads : Bytes) (state : State) (out name : Bytes) (t : ℕ) where
  abbrev pub versions : List Record
  versions = versions_by plain name t (records_in state.count records)

  -- what the paths of the name's versions are
  abbrev pub plan_by : Plan
  plan_by = record { kind = kind; number = last_version versions; epoch = t }

  -- of trees whose leaves share no label
  abbrev pub judged : List Node → List Node → Written
  judged A O = weighed state out (every (free_for name A O) (asked_of plan_by)) (bytes_with heads name A O (items_by kind versions) plan_by)

-- what the front and the keys are read from
pub record Source (records heads : Bytes) (count from t : ℕ) : Type 0 where
  pub stand : (i : ℕ) → i < count → Stands records i
  pub within : from ≤ count
  pub reach : t * wide ≤ length heads
