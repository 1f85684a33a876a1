-- The audit writer: what remains of it as tests pass.
use Rattle.std.specs.Prelude.{Bool, ◌&&◌, List, ℕ, ◌-◌}
use Rattle.paper.specs.Bytes.{Bytes}
use Rattle.paper.specs.Strings.{Node}
use Rattle.paper.specs.Labelling.{plain}
use Rattle.paper.specs.Audit.{audit_field}
use Rattle.paper.specs.Table.{Record, all_at, old_at, distinct}
use Rattle.paper.specs.Write.{Written, audit_proof}
use Rattle.paper.specs.declared.State.{State}
use Rattle.record.specs.Places.{records_in}
use Rattle.tested.specs.Tested.{weighed}

-- no two leaves of a tree over A share a label, and none of a tree over O
abbrev pub both_clear : List Node → List Node → Bool
both_clear A O = distinct A && distinct O

-- "two leaves of a needed tree share a label": not so
abbrev pub clear_at : ℕ → List Record → Bool
clear_at t rs = distinct (all_at plain (t - 1) rs) && (distinct (old_at plain (t - 1) rs) && both_clear (all_at plain t rs) (old_at plain t rs))

module _ (records heads : Bytes) (state : State) (out : Bytes) (t : ℕ) where
  abbrev pub rs : List Record
  rs = records_in state.count records

  -- of tables in shape
  abbrev pub rest_at : Written
  rest_at = weighed state out (clear_at t rs) (audit_field.bytes (audit_proof plain heads t rs))
