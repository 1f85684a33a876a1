-- What a writer answers and leaves depends on nothing of the tables but their lengths, the counted records, and the previous heads of the
-- epochs whose heads it opens. Stated once over the labelling. Assumes nothing.
use mathlib.Core.Path.{◌≡◌, refl, ap}
use mathlib.Core.Bool.{Bool}
use mathlib.Core.List.{List}
use Prim.Native.Nat.{ℕ, ◌-◌}
use Rattle.paper.specs.Bytes.{Bytes}
use Rattle.paper.specs.Labelling.{Labelling}
use Rattle.paper.specs.Layout.{Read, got, bad, times, parse}
use Rattle.paper.specs.Table.{Record, record_field, records_within, heads_within, head_lies, counted}
use Rattle.paper.specs.Write.{write_read, write_with, write_lookup, write_history, write_audit}
use Rattle.paper.specs.declared.State.{State}
use Rattle.directory.specs.Alike.{Alike, Previous}

module _ (lab : Labelling) (state : State) (out records heads records' heads' : Bytes) (alike : Alike state records heads records' heads') where
  lies : head_lies heads state.epoch ≡ head_lies heads' state.epoch
  unfolding head_lies
  lies = rw alike.heads-length

  within : records_within records ≡ records_within records'
  unfolding records_within
  within = rw alike.records-length

  heads-within : heads_within heads ≡ heads_within heads'
  unfolding heads_within
  heads-within = rw alike.heads-length

  read : counted records state.count ≡ counted records' state.count
  unfolding counted
  read = ap (parse (times state.count record_field)) alike.counted-records

  module _ (t : ℕ) (clear : List Record → Bool) (proof proof' : List Record → Bytes) (same : (rs : List Record) → proof rs ≡ proof' rs) where
    read_same : (m : Read (List Record)) → write_read lab records heads state out t clear proof m ≡ write_read lab records' heads' state out t clear proof' m
    read_same bad = refl
    read_same (got rs r) = rw (same rs, lies)

    pub write-unread : (input : Bool) → write_with lab records heads state out input t clear proof ≡ write_with lab records' heads' state out input t clear proof'
    unfolding write_with
    write-unread input = rw (within, heads-within, read, read_same (counted records' state.count))

  pub lookup-unread : (name : Bytes) (t : ℕ) → Previous heads heads' t → write_lookup lab records heads state out name t ≡ write_lookup lab records' heads' state out name t
  lookup-unread name t e = write-unread t _ _ _ (λ rs. rw e) _

  pub history-unread : (name : Bytes) (t : ℕ) → Previous heads heads' t → write_history lab records heads state out name t ≡ write_history lab records' heads' state out name t
  history-unread name t e = write-unread t _ _ _ (λ rs. rw e) _

  pub audit-unread : (t : ℕ) → Previous heads heads' (t - 1) → Previous heads heads' t → write_audit lab records heads state out t ≡ write_audit lab records' heads' state out t
  audit-unread t d e = write-unread t _ _ _ (λ rs. rw (d, e)) _
