-- The order of publishing's tests, "1, 11, 9, 6, 7": each refusal where the tests before it pass, and what publishing leaves where all
-- pass. Assumes nothing.
use mathlib.Core.Path.{◌≡◌, refl, ap, ◌∙◌}
use mathlib.Core.Bool.{Bool, true, false, ◌&&◌, true≢false}
use mathlib.Core.List.{List, [], ◌∷◌, ◌++◌, map}
use Prim.Native.Nat.{suc, ◌+◌, ◌*◌, ◌/◌}
use lib.Dec.{leb}
use lib.ListN.{length}
use Rattle.paper.specs.Lists.{every}
use Rattle.paper.specs.Numbers.{wide, version_most, record_size, update_size, INPUT, TABLE, TWICE, FULL, CLASH}
use Rattle.paper.specs.Bytes.{Bytes}
use Rattle.paper.specs.Labelling.{plain}
use Rattle.paper.specs.Layout.{Read, got, bad, in_layout, times, parse}
use Rattle.paper.specs.Verdict.{test, verdict}
use Rattle.paper.specs.Table.{Record, Update, update_field, records_within, heads_within, counted, head_lies, in_shape, all_at, old_at, distinct}
use Rattle.paper.specs.Publish.{new_record, once, unpublished, appended, publish_table, publish_batch, batch_within, publish}
use Rattle.paper.specs.declared.State.{State}
use Rattle.table.specs.Shape.{shaped, shaped_read}

module _ (records heads : Bytes) (state : State) (batch : Bytes) where
  abbrev within : Bool
  within = records_within records && (heads_within heads && batch_within batch)

  abbrev read : Read (List Update)
  read = parse (times (length batch / update_size) update_field) batch

  pub out-of-bounds : within ≡ false → publish plain records heads state batch ≡ unpublished plain records heads state INPUT
  unfolding publish verdict
  out-of-bounds e = rw e

  in_bounds : within ≡ true → publish plain records heads state batch ≡ publish_batch plain records heads state read
  unfolding publish verdict
  in_bounds e = rw e

  pub out-of-layout : within ≡ true → in_layout read ≡ false → publish plain records heads state batch ≡ unpublished plain records heads state INPUT
  out-of-layout e f = in_bounds e ∙ by read f
    where
      by : (r : Read (List Update)) → in_layout r ≡ false → publish_batch plain records heads state r ≡ unpublished plain records heads state INPUT
      by bad f = refl
      by (got us q) f = absurd (true≢false f)

  table-bad : (us : List Update) (r : Read (List Record)) → (head_lies heads state.epoch && shaped_read state.epoch r) ≡ false
      → publish_table plain records heads state us r ≡ unpublished plain records heads state TABLE
  unfolding verdict
  table-bad us bad e = refl
  table-bad us (got rs q) e = rw e

  module _ (us : List Update) (bounds : within ≡ true) (layout : read ≡ got us []) where
    to-table : publish plain records heads state batch ≡ publish_table plain records heads state us (counted records state.count)
    to-table = in_bounds bounds ∙ ap (publish_batch plain records heads state) layout

    pub out-of-shape : shaped records heads state.count state.epoch ≡ false → publish plain records heads state batch ≡ unpublished plain records heads state TABLE
    unfolding shaped
    out-of-shape e = to-table ∙ table-bad us (counted records state.count) e

    module _ (rs : List Record) (lies : head_lies heads state.epoch ≡ true) (shape : in_shape plain state.epoch [] rs ≡ true) (seen : counted records state.count ≡ got rs []) where
      abbrev pub more : List Record
      more = map (new_record plain rs (suc state.epoch)) us

      -- "too few free records, no head slot, or a name at 1,023"
      abbrev pub fits : Bool
      fits = leb ((state.count + length us) * record_size) (length records) && (leb ((state.epoch + 2) * wide) (length heads) && every (λ r. leb r.version version_most) more)

      -- "two leaves of a needed tree share a label"
      abbrev pub apart : Bool
      apart = distinct (all_at plain (suc state.epoch) (rs ++ more)) && distinct (old_at plain (suc state.epoch) (rs ++ more))

      to-tests : publish plain records heads state batch
          ≡ verdict (unpublished plain records heads state) (appended plain records heads state rs more) (test TWICE (once plain us) ∷ test FULL fits ∷ test CLASH apart ∷ [])
      unfolding verdict
      to-tests = to-table ∙ ap (publish_table plain records heads state us) seen ∙ rw (lies, shape)

      pub twice : once plain us ≡ false → publish plain records heads state batch ≡ unpublished plain records heads state TWICE
      unfolding verdict
      twice e = to-tests ∙ rw e

      pub full : once plain us ≡ true → fits ≡ false → publish plain records heads state batch ≡ unpublished plain records heads state FULL
      unfolding verdict
      full e f = to-tests ∙ rw (e, f)

      pub clash : once plain us ≡ true → fits ≡ true → apart ≡ false → publish plain records heads state batch ≡ unpublished plain records heads state CLASH
      unfolding verdict
      clash e f g = to-tests ∙ rw (e, f, g)

      pub passed : once plain us ≡ true → fits ≡ true → apart ≡ true → publish plain records heads state batch ≡ appended plain records heads state rs more
      unfolding verdict
      passed e f g = to-tests ∙ rw (e, f, g)
