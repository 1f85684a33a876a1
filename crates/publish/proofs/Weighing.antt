-- What each test of publishing says of the whole: a refusal, or that the next test decides. Assumes nothing.
use mathlib.Core.Path.{◌≡◌, refl, sym, ap, ◌∙◌}
use mathlib.Core.Logic.{⊎_elim}
use mathlib.Core.Bool.{Bool, true, false, ◌&&◌, and-false}
use mathlib.Core.List.{List, [], ◌++◌}
use Prim.Native.Nat.{ℕ, suc, ◌+◌, ◌*◌, ◌/◌, ◌%◌, ◌^◌, ◌≤◌, ◌<◌}
use native.Mathlib.Omega.{arith}
use lib.Dec.{eqb, leb}
use lib.ListN.{length, take, length-map}
use borrow.Author.Tests.{eqb-true, leb-true}
use Rattle.paper.specs.Lists.{All, every}
use Rattle.paper.specs.Numbers.{wide, version_most, record_size, update_size, heads_most, INPUT, TABLE, TWICE, FULL, CLASH}
use Rattle.paper.specs.Bytes.{Bytes, Bytewise}
use Rattle.paper.specs.Strings.{head_string}
use Rattle.paper.specs.Labelling.{plain}
use Rattle.paper.specs.Layout.{got, in_layout, times, times_bytes, parse}
use Rattle.paper.specs.Table.{Record, Update, record_field, update_field, records_within, heads_within, head_of, head_digest, counted}
use Rattle.paper.specs.Publish.{new_record, once, unpublished, batch_within, publish}
use Rattle.paper.specs.declared.State.{State}
use Rattle.paper.proofs.Lists.{true-or-false, and_left, and_right, and_both, every-all, in-all, all_in, map-in}
use Rattle.paper.proofs.Layouts.{times-lawful, parse-bytes}
use Rattle.paper.proofs.Proofs.{record-lawful}
use Rattle.paper.proofs.Success.{record-new}
use Rattle.paper.proofs.Fits.{digest-wide}
use Rattle.record.specs.Places.{records_in, Stands}
use Rattle.table.specs.Shape.{shaped, Shaped}
use Rattle.table.proofs.Read.{counted-told, counted-stands}
use Rattle.batch.specs.Places.{updates_in}
use Rattle.batch.proofs.Places.{updates-length, in-updates}
use Rattle.batch.proofs.Form.{batch-read, batch-formed, batch-lies, update-told}
use Rattle.new_epoch.specs.Prepared.{new_records, numbered}
use Rattle.new_epoch.specs.Headed.{apart}
use Rattle.publish.specs.Weighed.{input_good, Good, Clear, Laid}
use Rattle.publish.proofs.Tests.{out-of-bounds, out-of-layout, out-of-shape, twice, full, clash, passed}

module _ (records heads : Bytes) (count epoch : ℕ) (batch : Bytes) where
  abbrev state : State
  state = record { count = count; epoch = epoch }

  abbrev n : ℕ
  n = length batch / update_size

  abbrev us : List Update
  us = updates_in n batch

  -- ---- 1

  pub input-refuses : input_good records heads batch ≡ false → publish plain records heads state batch ≡ unpublished plain records heads state INPUT
  unfolding input_good
  input-refuses e = ⊎_elim
      (λ w. out-of-layout records heads state batch w (rw w at e))
      (λ w. out-of-bounds records heads state batch w)
      (true-or-false (records_within records && (heads_within heads && batch_within batch)))

  pub good : Bytewise batch → input_good records heads batch ≡ true → Good records heads batch
  unfolding input_good batch_within
  good w e =
      let bounds = and_left _ _ e in
      let inside : in_layout (parse (times n update_field) batch) ≡ true = and_right (records_within records && (heads_within heads && batch_within batch)) _ e in
      let b = and_right (heads_within heads) _ (and_right (records_within records) _ bounds) in
      let m = eqb-true (length batch % update_size) 0 (and_left _ _ b) in
      let s : length batch ≡ n * update_size = omega (arith, m) in
      record {
        within = bounds;
        layout = batch-read batch n w s (batch-formed batch n w s inside);
        size = s;
        few = leb-true n 256 (and_right (eqb (length batch % update_size) 0) _ b);
        formed = λ i h. batch-formed batch n w s inside i (omega (arith, s));
        lies = batch-lies batch n w s inside;
      }

  -- an epoch in the head table has few bits
  epoch-few : Good records heads batch → (epoch + 2) * wide ≤ length heads → suc epoch < heads_most
  unfolding heads_within
  epoch-few g h =
      let w = and_left _ _ (and_right (records_within records) _ g.within) in
      let k = leb-true (length heads / wide) heads_most (and_right (leb 1 (length heads / wide)) _ (and_right (eqb (length heads % wide) 0) _ w)) in
      omega (arith, k)

  pub epoch-small : Good records heads batch → (epoch + 2) * wide ≤ length heads → suc epoch < 2 ^ 32
  epoch-small g h = omega (arith, epoch-few g h)

  -- the table has at most 4,096 records
  pub records-few : Good records heads batch → length records ≤ 4096 * 168
  unfolding records_within
  records-few g =
      let w = and_left _ _ g.within in
      let m = eqb-true (length records % record_size) 0 (and_left _ _ w) in
      let k = leb-true (length records / record_size) 4096 (and_right (eqb (length records % record_size) 0) _ w) in
      omega (arith, m, k)

  -- ---- 11

  pub table-refuses : Good records heads batch → shaped records heads count epoch ≡ false → publish plain records heads state batch ≡ unpublished plain records heads state TABLE
  table-refuses g e = out-of-shape records heads state batch us g.within g.layout e

  -- ---- 9, 6, 7

  module _ (g : Good records heads batch) (s : Shaped records heads count epoch) where
    abbrev rs : List Record
    rs = records_in count records

    abbrev more : List Record
    more = new_records records count (suc epoch) batch n

    abbrev room : Bool
    room = leb ((count + n) * record_size) (length records) && leb ((epoch + 2) * wide) (length heads)

    abbrev versions : Bool
    versions = every numbered more

    fits-is : (leb ((count + length us) * record_size) (length records) && (leb ((epoch + 2) * wide) (length heads) && versions)) ≡ (room && versions)
    fits-is = rw (updates-length n batch) (by (leb ((count + n) * record_size) (length records)))
      where
        by : (a : Bool) → (a && (leb ((epoch + 2) * wide) (length heads) && versions)) ≡ ((a && leb ((epoch + 2) * wide) (length heads)) && versions)
        by true = refl
        by false = refl

    pub twice-refuses : once plain us ≡ false → publish plain records heads state batch ≡ unpublished plain records heads state TWICE
    twice-refuses e = twice records heads state batch us g.within g.layout rs s.lies s.shape s.read e

    pub room-refuses : once plain us ≡ true → room ≡ false → publish plain records heads state batch ≡ unpublished plain records heads state FULL
    room-refuses o e = full records heads state batch us g.within g.layout rs s.lies s.shape s.read o (fits-is ∙ rw e)

    pub version-refuses : once plain us ≡ true → versions ≡ false → publish plain records heads state batch ≡ unpublished plain records heads state FULL
    version-refuses o e = full records heads state batch us g.within g.layout rs s.lies s.shape s.read o (fits-is ∙ rw e (and-false room))

    pub clash-refuses : once plain us ≡ true → room ≡ true → versions ≡ true → apart epoch (rs ++ more) ≡ false → publish plain records heads state batch ≡ unpublished plain records heads state CLASH
    clash-refuses o r v e = clash records heads state batch us g.within g.layout rs s.lies s.shape s.read o (fits-is ∙ and_both r v) e

    -- ---- nothing stands in the way

    count-is : length more ≡ n
    count-is = length-map us (new_record plain rs (suc epoch)) ∙ updates-length n batch

    free : room ≡ true → (count + n) * record_size ≤ length records
    free r = leb-true ((count + n) * record_size) (length records) (and_left _ _ r)

    pub slot : room ≡ true → (epoch + 2) * wide ≤ length heads
    slot r = leb-true ((epoch + 2) * wide) (length heads) (and_right (leb ((count + n) * record_size) (length records)) _ r)

    pub clear-leaves : once plain us ≡ true → room ≡ true → versions ≡ true → apart epoch (rs ++ more) ≡ true → (fresh head : Bytes)
        → take (n * record_size) fresh ≡ times_bytes record_field.bytes more → head ≡ head_digest plain heads (suc epoch) (rs ++ more)
        → Clear records heads state batch fresh head
    clear-leaves o r v e fresh head b h = record {
      leaves = passed records heads state batch us g.within g.layout rs s.lies s.shape s.read o (fits-is ∙ and_both r v) e ∙ rw (count-is, ← b, ← h);
      room = free r;
      slot = slot r;
      few = g.few;
      most = omega (arith, free r, records-few g);
      epochs = epoch-few g (slot r);
      size = ap length h ∙ (digest-wide (head_string (head_of plain heads (suc epoch) (rs ++ more)))).size;
    }

    -- ---- the new records, where they are prepared

    module _ (w : Bytewise batch) (o : once plain us ≡ true) (r : room ≡ true) (v : versions ≡ true) where
      more-fit : All record_field.Fits more
      more-fit = in-all _ more (λ q m.
          let (u, k, e) = map-in (new_record plain rs (suc epoch)) us q m in
          let (i, h, p) = in-updates n batch u k in
          let reach : suc i * update_size ≤ length batch = omega (arith, g.size) in
          let f : update_field.Fits u = rw p (update-told batch i w reach (g.formed i reach)).0 in
          let l = leb-true q.version version_most (all_in _ more (every-all _ more v) q m) in
          rw e (record-new plain rs (suc epoch) u f (rw e at l) (epoch-small g (slot r))))

      module _ (fresh : Bytes) (f : Bytewise fresh) (b : take (n * record_size) fresh ≡ times_bytes record_field.bytes more) where
        fresh-read : counted fresh n ≡ got more []
        unfolding counted times
        fresh-read = ap (parse (times n record_field)) b ∙ parse-bytes (times-lawful n record-lawful) more (count-is, more-fit)

        fresh-stand : (i : ℕ) → i < n → Stands fresh i
        fresh-stand = counted-stands fresh f n more [] fresh-read

        fresh-is : records_in n fresh ≡ more
        fresh-is = sym (counted-told fresh f n more [] fresh-read).is

        pub laid : Laid records heads state batch fresh
        laid = record {
          plantable = record { stand = s.stands; new = fresh-stand; few = omega (arith, free r, records-few g) };
          slot = slot r;
          epochs = epoch-few g (slot r);
          clash = λ e. clash-refuses o r v (rw fresh-is at e);
          clear = λ e head h. clear-leaves o r v (rw fresh-is at e) fresh head b (h ∙ rw fresh-is);
        }
