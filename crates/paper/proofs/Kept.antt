-- What start and any publishings leave: records that are read back and in shape, heads that are those of document 01's rules for the
-- records, and trees without a clash, at every epoch. Assumes nothing.
use mathlib.Core.Path.{◌≡◌, refl, sym, ap, ◌∙◌, subst}
use mathlib.Core.Bool.{true, ◌&&◌}
use mathlib.Core.List.{List, [], ◌∷◌, ◌++◌, flat_map, append_assoc}
use Prim.Native.Nat.{ℕ, zero, suc, ◌+◌, ◌-◌, ◌*◌, ◌/◌, ◌%◌, ◌≤◌}
use native.Mathlib.Omega.{arith}
use lib.Dec.{eqb, leb}
use lib.ListN.{length, take, drop, length-append, length-replicate}
use borrow.Author.Tests.{leb-true}
use Rattle.fips.proofs.Size.{sha256-length}
use Rattle.paper.specs.Lists.{All, keep}
use Rattle.paper.specs.Numbers.{wide, record_size, records_most, heads_most}
use Rattle.paper.specs.Bytes.{Bytes, Bytewise, be, zeros, pasted}
use Rattle.paper.specs.Labelling.{Labelling}
use Rattle.paper.specs.Layout.{got, block, fixed, within, seq, led, times, times_bytes, such, times_read, view}
use Rattle.paper.specs.Table.{Record, filled_field, record_field, records_within, heads_within, head_at, counted, in_shape, by_epoch, all_at, old_at, head_digest, distinct}
use Rattle.paper.specs.declared.State.{State}
use Rattle.paper.proofs.Lists.{all_append, and_left, and_right}
use Rattle.paper.proofs.Bytes.{be-length, be-bytes}
use Rattle.paper.proofs.Leaves.{zeros-bytes}
use Rattle.paper.proofs.Fits.{digest-wide}
use Rattle.paper.proofs.Pasted.{pasted_length, part_at, pasted-bytes}

-- ---- the sizes of records

pub filled-length : (s : Bytes) → filled_field.Fits s → length (filled_field.bytes s) ≡ 65
unfolding led within view seq block fixed
filled-length s f =
    omega (arith, length-append (be 1 (length s)) (s ++ zeros (64 - length s)), length-append s (zeros (64 - length s)), be-length 1 (length s), length-replicate {A = ℕ} (64 - length s) 0)

filled-bytes : (s : Bytes) → filled_field.Fits s → Bytewise (filled_field.bytes s)
unfolding led within view seq block fixed
filled-bytes s f = all_append _ (be 1 (length s)) (s ++ zeros (64 - length s)) (be-bytes 1 (length s) (omega arith)) (all_append _ s (zeros (64 - length s)) f.1.0.0.1 (zeros-bytes (64 - length s)))

pub record-bytewise : (r : Record) → record_field.Fits r → Bytewise (record_field.bytes r)
unfolding view seq such within block
record-bytewise r f =
    let k = filled_field.bytes r.key in
    all_append _ (filled_field.bytes r.name) (be 2 r.version ++ (be 4 r.epoch ++ (k ++ r.opening))) (filled-bytes r.name f.0.0.0)
    (all_append _ (be 2 r.version) (be 4 r.epoch ++ (k ++ r.opening)) (be-bytes 2 r.version f.0.1.0.2)
    (all_append _ (be 4 r.epoch) (k ++ r.opening) (be-bytes 4 r.epoch f.0.1.1.0.2)
    (all_append _ k r.opening (filled-bytes r.key f.0.1.1.1.0) f.0.1.1.1.1.1)))

pub record-length : (r : Record) → record_field.Fits r → length (record_field.bytes r) ≡ record_size
unfolding view seq such within block
record-length r f =
    let n = filled_field.bytes r.name in
    let k = filled_field.bytes r.key in
    omega (
      arith,
      filled-length r.name f.0.0.0,
      filled-length r.key f.0.1.1.1.0,
      f.0.1.1.1.1.0,
      be-length 2 r.version,
      be-length 4 r.epoch,
      length-append n (be 2 r.version ++ (be 4 r.epoch ++ (k ++ r.opening))),
      length-append (be 2 r.version) (be 4 r.epoch ++ (k ++ r.opening)),
      length-append (be 4 r.epoch) (k ++ r.opening),
      length-append k r.opening,
    )

pub records-length : (rs : List Record) → All record_field.Fits rs → length (times_bytes record_field.bytes rs) ≡ length rs * record_size
unfolding times_bytes
records-length [] f = refl
records-length (r ∷ rs) f = omega (arith, length-append (record_field.bytes r) (times_bytes record_field.bytes rs), record-length r f.0, records-length rs f.1)

pub times-append : (rs more : List Record) → times_bytes record_field.bytes (rs ++ more) ≡ times_bytes record_field.bytes rs ++ times_bytes record_field.bytes more
unfolding times_bytes
times-append [] more = refl
times-append (r ∷ rs) more = ap (λ l. record_field.bytes r ++ l) (times-append rs more) ∙ sym (append_assoc (record_field.bytes r) (times_bytes record_field.bytes rs) (times_bytes record_field.bytes more))

-- ---- what is kept

pub record Kept (lab : Labelling) (records heads : Bytes) (state : State) : Type 0 where
  pub rs : List Record
  pub read : counted records state.count ≡ got rs []
  pub fits : All record_field.Fits rs
  pub size : length rs ≡ state.count
  pub shape : in_shape lab state.epoch [] rs ≡ true
  pub record-bytes : Bytewise records
  pub head-bytes : Bytewise heads
  pub records-within : records_within records ≡ true
  pub heads-within : heads_within heads ≡ true
  pub room : state.count * record_size ≤ length records
  pub lies : suc state.epoch * wide ≤ length heads
  pub head-is : (t : ℕ) → t ≤ state.epoch → head_at heads t ≡ head_digest lab heads t rs
  pub all-distinct : (t : ℕ) → t ≤ state.epoch → distinct (all_at lab t rs) ≡ true
  pub old-distinct : (t : ℕ) → t ≤ state.epoch → distinct (old_at lab t rs) ≡ true

-- ---- start

heads-room : (heads : Bytes) → heads_within heads ≡ true → wide ≤ length heads
unfolding heads_within
heads-room heads e = omega (arith, leb-true 1 (length heads / wide) (and_left _ _ (and_right (eqb (length heads % wide) 0) _ e)))

-- a table of the same length is as much within bounds
pub within_same : (a b : Bytes) → length a ≡ length b → heads_within a ≡ true → heads_within b ≡ true
unfolding heads_within
within_same a b n e = subst (λ k. (eqb (k % wide) 0 && (leb 1 (k / wide) && leb (k / wide) heads_most)) ≡ true) n e

pub records-same : (a b : Bytes) → length a ≡ length b → records_within a ≡ true → records_within b ≡ true
unfolding records_within
records-same a b n e = subst (λ k. (eqb (k % record_size) 0 && leb (k / record_size) records_most) ≡ true) n e

module _ (lab : Labelling) where
  -- no records: nothing is read, nothing clashes
  none_read : (records : Bytes) → counted records 0 ≡ got [] []
  unfolding counted times times_read
  none_read records = refl

  none-shape : in_shape lab 0 [] [] ≡ true
  unfolding in_shape
  none-shape = refl

  none-all : (t : ℕ) → distinct (all_at lab t []) ≡ true
  unfolding distinct by_epoch keep flat_map
  none-all t = refl

  none_old : (t : ℕ) → distinct (old_at lab t []) ≡ true
  unfolding distinct by_epoch keep flat_map
  none_old t = refl

  abbrev first : Bytes → Bytes
  first heads = head_digest lab heads 0 []

  -- head 0 stands in its place
  head-zero : (heads : Bytes) → 0 + length (first heads) ≤ length heads → (t : ℕ) → t ≤ 0 → head_at (pasted heads 0 (first heads)) t ≡ head_digest lab (pasted heads 0 (first heads)) t []
  unfolding head_at
  head-zero heads room zero k = ap (λ w. take w (drop 0 (pasted heads 0 (first heads)))) (sym (sha256-length _)) ∙ part_at heads 0 (first heads) room
  head-zero heads room (suc t) k = absurd (omega arith)

  pub kept-at-start : (records heads : Bytes) → Bytewise records → Bytewise heads → records_within records ≡ true → heads_within heads ≡ true
      → Kept lab records (pasted heads 0 (first heads)) (record { count = 0; epoch = 0 })
  kept-at-start records heads rb hb rw hw =
      let h = first heads in
      let n : length h ≡ wide = sha256-length _ in
      let room : 0 + length h ≤ length heads = omega (arith, heads-room heads hw) in
      let l = pasted_length heads 0 h room in
      record {
        rs = [];
        read = none_read records;
        fits = tt;
        size = refl;
        shape = none-shape;
        record-bytes = rb;
        head-bytes = pasted-bytes heads 0 h room hb (digest-wide _).bytes;
        records-within = rw;
        heads-within = within_same heads (pasted heads 0 h) (sym l) hw;
        room = omega arith;
        lies = omega (arith, heads-room heads hw);
        head-is = head-zero heads room;
        all-distinct = λ t k. none-all t;
        old-distinct = λ t k. none_old t;
      }
