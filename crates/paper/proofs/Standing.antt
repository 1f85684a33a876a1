-- What start and publishings keep is a directory that stands. Assumes nothing.
use mathlib.Core.Path.{◌≡◌}
use mathlib.Core.Bool.{true}
use Prim.Native.Nat.{ℕ, zero, suc, ◌*◌, ◌/◌, ◌%◌, ◌≤◌}
use native.Mathlib.Omega.{arith}
use lib.Dec.{eqb, leb}
use lib.ListN.{length, drop, length-drop}
use lib.Seq.{length-take-le}
use borrow.Author.Tests.{leb-true}
use Rattle.paper.specs.Numbers.{wide, record_size, records_most, heads_most}
use Rattle.paper.specs.Bytes.{Bytes, Bytewise}
use Rattle.paper.specs.Labelling.{Labelling}
use Rattle.paper.specs.Table.{records_within, heads_within, head_at, previous_head}
use Rattle.paper.specs.declared.State.{State}
pub use Rattle.paper.specs.Standing.{Standing}
use Rattle.paper.proofs.Lists.{all_in, in-all, all_take, all_drop, and_right}
use Rattle.paper.proofs.Fits.{Wide}
use Rattle.paper.proofs.Leaves.{record-fits, zeros-wide}
use Rattle.paper.proofs.Kept.{Kept}

-- heads that lie in a head table are few, and the previous head of each epoch up to the current one has 32 bytes
module _ (heads : Bytes) (epoch : ℕ) (lies : suc epoch * wide ≤ length heads) where
  pub epochs-few : heads_within heads ≡ true → suc epoch ≤ heads_most
  unfolding heads_within
  epochs-few w = omega (arith, leb-true (length heads / wide) heads_most (and_right (leb 1 (length heads / wide)) _ (and_right (eqb (length heads % wide) 0) _ w)))

  pub previous-wide : Bytewise heads → (t : ℕ) → t ≤ epoch → Wide (previous_head heads t)
  unfolding head_at
  previous-wide b zero l = zeros-wide
  previous-wide b (suc t) l = record {
    size = length-take-le wide (drop (t * wide) heads) (omega (arith, length-drop (t * wide) heads));
    bytes = all_take _ wide (drop (t * wide) heads) (all_drop _ (t * wide) heads b);
  }

module _ (lab : Labelling) {records heads : Bytes} {state : State} (k : Kept lab records heads state) where
  few : length k.rs ≤ records_most
  unfolding records_within
  few = omega (arith, k.size, k.room, leb-true (length records / record_size) records_most (and_right (eqb (length records % record_size) 0) _ k.records-within))

  pub kept-stands : Standing lab records heads state k.rs
  kept-stands = record {
    read = k.read;
    fits = in-all _ k.rs (λ r m. record-fits r (all_in _ k.rs k.fits r m));
    few = few;
    shape = k.shape;
    records-within = k.records-within;
    heads-within = k.heads-within;
    lies = k.lies;
    epochs = epochs-few heads state.epoch k.lies k.heads-within;
    head-is = k.head-is;
    previous = previous-wide heads state.epoch k.lies k.head-bytes;
    all-distinct = k.all-distinct;
    old-distinct = k.old-distinct;
  }
