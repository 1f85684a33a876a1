-- The heads that start and any publishings left are the chain that document 01's rules give for the records, head by head. Stated once over
-- the labelling. Assumes nothing.
use mathlib.Core.Path.{◌≡◌, ap, ◌∙◌}
use mathlib.Core.Bool.{true}
use mathlib.Core.List.{List, [], ◌∷◌, ◌++◌, flat_map}
use Prim.Native.Nat.{ℕ, zero, suc, ◌≤◌}
use native.Mathlib.Omega.{arith}
use borrow.Author.Tests.{lt-leb}
use Rattle.fips.specs.Sha256.{sha256}
use Rattle.paper.specs.Lists.{All}
use Rattle.paper.specs.Numbers.{wide}
use Rattle.paper.specs.Bytes.{Bytes, zeros}
use Rattle.paper.specs.Strings.{head_string}
use Rattle.paper.specs.Labelling.{Labelling}
use Rattle.paper.specs.Tree.{root_digest}
use Rattle.paper.specs.Table.{Record, head_at, follows, in_shape, by_epoch, all_leaves, old_leaves, all_at, old_at}
use Rattle.paper.specs.Left.{Left}
use Rattle.paper.specs.HeadChain.{chain_head, Chained}
use Rattle.paper.specs.declared.State.{State}
use Rattle.paper.proofs.Lists.{all_in, in-all, and_left, and_right, keep-none}
use Rattle.paper.proofs.Records.{follows-facts}
use Rattle.paper.proofs.Kept.{Kept}
use Rattle.paper.proofs.Published.{left-kept}

module _ (lab : Labelling) where
  -- "epochs lie between 1 and the current one": no record in shape is of epoch 0
  shape-low : (c : ℕ) (earlier rs : List Record) → in_shape lab c earlier rs ≡ true → All (λ r. 1 ≤ r.epoch) rs
  unfolding in_shape
  shape-low c earlier [] e = tt
  shape-low c earlier (r ∷ rs) e = ((follows-facts lab [] c earlier r (and_left _ _ e)).low, shape-low c (earlier ++ (r ∷ [])) rs (and_right (follows lab c earlier r) _ e))

  none_at_zero : (c : ℕ) (rs : List Record) → in_shape lab c [] rs ≡ true → by_epoch 0 rs ≡ []
  unfolding by_epoch
  none_at_zero c rs e = keep-none _ rs (in-all _ rs (λ r m. lt-leb r.epoch 0 (omega (arith, all_in _ rs (shape-low c [] rs e) r m))))

  module _ (records heads : Bytes) (state : State) (kept : Kept lab records heads state) where
    abbrev rs : List Record
    rs = kept.rs

    kept-chain : (t : ℕ) → t ≤ state.epoch → head_at heads t ≡ chain_head lab rs t
    unfolding chain_head flat_map
    kept-chain zero k =
        let e = none_at_zero state.epoch rs kept.shape in
        kept.head-is 0 k
        ∙ ap (λ l. sha256 (head_string (record { epoch = 0; previous = zeros wide; all = root_digest (flat_map (all_leaves lab) l); old = root_digest (flat_map (old_leaves lab) l) }))) e
    kept-chain (suc t) k =
        kept.head-is (suc t) k
        ∙ ap (λ p. sha256 (head_string (record { epoch = suc t; previous = p; all = root_digest (all_at lab (suc t) rs); old = root_digest (old_at lab (suc t) rs) }))) (kept-chain t (omega arith))

  -- "Publishing a batch closes an epoch and gives a 32-byte head.": the chain of heads after start and any publishings
  pub head-chain : {records heads : Bytes} {state : State} → Left lab records heads state → Chained lab records heads state
  head-chain {records = records} {heads = heads} {state = state} left =
      let k = left-kept lab left in
      record { rs = k.rs; counted-records = k.read; chain = kept-chain records heads state k }
