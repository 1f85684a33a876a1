-- The chain of heads, from the records alone: the words of proofs/HeadChain.antt.
use Rattle.std.specs.Prelude.{◌≡◌, List, [], ℕ, zero, suc, ◌≤◌}
use Rattle.fips.specs.Sha256.{sha256}
use Rattle.paper.specs.Numbers.{wide}
use Rattle.paper.specs.Bytes.{Bytes, zeros}
use Rattle.paper.specs.Strings.{head_string}
use Rattle.paper.specs.Labelling.{Labelling}
use Rattle.paper.specs.Tree.{root_digest}
use Rattle.paper.specs.Layout.{got}
use Rattle.paper.specs.Table.{Record, head_at, counted, all_at, old_at}
use Rattle.paper.specs.declared.State.{State}

-- "Epoch 0 has 32 zero bytes as previous head and two empty trees"; each later epoch has the head before it as previous head, and
-- "the tree of epoch t has the leaves with epoch at most t"
unfoldable pub chain_head : Labelling → List Record → ℕ → Bytes
chain_head lab rs zero = sha256 (head_string (record { epoch = 0; previous = zeros wide; all = root_digest []; old = root_digest [] }))
chain_head lab rs (suc t) = sha256 (head_string (record { epoch = suc t; previous = chain_head lab rs t; all = root_digest (all_at lab (suc t) rs); old = root_digest (old_at lab (suc t) rs) }))

-- the head table holds the chain of the counted records, up to the current epoch
pub record Chained (lab : Labelling) (records heads : Bytes) (state : State) : Type 0 where
  pub rs : List Record
  pub counted-records : counted records state.count ≡ got rs []
  pub chain : (t : ℕ) → t ≤ state.epoch → head_at heads t ≡ chain_head lab rs t
