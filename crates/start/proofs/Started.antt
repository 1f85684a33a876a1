-- Starting: the root over no leaves, the only test, and head 0. Assumes nothing.
use Rattle.std.specs.Prelude.{Ok, Err}
use mathlib.Core.Path.{◌≡◌, refl}
use mathlib.Core.Bool.{true, false}
use mathlib.Core.List.{[], flat_map}
use Prim.Native.Nat.{◌/◌, ◌%◌, ◌≤◌}
use native.Mathlib.Omega.{arith}
use lib.Dec.{eqb}
use lib.ListN.{length}
use borrow.Author.Tests.{leb-true}
use Rattle.fips.specs.Sha256.{sha256}
use Rattle.paper.specs.Lists.{keep}
use Rattle.paper.specs.Numbers.{wide, INPUT}
use Rattle.paper.specs.Bytes.{Bytes, zeros, pasted}
use Rattle.paper.specs.Bits.{pack, from_bits}
use Rattle.paper.specs.Strings.{head_string, inner_string, nothing_string}
use Rattle.paper.specs.Labelling.{plain}
use Rattle.paper.specs.Tree.{root, root_digest, side}
use Rattle.paper.specs.Table.{heads_within, by_epoch}
use Rattle.paper.specs.Verdict.{verdict}
use Rattle.paper.specs.Publish.{start}
use Rattle.paper.proofs.Lists.{and_left, and_right}
use Rattle.paper.proofs.Tree.{below_none}

prefix-none : pack wide [] ≡ zeros wide
unfolding pack from_bits
prefix-none = refl

pub empty-root : root_digest [] ≡ sha256 (inner_string 0 (zeros wide) (sha256 nothing_string) (sha256 nothing_string))
unfolding root side keep
empty-root = rw (below_none, prefix-none)

pub unstarted : (heads : Bytes) → heads_within heads ≡ false → start plain heads ≡ record { answer = Err INPUT; heads = heads }
unfolding start verdict
unstarted heads e = rw e

pub started : (heads : Bytes) → heads_within heads ≡ true
    → start plain heads ≡ record { answer = Ok (record { count = 0; epoch = 0 }); heads = pasted heads 0 (sha256 (head_string (record { epoch = 0; previous = zeros wide; all = root_digest []; old = root_digest [] }))) }
unfolding start verdict by_epoch keep flat_map
started heads e = rw e

pub one-head : (heads : Bytes) → heads_within heads ≡ true → 32 ≤ length heads
unfolding heads_within
one-head heads e =
    let h = leb-true 1 (length heads / 32) (and_left _ _ (and_right (eqb (length heads % 32) 0) _ e)) in
    omega (arith, h)
