-- The tree over no leaf and over one, and the string of a leaf. Assumes nothing.
use mathlib.Core.Path.{◌≡◌, sym, ap, ◌∙◌}
use mathlib.Core.List.{List, [], ◌∷◌}
use Prim.Native.Nat.{◌≤◌}
use native.Mathlib.Omega.{arith}
use lib.ListN.{length, take, drop, get_or}
use lib.Seq.{length-take-le}
use Rattle.paper.specs.Lists.{All}
use Rattle.paper.specs.Numbers.{wide}
use Rattle.paper.specs.Bytes.{Bytes, Bytewise, number}
use Rattle.paper.specs.Bits.{bits_of, pack}
use Rattle.paper.specs.Strings.{Node, nothing, leaf_string}
use Rattle.paper.specs.Tree.{key, digest, empty, one, build}
use Rattle.paper.specs.Level.{entry_leaf}
use Rattle.fips.specs.Sha256.{sha256}
use Rattle.paper.proofs.Lists.{all_take}
use Rattle.paper.proofs.Tree.{below_none, below_one}
use Rattle.paper.proofs.Bytes.{pack-bits_of}

pub long-short : (S : List Node) → All (λ x. length (key x) ≡ 256) S → All (λ x. length (key x) ≤ 256) S
long-short [] h = tt
long-short (x ∷ S) h = (omega (arith, h.0), long-short S h.1)

pub some-leaves : (S : List Node) → 1 ≤ length S → ¬ (S ≡ [])
some-leaves S h e = omega (arith, ap length e)

-- the tree over no leaf, and over one
pub bare : (S : List Node) → length S ≡ 0 → build 256 S ≡ empty
bare [] h = below_none
bare (x ∷ S) h = absurd (omega arith)

pub single : (S : List Node) → length S ≡ 1 → build 256 S ≡ one (get_or S 0 nothing)
single [] h = absurd (omega arith)
single (x ∷ []) h = below_one x
single (x ∷ y ∷ S) h = absurd (omega arith)

-- the string of a leaf
pub leaf-string : (s : Bytes) → 68 ≤ length s → Bytewise s → sha256 (leaf_string (take 32 s) (take 32 (drop 32 s)) (number (take 4 (drop 64 s)))) ≡ digest (entry_leaf s)
leaf-string s h w =
    let l = length-take-le 32 s (omega arith) in
    let e : pack wide (bits_of (take 32 s)) ≡ take 32 s = ap (λ n. pack n (bits_of (take 32 s))) (sym l) ∙ pack-bits_of (take 32 s) (all_take _ 32 s w) in
    ap (λ x. sha256 (leaf_string x (take 32 (drop 32 s)) (number (take 4 (drop 64 s))))) (sym e)
