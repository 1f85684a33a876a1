-- "name | 1 to 64 bytes, each 0x21 to 0x7E", as it is tested. Assumes nothing.
use mathlib.Core.Path.{◌≡◌}
use mathlib.Core.Logic.{◌⊎◌, inl, inr}
use mathlib.Core.Bool.{Bool, true, false, ◌&&◌, and-false}
use Prim.Native.Nat.{ℕ, ◌≤◌, ◌<◌}
use lib.Dec.{leb}
use lib.ListN.{length}
use borrow.Author.Tests.{le-leb, lt-leb, leb-true}
use Rattle.paper.specs.Lists.{every}
use Rattle.paper.specs.Bytes.{Bytes}
use Rattle.paper.specs.Fields.{is_name}
use Rattle.paper.proofs.Lists.{and_left, and_right}

-- a byte of a name
abbrev pub printed : ℕ → Bool
printed b = leb 0x21 b && leb b 0x7E

pub name-sized : (name : Bytes) → 1 ≤ length name → length name ≤ 64 → is_name name ≡ every printed name
unfolding is_name
name-sized name l h = rw (le-leb 1 (length name) l, le-leb (length name) 64 h)

pub name-unsized : (name : Bytes) → (length name < 1) ⊎ (64 < length name) → is_name name ≡ false
unfolding is_name
name-unsized name (inl h) = rw (lt-leb 1 (length name) h)
name-unsized name (inr h) = rw (lt-leb (length name) 64 h, and-false)

pub name-short : (name : Bytes) → is_name name ≡ true → length name ≤ 64
unfolding is_name
name-short name e = leb-true (length name) 64 (and_left (leb (length name) 64) _ (and_right (leb 1 (length name)) _ e))
