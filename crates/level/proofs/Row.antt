-- The row that entries are copied to. Assumes nothing.
use mathlib.Core.Path.{◌≡◌}
use mathlib.Core.Bool.{true}
use mathlib.Core.List.{List}
use Prim.Native.Nat.{◌*◌, ◌/◌, ◌%◌, ◌≤◌}
use native.Mathlib.Omega.{arith}
use lib.Dec.{eqb}
use lib.ListN.{length}
use borrow.Author.Tests.{eqb-true, leb-true}
use Rattle.std.specs.Simd.{first_chunks}
use Rattle.paper.specs.Bytes.{Bytes, Bytewise}
use Rattle.paper.specs.Level.{leaves_of, entries_within}
use Rattle.paper.proofs.Lists.{and_left, and_right}
use Rattle.leaf_row.specs.Row.{as_nodes, Sized}
use Rattle.leaf_row.proofs.Rows.{chunks-nodes, leaves-sized}

-- they are whole leaves, at most 8,192
pub record Fits (entries : Bytes) : Type 0 where
  pub whole : length entries ≡ length entries / 68 * 68
  pub few : length entries / 68 ≤ 8192

pub fits : (entries : Bytes) → entries_within entries ≡ true → Fits entries
unfolding entries_within
fits entries e =
    let h = eqb-true (length entries % 68) 0 (and_left _ _ e) in
    record { whole = omega (arith, h); few = leb-true (length entries / 68) 8192 (and_right (eqb (length entries % 68) 0) _ e) }

-- a row is the entries' leaves
module _ (entries : Bytes) (w : Bytewise entries) (e : entries_within entries ≡ true) (row : List Bytes) (h : row ≡ first_chunks 68 (length entries / 68) entries) where
  pub same-leaves : as_nodes row ≡ leaves_of entries
  same-leaves = rw h (chunks-nodes (length entries / 68) entries)

  pub row-sized : Sized (as_nodes row)
  row-sized = rw same-leaves (leaves-sized (length entries / 68) entries (omega (arith, (fits entries e).whole)) w)
