-- `level::entry::tree_path`: the input's tests, and the rest over a copy of the entries.
use native.Mathlib.Omega.{arith}
use mathlib.Core.Path.{◌≡◌, sym, ap, ap₂, ◌∙◌}
use mathlib.Core.Bool.{true, ◌&&◌, and-false}
use mathlib.Core.List.{List}
use Prim.Native.Nat.{◌/◌}
use lib.Dec.{eqb}
use lib.ListN.{length, take}
use lib.Seq.{length-take-le}
use borrow.Author.Tests.{eq-eqb, ne_eqb}
use Rattle.std.specs.Simd.{first_chunks}
use Rattle.paper.specs.Bytes.{Bytes, Bytewise}
use Rattle.paper.specs.Bits.{bits_of}
use Rattle.paper.specs.Strings.{Node}
use Rattle.paper.specs.Level.{leaves_of, entries_within, tree_path}
use Rattle.ranges.proofs.Slices.{bytewise}
use Rattle.leaf_row.specs.Row.{as_nodes}
use Rattle.level.specs.Rooted.{path_over}
use Rattle.level.proofs.Tests.{out-of-bounds, in_bounds}
use Rattle.level.proofs.Row.{fits, same-leaves}
use Rattle.level.proofs.entry.tree_path.Goals as goal
use Rattle.level.proofs.entry.tree_path.Goals.{Else-not-entries_within, After-as_chunks, After-row-row, After-copy_from_slice}

within : (c : Else-not-entries_within) → entries_within c.args.entries.now ≡ true
within c = sym c.entries_within.ensures ∙ c.if-not-entries_within.false

count : (c : After-row-row) → length (take (length c.as_chunks.result.0.now) c.row-row.result) ≡ length c.as_chunks.result.0.now
count c =
    length-take-le _ c.row-row.result (omega (arith, c.row-row.ensures, c.as_chunks.ensures.front_len, (fits _ (within (goal.at.After-row-row c).Else-not-entries_within)).few))

pub slice_bounds-row-end : goal.slice_bounds-row-end
slice_bounds-row-end c = omega (arith, c.row-row.ensures, c.as_chunks.ensures.front_len, (fits _ (within (goal.at.slice_bounds-row-end c).Else-not-entries_within)).few)

pub slice_bounds-leaves-end : goal.slice_bounds-leaves-end
slice_bounds-leaves-end c = sym (count (goal.at.slice_bounds-leaves-end c).After-row-row)

pub copy_from_slice-requires : goal.copy_from_slice-requires
copy_from_slice-requires c = count (goal.at.copy_from_slice-requires c).After-row-row

-- the row is the entries' leaves
row-is : (c : After-copy_from_slice) → c.copy_from_slice.new.self ≡ first_chunks 68 (length c.args.entries.now / 68) c.args.entries.now
row-is c = c.copy_from_slice.ensures.after ∙ c.as_chunks.ensures.front

bytes : (c : After-copy_from_slice) → Bytewise c.args.entries.now
bytes c = bytewise c.args.entries.now c.type_inv.entries

leaves-are : (c : After-copy_from_slice) → as_nodes c.copy_from_slice.new.self ≡ leaves_of c.args.entries.now
leaves-are c = same-leaves c.args.entries.now (bytes c) (within (goal.at.After-copy_from_slice c).Else-not-entries_within) _ (row-is c)

pub returns-then-not-entries_within : goal.returns-then-not-entries_within
unfolding tree_path
returns-then-not-entries_within c =
    let a = c.args in
    let e = sym c.entries_within.ensures ∙ c.if-not-entries_within.true in
    sym (out-of-bounds a.out.now _ (entries_within a.entries.now && eqb (length a.label.now) 32) _ (rw e))

pub returns-in_default : goal.returns-in_default
unfolding tree_path
returns-in_default c =
    let a = c.args in
    sym (out-of-bounds a.out.now _ (entries_within a.entries.now && eqb (length a.label.now) 32) _ (rw (ne_eqb (length a.label.now) 32 c.in_default.ensures.cases) (and-false (entries_within a.entries.now))))

pub path_over-requires : goal.path_over-requires
path_over-requires c =
    let w = within (goal.at.path_over-requires c).Else-not-entries_within in
    omega (arith, ap length c.copy_from_slice.ensures.after, c.as_chunks.ensures.front_len, (fits _ w).few)

pub returns : goal.returns
unfolding tree_path path_over
returns c =
    let a = c.args in
    let found = c.in-Some.ensures.cases in
    let rest = λ (S : List Node) (l : Bytes). path_over S (bits_of l) a.absent a.out.now in
    c.path_over.ensures ∙ ap₂ rest (leaves-are (goal.at.returns c).After-copy_from_slice) found.same
    ∙ sym (in_bounds a.out.now _ (entries_within a.entries.now && eqb (length a.label.now) 32) _ (rw (within (goal.at.returns c).Else-not-entries_within, eq-eqb (length a.label.now) 32 found.long)))
