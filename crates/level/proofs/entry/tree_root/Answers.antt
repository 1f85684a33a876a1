-- `level::entry::tree_root`: the tests in their order, over a copy of the entries.
use native.Mathlib.Omega.{arith}
use mathlib.Core.Path.{◌≡◌, sym, ap, ap₂, ◌∙◌}
use mathlib.Core.Bool.{true}
use Prim.Native.Nat.{◌/◌}
use lib.ListN.{length, take}
use lib.Seq.{length-take-le}
use Rattle.std.specs.Simd.{first_chunks}
use Rattle.std.proofs.Common.{Ok}
use Rattle.paper.specs.Bytes.{Bytewise, pasted}
use Rattle.paper.specs.Strings.{node_string}
use Rattle.paper.specs.Tree.{top, root, root_digest}
use Rattle.paper.specs.Table.{distinct}
use Rattle.paper.specs.Level.{leaves_of, entries_within, tree_root}
use Rattle.paper.proofs.Fits.{digest-wide}
use Rattle.ranges.proofs.Slices.{bytewise}
use Rattle.leaf_row.specs.Row.{as_nodes}
use Rattle.level.proofs.Tests.{out-of-bounds, clash, no_room, written}
use Rattle.level.proofs.Row.{fits, same-leaves}
use Rattle.level.proofs.entry.tree_root.Goals as goal
use Rattle.level.proofs.entry.tree_root.Goals.{Else-not-entries_within, After-as_chunks, After-row-row, After-copy_from_slice, In-Some}

within : (c : Else-not-entries_within) → entries_within c.args.entries.now ≡ true
within c = sym c.entries_within.ensures ∙ c.if-not-entries_within.false

count : (c : After-row-row) → length (take (length c.as_chunks.result.0.now) c.row-row.result) ≡ length c.as_chunks.result.0.now
count c =
    length-take-le _ c.row-row.result (omega (arith, c.row-row.ensures, c.as_chunks.ensures.front_len, (fits _ (within (goal.at.After-row-row c).Else-not-entries_within)).few))

pub slice_bounds-row-end : goal.slice_bounds-row-end
slice_bounds-row-end c = omega (arith, c.row-row.ensures, c.as_chunks.ensures.front_len, (fits _ (within (goal.at.slice_bounds-row-end c).Else-not-entries_within)).few)

pub slice_bounds-leaves-end : goal.slice_bounds-leaves-end
slice_bounds-leaves-end c = sym (count (goal.at.slice_bounds-leaves-end c).After-row-row)

pub copy_from_slice-requires : goal.copy_from_slice-requires
copy_from_slice-requires c = count (goal.at.copy_from_slice-requires c).After-row-row

-- the row is the entries' leaves
row-is : (c : After-copy_from_slice) → c.copy_from_slice.new.self ≡ first_chunks 68 (length c.args.entries.now / 68) c.args.entries.now
row-is c = c.copy_from_slice.ensures.after ∙ c.as_chunks.ensures.front

bytes : (c : After-copy_from_slice) → Bytewise c.args.entries.now
bytes c = bytewise c.args.entries.now c.type_inv.entries

leaves-are : (c : After-copy_from_slice) → as_nodes c.copy_from_slice.new.self ≡ leaves_of c.args.entries.now
leaves-are c = same-leaves c.args.entries.now (bytes c) (within (goal.at.After-copy_from_slice c).Else-not-entries_within) _ (row-is c)

pub returns-then-not-entries_within : goal.returns-then-not-entries_within
unfolding tree_root
returns-then-not-entries_within c =
    sym (out-of-bounds c.args.out.now _ (entries_within c.args.entries.now) _ (sym c.entries_within.ensures ∙ c.if-not-entries_within.true))

pub root_of-requires : goal.root_of-requires
root_of-requires c =
    let w = within (goal.at.root_of-requires c).Else-not-entries_within in
    omega (arith, ap length c.copy_from_slice.ensures.after, c.as_chunks.ensures.front_len, (fits _ w).few)

distinctly : (c : In-Some) → distinct (leaves_of c.args.entries.now) ≡ true
distinctly c = ap distinct (sym (leaves-are (goal.at.In-Some c).After-copy_from_slice)) ∙ c.in-Some.ensures.0

digest : (c : In-Some) → c.in-Some.root ≡ root_digest (leaves_of c.args.entries.now)
digest c = c.in-Some.ensures.1 ∙ ap root_digest (leaves-are (goal.at.In-Some c).After-copy_from_slice)

pub returns-in_default : goal.returns-in_default
unfolding tree_root
returns-in_default c =
    sym (clash c.args.out.now _ _ _ (within (goal.at.returns-in_default c).Else-not-entries_within) (ap distinct (sym (leaves-are (goal.at.returns-in_default c).After-copy_from_slice)) ∙ c.in_default.ensures))

pub returns-then-out-lt32 : goal.returns-then-out-lt32
unfolding tree_root
returns-then-out-lt32 c =
    let size = (digest-wide (node_string (top (root (leaves_of c.args.entries.now))))).size in
    sym (no_room c.args.out.now _ _ _ (within (goal.at.returns-then-out-lt32 c).Else-not-entries_within) (distinctly (goal.at.returns-then-out-lt32 c).In-Some) (omega (arith, size, c.if-out-lt32.true)))

pub put-requires : goal.put-requires
put-requires c = let h = c.if-out-lt32.false in omega (arith, h, ap length (digest (goal.at.put-requires c).In-Some), (digest-wide (node_string (top (root (leaves_of c.args.entries.now))))).size)

pub returns : goal.returns
unfolding tree_root
returns c =
    let a = c.args in
    let size = (digest-wide (node_string (top (root (leaves_of a.entries.now))))).size in
    let h = c.if-out-lt32.false in
    let out = c.put.ensures ∙ ap (pasted a.out.now 0) (digest (goal.at.returns c).In-Some) in
    sym (written a.out.now (root_digest (leaves_of a.entries.now)) _ _ (within (goal.at.returns c).Else-not-entries_within) (distinctly (goal.at.returns c).In-Some) (omega (arith, size, h)) ∙ ap₂ (λ n o. record { answer = Ok n; out = o }) size (sym out))
