-- `subtrees::write_below`: a leaf's record, an opened node where no leaf is new, and otherwise the records of both parts, one right behind
-- the other. What is left of 256 bits falls.
use native.Mathlib.Omega.{arith}
use mathlib.Core.Path.{◌≡◌, sym, ap, ap₂, ◌∙◌, subst}
use mathlib.Core.List.{List, [], ◌∷◌, ◌++◌}
use Prim.Native.Nat.{ℕ, ◌+◌, ◌-◌, ◌≤◌}
use lib.ListN.{length, take, drop, get_or, length-append}
use lib.Seq.{length-take-le}
use Rattle.paper.specs.Bits.{Bits}
use Rattle.paper.specs.Strings.{Node, nothing, node_string}
use Rattle.paper.specs.Tree.{key, digest, Tree, one, top, build}
use Rattle.paper.specs.Write.{has_new}
use Rattle.paper.specs.Level.{entry_leaf}
use Rattle.paper.proofs.Fits.{digest-wide}
use Rattle.leaf_row.specs.Row.{as_nodes}
use Rattle.leaf_row.proofs.Rows.{nodes-length, node_at, nodes-take, nodes-drop}
use Rattle.tree.specs.Stored.{children}
use Rattle.tree.specs.declared.Children.{Children}
use Rattle.tree.proofs.Leaves.{single}
use Rattle.tree.proofs.Halves.{Halves, halves, left-part, right-part}
use Rattle.tree.proofs.Flat.{slots-size, low-slots, the-slot, high-slots}
use Rattle.tree_path.specs.Measured.{node_bytes}
use Rattle.path_fields.specs.Written.{Wrote}
use Rattle.tree_path.proofs.Ends.{node-long}
use Rattle.subtrees.specs.Listed.{tree_bytes}
use Rattle.subtrees.proofs.News.{tree-new}
use Rattle.subtrees.proofs.Records.{old-bytes, new-bytes, entry-size, wrote-both}
use Rattle.subtrees.proofs.write.+write_below.Goals as goal
use Rattle.subtrees.proofs.write.+write_below.Goals.{After-fork_of-length, After-has_new, After-split_at, Else-not-has_new, Then-leaves-eq1, Then-not-has_new}

-- one leaf
alone : (t : ℕ) (c : Then-leaves-eq1 t) → tree_bytes c.args.epoch (build 256 (as_nodes c.args.leaves.now)) ≡ tree_bytes c.args.epoch (one (entry_leaf (get_or c.args.leaves.now 0 [])))
alone t c =
    let row = c.args.leaves.now in
    let h : length row ≡ 1 = c.if-leaves-eq1.true in
    ap (tree_bytes c.args.epoch) (single (as_nodes row) (nodes-length row ∙ h)) ∙ ap (λ x. tree_bytes c.args.epoch (one x)) (node_at row 0 (omega arith))

pub write_leaf-requires : goal.write_leaf-requires
write_leaf-requires t c =
    let row = c.args.leaves.now in
    omega (arith, c.requires.2, ap length (alone t (goal.at.write_leaf-requires t c).Then-leaves-eq1), entry-size c.args.epoch (get_or row 0 []) (omega (arith, c.told-leaves 0 (omega (arith, c.if-leaves-eq1.true)))))

pub returns-then-leaves-eq1 : goal.returns-then-leaves-eq1
returns-then-leaves-eq1 t c =
    subst (λ x. Wrote c.args.out.now c.args.at x c.write_leaf.new.out c.write_leaf.result) (sym (alone t (goal.at.returns-then-leaves-eq1 t c).Then-leaves-eq1)) c.write_leaf.ensures

pub fork_of-length-requires : goal.fork_of-length-requires
fork_of-length-requires t c = (omega (arith, c.requires.0.some, nodes-length c.args.leaves.now), c.requires.0.sorted.rises)

-- how many bits the leaves share, and how many of them go left
abbrev bits : (t : ℕ) → After-fork_of-length t → ℕ
bits t c = c.fork_of-length.result.length

abbrev left : (t : ℕ) → After-fork_of-length t → ℕ
left t c = c.fork_of-length.result.left

abbrev leaves : (t : ℕ) → After-fork_of-length t → List Node
leaves t c = as_nodes c.args.leaves.now

cut : (t : ℕ) (c : After-fork_of-length t) → Halves c.args.from (leaves t c) (bits t c) (left t c)
cut t c = let p = c.requires.0 in halves c.args.from (leaves t c) (bits t c) (left t c) p.sorted p.deep p.range c.fork_of-length.ensures

slotted : (t : ℕ) (c : After-fork_of-length t) → length c.args.slots.now ≡ length c.args.leaves.now - 1
slotted t c = slots-size c.args.from (leaves t c) (bits t c) (left t c) c.requires.0.sorted (cut t c) c.args.slots.now c.requires.1 ∙ ap (λ i. i - 1) (nodes-length c.args.leaves.now)

-- the tree, its prefix, and its two sides
abbrev whole : (t : ℕ) → After-fork_of-length t → Tree
whole t c = build 256 (leaves t c)

abbrev prefix : (t : ℕ) → After-fork_of-length t → Bits
prefix t c = take (bits t c) (key (get_or (leaves t c) 0 nothing))

abbrev low : (t : ℕ) → After-fork_of-length t → Tree
low t c = build 256 (take (left t c) (leaves t c))

abbrev high : (t : ℕ) → After-fork_of-length t → Tree
high t c = build 256 (drop (left t c) (leaves t c))

pub bounds-slots-left : goal.bounds-slots-left
bounds-slots-left t c =
    let d = (goal.at.bounds-slots-left t c).After-fork_of-length in
    let h = cut t d in omega (arith, h.least, h.less, slotted t d, nodes-length c.args.leaves.now)

-- what the scan of the leaves says of the tree
scanned : (t : ℕ) (c : After-has_new t) → has_new c.args.epoch (whole t (goal.at.After-has_new t c).After-fork_of-length) ≡ c.has_new.result
scanned t c = tree-new c.args.epoch c.args.from (as_nodes c.args.leaves.now) c.requires.0 ∙ sym c.has_new.ensures

-- no leaf is new
unchanged : (t : ℕ) (c : Then-not-has_new t) → let d = (goal.at.Then-not-has_new t c).After-fork_of-length in
    tree_bytes c.args.epoch (whole t d) ≡ 1 ∷ node_bytes (prefix t d) (digest (top (low t d)) ++ digest (top (high t d)))
unchanged t c =
    let d = (goal.at.Then-not-has_new t c).After-fork_of-length in
    old-bytes c.args.epoch (whole t d) _ _ _ (cut t d).tree (scanned t (goal.at.Then-not-has_new t c).After-has_new ∙ c.if-not-has_new.true)

slot : (t : ℕ) (c : After-fork_of-length t) (d : Children) → get_or c.args.slots.now (left t c - 1) d ≡ children (low t c) (high t c)
slot t c d = the-slot c.args.from (leaves t c) (bits t c) (left t c) c.requires.0.sorted (cut t c) c.args.slots.now c.requires.1 d

first : (t : ℕ) (c : After-fork_of-length t) → get_or (leaves t c) 0 nothing ≡ entry_leaf (get_or c.args.leaves.now 0 [])
first t c = node_at c.args.leaves.now 0 (omega (arith, c.requires.0.some, nodes-length c.args.leaves.now))

pub write_node-requires : goal.write_node-requires
write_node-requires t c =
    let d = (goal.at.write_node-requires t c).After-fork_of-length in
    let x = digest (top (low t d)) in
    let y = digest (top (high t d)) in (
      omega (arith, (cut t d).small),
      omega (arith, c.requires.2, ap length (unchanged t (goal.at.write_node-requires t c).Then-not-has_new), node-long (prefix t d) (x ++ y), length-append x y, (digest-wide (node_string (top (low t d)))).size, (digest-wide (node_string (top (high t d)))).size),
    )

pub returns-then-not-has_new : goal.returns-then-not-has_new
returns-then-not-has_new t c =
    let d = (goal.at.returns-then-not-has_new t c).After-fork_of-length in
    let f = λ (x : Node) (s : Children). 1 ∷ node_bytes (take (bits t d) (key x)) (s.left ++ s.right) in
    let q = ap₂ f (sym (first t d)) (slot t d (record { left = []; right = [] })) ∙ sym (unchanged t (goal.at.returns-then-not-has_new t c).Then-not-has_new) in
    subst (λ z. Wrote c.args.out.now c.args.at z c.write_node.new.out c.write_node.result) q c.write_node.ensures

-- a leaf is new
parted : (t : ℕ) (c : Else-not-has_new t) → let d = (goal.at.Else-not-has_new t c).After-fork_of-length in tree_bytes c.args.epoch (whole t d) ≡ tree_bytes c.args.epoch (low t d) ++ tree_bytes c.args.epoch (high t d)
parted t c =
    let d = (goal.at.Else-not-has_new t c).After-fork_of-length in
    new-bytes c.args.epoch (whole t d) _ _ _ (cut t d).tree (scanned t (goal.at.Else-not-has_new t c).After-has_new ∙ c.if-not-has_new.false)

room : (t : ℕ) (c : Else-not-has_new t) → let d = (goal.at.Else-not-has_new t c).After-fork_of-length in c.args.at + length (tree_bytes c.args.epoch (low t d)) + length (tree_bytes c.args.epoch (high t d)) ≤ length c.args.out.now
room t c =
    let d = (goal.at.Else-not-has_new t c).After-fork_of-length in
    let e = c.args.epoch in omega (arith, c.requires.2, ap length (parted t c), length-append (tree_bytes e (low t d)) (tree_bytes e (high t d)))

pub split_at-requires : goal.split_at-requires
split_at-requires t c = let h = cut t (goal.at.split_at-requires t c).After-fork_of-length in omega (arith, h.less, nodes-length c.args.leaves.now)

-- the two parts
low-is : (t : ℕ) (c : After-split_at t) → as_nodes c.split_at.result.0.now ≡ take c.fork_of-length.result.left (as_nodes c.args.leaves.now)
low-is t c = ap as_nodes c.split_at.ensures.front ∙ nodes-take c.fork_of-length.result.left c.args.leaves.now

high-is : (t : ℕ) (c : After-split_at t) → as_nodes c.split_at.result.1.now ≡ drop c.fork_of-length.result.left (as_nodes c.args.leaves.now)
high-is t c = ap as_nodes c.split_at.ensures.back ∙ nodes-drop c.fork_of-length.result.left c.args.leaves.now

reach : (t : ℕ) (c : After-fork_of-length t) → left t c ≤ length c.args.slots.now
reach t c = let h = cut t c in omega (arith, h.least, h.less, slotted t c, nodes-length c.args.leaves.now)

pub slice_bounds-write_below-length : goal.slice_bounds-write_below-length
slice_bounds-write_below-length t c =
    let d = (goal.at.slice_bounds-write_below-length t c).After-fork_of-length in
    sym (length-take-le (left t d - 1) c.args.slots.now (omega (arith, reach t d)))

pub write_below-next-requires : goal.write_below-next-requires
write_below-next-requires t c =
    let d = (goal.at.write_below-next-requires t c).After-fork_of-length in
    let s = (goal.at.write_below-next-requires t c).After-split_at in
    let h = cut t d in (
      omega (arith, c.decreases, h.deeper, h.small),
      rw (low-is t s) (
        left-part c.requires.0.sorted h,
        low-slots c.args.from (leaves t d) (bits t d) (left t d) c.requires.0.sorted h c.args.slots.now c.requires.1,
        omega (arith, room t (goal.at.write_below-next-requires t c).Else-not-has_new),
      ),
    )

pub slice_bounds-write_below-count-2 : goal.slice_bounds-write_below-count-2
slice_bounds-write_below-count-2 t c = reach t (goal.at.slice_bounds-write_below-count-2 t c).After-fork_of-length

pub slice_bounds-write_below-start : goal.slice_bounds-write_below-start
slice_bounds-write_below-start t c = reach t (goal.at.slice_bounds-write_below-start t c).After-fork_of-length

pub write_below-requires : goal.write_below-requires
write_below-requires t c =
    let d = (goal.at.write_below-requires t c).After-fork_of-length in
    let s = (goal.at.write_below-requires t c).After-split_at in
    let h = cut t d in
    let b = c.write_below-next.ensures.behind ∙ ap (λ S. c.args.at + length (tree_bytes c.args.epoch (build 256 S))) (low-is t s) in (
      omega (arith, c.decreases, h.deeper, h.small),
      rw (high-is t s) (
        right-part c.requires.0.sorted h,
        high-slots c.args.from (leaves t d) (bits t d) (left t d) c.requires.0.sorted h c.args.slots.now c.requires.1,
        omega (arith, room t (goal.at.write_below-requires t c).Else-not-has_new, b, c.write_below-next.auto.out),
      ),
    )

pub returns : goal.returns
returns t c =
    let d = (goal.at.returns t c).After-fork_of-length in
    let s = (goal.at.returns t c).After-split_at in
    let e = c.args.epoch in
    let x = subst (λ S. Wrote c.args.out.now c.args.at (tree_bytes e (build 256 S)) c.write_below-next.new.out c.write_below-next.result) (low-is t s) c.write_below-next.ensures in
    let y = subst (λ S. Wrote c.write_below-next.new.out c.write_below-next.result (tree_bytes e (build 256 S)) c.write_below.new.out c.write_below.result) (high-is t s) c.write_below.ensures in
    wrote-both c.args.out.now _ _ _ _ _ c.args.at _ _ (omega (arith, room t (goal.at.returns t c).Else-not-has_new)) x y (parted t (goal.at.returns t c).Else-not-has_new)
