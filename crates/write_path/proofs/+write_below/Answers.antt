-- `write_path::write_below`: at a leaf and at a fork whose prefix the label has not, the end; otherwise a step with the digest of the other
-- side, and the way on the label's side behind it. What is left of 256 bits falls.
use native.Mathlib.Omega.{arith}
use mathlib.Core.Path.{◌≡◌, refl, sym, ap, ap₂, ◌∙◌, subst}
use mathlib.Core.Bool.{Bool, true, false, cond}
use mathlib.Core.List.{List, [], ◌∷◌, ◌++◌}
use Prim.Native.Nat.{ℕ, ◌-◌}
use lib.ListN.{length, take, drop, get_or, length-append}
use lib.Seq.{length-take-le}
use Rattle.paper.specs.Bits.{Bits, starts, bits_of}
use Rattle.paper.specs.Strings.{Node, nothing, node_string}
use Rattle.paper.specs.Tree.{key, digest, Tree, top, build}
use Rattle.paper.specs.Path.{end_at}
use Rattle.paper.specs.Fields.{step_field}
use Rattle.paper.specs.Level.{entry_leaf}
use Rattle.paper.proofs.Fits.{digest-wide}
use Rattle.leaf_row.specs.Row.{as_nodes}
use Rattle.leaf_row.proofs.Rows.{nodes-length, node_at, nodes-take, nodes-drop}
use Rattle.tree.specs.Stored.{children, flat}
use Rattle.tree.specs.declared.Children.{Children}
use Rattle.tree.proofs.Leaves.{single}
use Rattle.tree.proofs.Halves.{Halves, halves, taken, build-taken, taken-part}
use Rattle.tree.proofs.Flat.{slots-size, the-slot, inside-taken}
use Rattle.tree_path.specs.Measured.{node_bytes, end_bytes, way_bytes}
use Rattle.path_fields.specs.Written.{Wrote}
use Rattle.tree_path.proofs.Ways.{one-bytes, off-bytes, turn-bytes, fork-prefix}
use Rattle.tree_path.proofs.Ends as E
use Rattle.write_path.proofs.Laid.{step_room, way-room, way-wrote}
use Rattle.write_path.proofs.+write_below.Goals as goal
use Rattle.write_path.proofs.+write_below.Goals.{Then-leaves-eq1, After-fork_of-length, After-has_prefix, Then-not-has_prefix, After-label_bit-right, After-write_step-next, Joined-right-2, then-right, else-right, then-right-2, else-right-2}

-- a single leaf
alone : (t : ℕ) (c : Then-leaves-eq1 t) → way_bytes (bits_of c.args.label.now) (build 256 (as_nodes c.args.leaves.now)) ≡ end_bytes (end_at (bits_of c.args.label.now) (entry_leaf (get_or c.args.leaves.now 0 [])))
alone t c =
    let row = c.args.leaves.now in
    let L = bits_of c.args.label.now in
    let h : length row ≡ 1 = c.if-leaves-eq1.true in
    ap (way_bytes L) (single (as_nodes row) (nodes-length row ∙ h)) ∙ one-bytes L _ ∙ ap (λ x. end_bytes (end_at L x)) (node_at row 0 (omega arith))

pub write_leaf-requires : goal.write_leaf-requires
write_leaf-requires t c = omega (arith, c.requires.2, ap length (alone t (goal.at.write_leaf-requires t c).Then-leaves-eq1))

pub returns-then-leaves-eq1 : goal.returns-then-leaves-eq1
returns-then-leaves-eq1 t c =
    subst (λ x. Wrote c.args.out.now c.args.at x c.write_leaf.new.out c.write_leaf.result) (sym (alone t (goal.at.returns-then-leaves-eq1 t c).Then-leaves-eq1)) c.write_leaf.ensures

pub fork_of-length-requires : goal.fork_of-length-requires
fork_of-length-requires t c = (omega (arith, c.requires.0.some, nodes-length c.args.leaves.now), c.requires.0.sorted.rises)

-- how many bits the leaves share, and how many of them go left
abbrev bits : (t : ℕ) → After-fork_of-length t → ℕ
bits t c = c.fork_of-length.result.length

abbrev left : (t : ℕ) → After-fork_of-length t → ℕ
left t c = c.fork_of-length.result.left

abbrev leaves : (t : ℕ) → After-fork_of-length t → List Node
leaves t c = as_nodes c.args.leaves.now

cut : (t : ℕ) (c : After-fork_of-length t) → Halves c.args.from (leaves t c) (bits t c) (left t c)
cut t c =
    let h = c.requires.0 in
    halves c.args.from (leaves t c) (bits t c) (left t c) h.sorted h.deep h.range c.fork_of-length.ensures

slotted : (t : ℕ) (c : After-fork_of-length t) → length c.args.slots.now ≡ length (leaves t c) - 1
slotted t c = slots-size c.args.from (leaves t c) (bits t c) (left t c) c.requires.0.sorted (cut t c) c.args.slots.now c.requires.1

-- the label, the tree, the prefix, and the two sides
abbrev label : (t : ℕ) → After-fork_of-length t → Bits
label t c = bits_of c.args.label.now

abbrev whole : (t : ℕ) → After-fork_of-length t → Tree
whole t c = build 256 (leaves t c)

abbrev prefix : (t : ℕ) → After-fork_of-length t → Bits
prefix t c = take (bits t c) (key (get_or (leaves t c) 0 nothing))

abbrev low : (t : ℕ) → After-fork_of-length t → Tree
low t c = build 256 (take (left t c) (leaves t c))

abbrev high : (t : ℕ) → After-fork_of-length t → Tree
high t c = build 256 (drop (left t c) (leaves t c))

size : (t : ℕ) (c : After-fork_of-length t) → length (prefix t c) ≡ bits t c
size t c = fork-prefix (leaves t c) (bits t c) c.requires.0.sorted c.requires.0.some (omega (arith, (cut t c).small))

first : (t : ℕ) (c : After-fork_of-length t) → get_or (leaves t c) 0 nothing ≡ entry_leaf (get_or c.args.leaves.now 0 [])
first t c = node_at c.args.leaves.now 0 (omega (arith, c.requires.0.some, nodes-length c.args.leaves.now))

pub bounds-slots-left : goal.bounds-slots-left
bounds-slots-left t c = let h = cut t c in omega (arith, h.least, h.less, slotted t c)

-- the slot
slot : (t : ℕ) (c : After-fork_of-length t) (d : Children) → get_or c.args.slots.now (left t c - 1) d ≡ children (low t c) (high t c)
slot t c d = the-slot c.args.from (leaves t c) (bits t c) (left t c) c.requires.0.sorted (cut t c) c.args.slots.now c.requires.1 d

begins : (t : ℕ) (c : After-has_prefix t) → c.has_prefix.result ≡ starts (prefix t (goal.at.After-has_prefix t c).After-fork_of-length) (bits_of c.args.label.now)
begins t c =
    let d = (goal.at.After-has_prefix t c).After-fork_of-length in
    c.has_prefix.ensures ∙ ap (λ x. starts (take (bits t d) (key x)) (bits_of c.args.label.now)) (sym (first t d))

-- the label has not the prefix
off-way : (t : ℕ) (c : Then-not-has_prefix t) → let d = (goal.at.Then-not-has_prefix t c).After-fork_of-length in
    way_bytes (label t d) (whole t d) ≡ 2 ∷ node_bytes (prefix t d) (digest (top (low t d)) ++ digest (top (high t d)))
off-way t c =
    let d = (goal.at.Then-not-has_prefix t c).After-fork_of-length in
    off-bytes (label t d) _ _ _ _ (cut t d).tree (sym (begins t (goal.at.Then-not-has_prefix t c).After-has_prefix) ∙ c.if-not-has_prefix.true) ∙ E.off-bytes (prefix t d) _ _

pub write_node-requires : goal.write_node-requires
write_node-requires t c =
    let d = (goal.at.write_node-requires t c).After-fork_of-length in
    let x = digest (top (low t d)) in
    let y = digest (top (high t d)) in
    let wide : (u : Tree) → length (digest (top u)) ≡ 32 = λ u. (digest-wide (node_string (top u))).size in (
      omega (arith, (cut t d).small),
      omega (arith, c.requires.2, ap length (off-way t (goal.at.write_node-requires t c).Then-not-has_prefix), E.node-long (prefix t d) (x ++ y), length-append x y, wide (low t d), wide (high t d)),
    )

pub returns-then-not-has_prefix : goal.returns-then-not-has_prefix
returns-then-not-has_prefix t c =
    let d = (goal.at.returns-then-not-has_prefix t c).After-fork_of-length in
    let f = λ (k : ℕ) (x : Node) (s : Children). k ∷ node_bytes (take (bits t d) (key x)) (s.left ++ s.right) in
    let q = ap (λ k. f k (entry_leaf (get_or c.args.leaves.now 0 [])) (get_or c.args.slots.now (left t d - 1) (record { left = []; right = [] }))) c.number.ensures
    ∙ ap₂ (f 2) (sym (first t d)) (slot t d (record { left = []; right = [] })) ∙ sym (off-way t (goal.at.returns-then-not-has_prefix t c).Then-not-has_prefix) in
    subst (λ z. Wrote c.args.out.now c.args.at z c.write_node.new.out c.write_node.result) q c.write_node.ensures

-- it has the prefix, and goes down on the side of its bit
turned : (t : ℕ) (c : After-label_bit-right t) → let d = (goal.at.After-label_bit-right t c).After-fork_of-length in let b = c.label_bit-right.result in
    way_bytes (label t d) (whole t d) ≡ step_field.bytes (record { length = bits t d; sibling = digest (top (cond b (low t d) (high t d))) }) ++ way_bytes (label t d) (cond b (high t d) (low t d))
turned t c =
    let d = (goal.at.After-label_bit-right t c).After-fork_of-length in
    turn-bytes (label t d) _ _ _ _ (cut t d).tree (bits t d) (size t d) (sym (begins t (goal.at.After-label_bit-right t c).After-has_prefix) ∙ c.if-not-has_prefix.false) c.label_bit-right.result (sym c.label_bit-right.ensures)

pub write_step-next-requires : goal.write_step-next-requires
write_step-next-requires t c =
    let d = (goal.at.write_step-next-requires t c).After-fork_of-length in
    let b = c.label_bit-right.result in
    (omega (arith, c.requires.2, step_room (label t d) (whole t d) (cond b (high t d) (low t d)) (bits t d) (digest (top (cond b (low t d) (high t d)))) (turned t (goal.at.write_step-next-requires t c).After-label_bit-right) (digest-wide (node_string (top (cond b (low t d) (high t d))))).size), omega (arith, (cut t d).small))

sibling : (b : Bool) (l r : Tree) → cond b (digest (top l)) (digest (top r)) ≡ digest (top (cond b l r))
sibling true l r = refl
sibling false l r = refl

-- the step, as it was written
step : (t : ℕ) (c : After-write_step-next t) → let d = (goal.at.After-write_step-next t c).After-fork_of-length in
    Wrote c.args.out.now c.args.at (step_field.bytes (record { length = bits t d; sibling = digest (top (cond c.label_bit-right.result (low t d) (high t d))) })) c.write_step-next.new.out c.write_step-next.result
step t c =
    let d = (goal.at.After-write_step-next t c).After-fork_of-length in
    let b = c.label_bit-right.result in
    let e = c.sibling.ensures.value ∙ ap (λ (s : Children). cond b s.left s.right) (slot t d (record { left = []; right = [] })) ∙ sibling b (low t d) (high t d) in
    subst (λ y. Wrote c.args.out.now c.args.at (step_field.bytes (record { length = bits t d; sibling = y })) c.write_step-next.new.out c.write_step-next.result) e c.write_step-next.ensures

pub split_at-requires : goal.split_at-requires
split_at-requires t c = omega (arith, (cut t (goal.at.split_at-requires t c).After-fork_of-length).less, nodes-length c.args.leaves.now)

pub slice_bounds-low_slots-length : goal.slice_bounds-low_slots-length
slice_bounds-low_slots-length t c =
    let d = (goal.at.slice_bounds-low_slots-length t c).After-fork_of-length in
    sym (length-take-le _ _ (omega (arith, (cut t d).less, slotted t d)))

pub slice_bounds-high_slots-count : goal.slice_bounds-high_slots-count
slice_bounds-high_slots-count t c = let d = (goal.at.slice_bounds-high_slots-count t c).After-fork_of-length in omega (arith, (cut t d).less, slotted t d)

pub slice_bounds-high_slots-start : goal.slice_bounds-high_slots-start
slice_bounds-high_slots-start t c = let d = (goal.at.slice_bounds-high_slots-start t c).After-fork_of-length in omega (arith, (cut t d).less, slotted t d)

side-is : (t : ℕ) (c : Joined-right-2 t) → let d = (goal.at.Joined-right-2 t c).After-fork_of-length in as_nodes c.if-right.taken.now ≡ taken c.label_bit-right.result (left t d) (leaves t d)
side-is t c =
    let d = (goal.at.Joined-right-2 t c).After-fork_of-length in
    let at = λ (b : Bool). taken b (left t d) (leaves t d) in
    elim c.if-right.branch [
      | then-right w ↦ ap (λ r. as_nodes r.now) w.taken-is ∙ ap as_nodes c.split_at.ensures.back ∙ nodes-drop (left t d) c.args.leaves.now ∙ ap at (sym w.if-right.true)
      | else-right w ↦ ap (λ r. as_nodes r.now) w.taken-is ∙ ap as_nodes c.split_at.ensures.front ∙ nodes-take (left t d) c.args.leaves.now ∙ ap at (sym w.if-right.false)
    ]

inside-is : (t : ℕ) (c : Joined-right-2 t) → let d = (goal.at.Joined-right-2 t c).After-fork_of-length in let s = c.args.slots.now in
    c.if-right-2.inside.now ≡ cond c.label_bit-right.result (take (length s - left t d) (drop (left t d) s)) (take (left t d - 1) s)
inside-is t c =
    let d = (goal.at.Joined-right-2 t c).After-fork_of-length in
    let s = c.args.slots.now in
    let at = λ (b : Bool). cond b (take (length s - left t d) (drop (left t d) s)) (take (left t d - 1) s) in
    elim c.if-right-2.branch [
      | then-right-2 w ↦ ap (λ r. r.now) w.inside-is ∙ ap at (sym w.if-right-2.true)
      | else-right-2 w ↦ ap (λ r. r.now) w.inside-is ∙ ap at (sym w.if-right-2.false)
    ]

pub write_below-requires : goal.write_below-requires
write_below-requires t c =
    let d = (goal.at.write_below-requires t c).After-fork_of-length in
    let j = (goal.at.write_below-requires t c).Joined-right-2 in
    let b = c.label_bit-right.result in
    let h = cut t d in
    let e : build 256 (as_nodes c.if-right.taken.now) ≡ cond b (high t d) (low t d) = ap (build 256) (side-is t j) ∙ build-taken b (left t d) (leaves t d) in (
      omega (arith, c.decreases, h.deeper, h.small),
      (
        rw (side-is t j) (taken-part c.requires.0.sorted h b),
        inside-is t j ∙ inside-taken c.args.from (leaves t d) (bits t d) (left t d) c.requires.0.sorted h c.args.slots.now c.requires.1 b ∙ ap (λ S. flat (build 256 S)) (sym (side-is t j)),
        rw e (omega (arith, c.write_step-next.auto.out, way-room (label t d) (whole t d) (cond b (high t d) (low t d)) (bits t d) _ (turned t (goal.at.write_below-requires t c).After-label_bit-right) c.args.out.now _ c.args.at _ c.requires.2 (step t (goal.at.write_below-requires t c).After-write_step-next))),
      ),
    )

pub returns : goal.returns
returns t c =
    let d = (goal.at.returns t c).After-fork_of-length in
    let b = c.label_bit-right.result in
    let e : build 256 (as_nodes c.if-right.taken.now) ≡ cond b (high t d) (low t d) = ap (build 256) (side-is t (goal.at.returns t c).Joined-right-2) ∙ build-taken b (left t d) (leaves t d) in
    way-wrote (label t d) (whole t d) (cond b (high t d) (low t d)) (bits t d) _ (turned t (goal.at.returns t c).After-label_bit-right) c.args.out.now _ c.args.at _ c.requires.2 (step t (goal.at.returns t c).After-write_step-next) _ _
    (subst (λ u. Wrote c.write_step-next.new.out c.write_step-next.result (way_bytes (label t d) u) c.write_below.new.out c.write_below.result) e c.write_below.ensures)
