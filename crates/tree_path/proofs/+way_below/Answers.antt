-- `tree_path::way_below`: the label leaves the tree at a fork whose prefix it has not, and goes down on its side otherwise. What is left
-- of 256 bits falls.
use native.Mathlib.Omega.{arith}
use mathlib.Core.Path.{◌≡◌, sym, ap, ◌∙◌}
use mathlib.Core.List.{List}
use Prim.Native.Nat.{ℕ}
use lib.ListN.{length, take, get_or}
use Rattle.paper.specs.Bits.{starts, bits_of}
use Rattle.paper.specs.Strings.{Node, nothing}
use Rattle.paper.specs.Tree.{key, one, build}
use Rattle.paper.proofs.Bytes.{bits_of-length}
use Rattle.leaf_row.specs.Row.{as_nodes}
use Rattle.leaf_row.proofs.Rows.{nodes-length, node_at, nodes-take, nodes-drop}
use Rattle.tree.proofs.Leaves.{single}
use Rattle.tree.proofs.Halves.{Halves, halves, taken, build-taken, taken-part}
use Rattle.tree_path.specs.Measured.{way_of}
use Rattle.tree_path.proofs.Ways.{off-way, turn-way, fork-prefix, steps-few}
use Rattle.tree_path.proofs.+way_below.Goals as goal
use Rattle.tree_path.proofs.+way_below.Goals.{After-fork_of-length, After-has_prefix, Joined-label_bit, then-label_bit, else-label_bit}

pub returns-then-leaves-eq1 : goal.returns-then-leaves-eq1
returns-then-leaves-eq1 t c =
    let row = c.args.leaves.now in
    let alone : length row ≡ 1 = c.if-leaves-eq1.true in
    c.leaf_way.ensures ∙ ap (way_of (bits_of c.args.label.now)) (ap one (sym (node_at row 0 (omega arith))) ∙ sym (single (as_nodes row) (nodes-length row ∙ alone)))

pub fork_of-length-requires : goal.fork_of-length-requires
fork_of-length-requires t c = (omega (arith, c.requires.some, nodes-length c.args.leaves.now), c.requires.sorted.rises)

abbrev leaves : (t : ℕ) → After-fork_of-length t → List Node
leaves t c = as_nodes c.args.leaves.now

cut : (t : ℕ) (c : After-fork_of-length t) → Halves c.args.from (leaves t c) c.fork_of-length.result.length c.fork_of-length.result.left
cut t c =
    let h = c.requires in
    halves c.args.from (leaves t c) c.fork_of-length.result.length c.fork_of-length.result.left h.sorted h.deep h.range c.fork_of-length.ensures

size : (t : ℕ) (c : After-fork_of-length t) → length (take c.fork_of-length.result.length (key (get_or (leaves t c) 0 nothing))) ≡ c.fork_of-length.result.length
size t c = fork-prefix (leaves t c) c.fork_of-length.result.length c.requires.sorted c.requires.some (omega (arith, (cut t c).small))

-- whether the label has the prefix
begins : (t : ℕ) (c : After-has_prefix t) → c.has_prefix.result ≡ starts (take c.fork_of-length.result.length (key (get_or (as_nodes c.args.leaves.now) 0 nothing))) (bits_of c.args.label.now)
begins t c =
    let row = c.args.leaves.now in
    c.has_prefix.ensures ∙ ap (λ x. starts (take c.fork_of-length.result.length (key x)) (bits_of c.args.label.now)) (sym (node_at row 0 (omega (arith, c.requires.some, nodes-length row))))

pub returns-then-not-has_prefix : goal.returns-then-not-has_prefix
returns-then-not-has_prefix t c =
    c.ended.ensures
    ∙ sym (off-way (bits_of c.args.label.now) _ _ _ _ (cut t (goal.at.returns-then-not-has_prefix t c).After-fork_of-length).tree (sym (begins t (goal.at.returns-then-not-has_prefix t c).After-has_prefix) ∙ c.if-not-has_prefix.true))

side-is : (t : ℕ) (c : Joined-label_bit t) → as_nodes c.if-label_bit.taken.now ≡ taken c.label_bit.result c.fork_of-length.result.left (as_nodes c.args.leaves.now)
side-is t c = elim c.if-label_bit.branch [
  | then-label_bit w ↦ ap (λ r. as_nodes r.now) w.taken-is ∙ ap as_nodes c.split_at.ensures.back ∙ nodes-drop c.fork_of-length.result.left c.args.leaves.now ∙ ap (λ b. taken b c.fork_of-length.result.left (as_nodes c.args.leaves.now)) (sym w.if-label_bit.true)
  | else-label_bit w ↦ ap (λ r. as_nodes r.now) w.taken-is ∙ ap as_nodes c.split_at.ensures.front ∙ nodes-take c.fork_of-length.result.left c.args.leaves.now ∙ ap (λ b. taken b c.fork_of-length.result.left (as_nodes c.args.leaves.now)) (sym w.if-label_bit.false)
]

pub way_below-requires : goal.way_below-requires
way_below-requires t c =
    let h = cut t (goal.at.way_below-requires t c).After-fork_of-length in
    (omega (arith, c.decreases, h.deeper, h.small), rw (side-is t (goal.at.way_below-requires t c).Joined-label_bit) (taken-part c.requires.sorted h c.label_bit.result))

pub stepped-requires : goal.stepped-requires
stepped-requires t c =
    let d = (goal.at.stepped-requires t c).After-fork_of-length in
    let L = bits_of c.args.label.now in
    let w = taken-part c.requires.sorted (cut t d) c.label_bit.result in
    let e = c.way_below.ensures ∙ ap (λ S. way_of L (build 256 S)) (side-is t (goal.at.stepped-requires t c).Joined-label_bit) in
    omega (arith, ap (λ v. v.steps) e, steps-few _ _ L w.sorted w.range w.deep (omega (arith, bits_of-length c.args.label.now, c.told-label)))

pub returns : goal.returns
returns t c =
    let d = (goal.at.returns t c).After-fork_of-length in
    let b = c.label_bit.result in
    let L = bits_of c.args.label.now in
    let e = c.way_below.ensures ∙ ap (λ S. way_of L (build 256 S)) (side-is t (goal.at.returns t c).Joined-label_bit) ∙ ap (way_of L) (build-taken b c.fork_of-length.result.left (leaves t d)) in
    c.stepped.ensures ∙ turn-way L _ _ _ _ (cut t d).tree c.fork_of-length.result.length (size t d) (sym (begins t (goal.at.returns t c).After-has_prefix) ∙ c.if-not-has_prefix.false) b (sym c.label_bit.ensures) c.way_below.result e
