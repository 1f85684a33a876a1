-- `subtrees::count_below`: one record where no leaf is new, and otherwise those of both parts. What is left of 256 bits falls.
use native.Mathlib.Omega.{arith}
use mathlib.Core.Path.{◌≡◌, sym, ap, ap₂, ◌∙◌}
use Prim.Native.Nat.{ℕ, ◌+◌}
use mathlib.Core.List.{List}
use lib.ListN.{length, take, drop, length-append}
use Rattle.paper.specs.Strings.{Node}
use Rattle.paper.specs.Tree.{Tree, build}
use Rattle.paper.specs.Write.{has_new, subtrees}
use Rattle.leaf_row.specs.Row.{as_nodes}
use Rattle.leaf_row.proofs.Rows.{nodes-length, nodes-take, nodes-drop}
use Rattle.tree.proofs.Halves.{Halves, halves, left-part, right-part}
use Rattle.subtrees.proofs.News.{tree-new, one-length, old-fork, new-fork, trees-few}
use Rattle.subtrees.proofs.count.+count_below.Goals as goal
use Rattle.subtrees.proofs.count.+count_below.Goals.{After-count_below-2, After-fork_of-length, After-has_new, After-split_at}

abbrev leaves : (t : ℕ) → After-fork_of-length t → List Node
leaves t c = as_nodes c.args.leaves.now

abbrev whole : (t : ℕ) → After-fork_of-length t → Tree
whole t c = build 256 (leaves t c)

-- where the leaves part
cut : (t : ℕ) (c : After-fork_of-length t) → Halves c.args.from (leaves t c) c.fork_of-length.result.length c.fork_of-length.result.left
cut t c = let p = c.requires in halves c.args.from (leaves t c) _ _ p.sorted p.deep p.range c.fork_of-length.ensures

-- what the scan of the leaves says of the tree
scanned : (t : ℕ) (c : After-has_new t) → has_new c.args.epoch (whole t (goal.at.After-has_new t c).After-fork_of-length) ≡ c.has_new.result
scanned t c = tree-new c.args.epoch c.args.from (as_nodes c.args.leaves.now) c.requires ∙ sym c.has_new.ensures

pub returns-then-leaves-eq1 : goal.returns-then-leaves-eq1
returns-then-leaves-eq1 t c = let S = as_nodes c.args.leaves.now in sym (one-length c.args.epoch S c.requires.sorted.sized (nodes-length c.args.leaves.now ∙ c.if-leaves-eq1.true))

pub fork_of-length-requires : goal.fork_of-length-requires
fork_of-length-requires t c = (omega (arith, c.requires.some, nodes-length c.args.leaves.now), c.requires.sorted.rises)

pub returns-then-not-has_new : goal.returns-then-not-has_new
returns-then-not-has_new t c =
    let d = (goal.at.returns-then-not-has_new t c).After-fork_of-length in
    sym (ap length (old-fork c.args.epoch (whole t d) _ _ _ (cut t d).tree (scanned t (goal.at.returns-then-not-has_new t c).After-has_new ∙ c.if-not-has_new.true)))

pub split_at-requires : goal.split_at-requires
split_at-requires t c = let h = cut t (goal.at.split_at-requires t c).After-fork_of-length in omega (arith, h.less, nodes-length c.args.leaves.now)

-- the two parts
low : (t : ℕ) (c : After-split_at t) → as_nodes c.split_at.result.0.now ≡ take c.fork_of-length.result.left (as_nodes c.args.leaves.now)
low t c = ap as_nodes c.split_at.ensures.front ∙ nodes-take c.fork_of-length.result.left c.args.leaves.now

high : (t : ℕ) (c : After-split_at t) → as_nodes c.split_at.result.1.now ≡ drop c.fork_of-length.result.left (as_nodes c.args.leaves.now)
high t c = ap as_nodes c.split_at.ensures.back ∙ nodes-drop c.fork_of-length.result.left c.args.leaves.now

pub count_below-requires : goal.count_below-requires
count_below-requires t c =
    let h = cut t (goal.at.count_below-requires t c).After-fork_of-length in
    (omega (arith, c.decreases, h.deeper, h.small), rw (low t (goal.at.count_below-requires t c).After-split_at) (left-part c.requires.sorted h))

pub count_below-requires-2 : goal.count_below-requires-2
count_below-requires-2 t c =
    let h = cut t (goal.at.count_below-requires-2 t c).After-fork_of-length in
    (omega (arith, c.decreases, h.deeper, h.small), rw (high t (goal.at.count_below-requires-2 t c).After-split_at) (right-part c.requires.sorted h))

-- the sum is that of the tree
sum : (t : ℕ) (c : After-count_below-2 t) → c.count_below.result + c.count_below-2.result ≡ length (subtrees c.args.epoch (build 256 (as_nodes c.args.leaves.now)))
sum t c =
    let e = c.args.epoch in
    let d = (goal.at.After-count_below-2 t c).After-fork_of-length in
    let m = d.fork_of-length.result.left in
    let s = (goal.at.After-count_below-2 t c).After-split_at in
    ap₂ (λ x y. x + y) (c.count_below.ensures ∙ ap (λ S. length (subtrees e (build 256 S))) (low t s)) (c.count_below-2.ensures ∙ ap (λ S. length (subtrees e (build 256 S))) (high t s))
    ∙ sym (ap length (new-fork e (whole t d) _ _ _ (cut t d).tree (scanned t (goal.at.After-count_below-2 t c).After-has_new ∙ c.if-not-has_new.false)) ∙ length-append (subtrees e (build 256 (take m (leaves t d)))) _)

pub overflow_add-result : goal.overflow_add-result
overflow_add-result t c =
    let a = c.args in
    let p = c.requires in
    omega (arith, sum t (goal.at.overflow_add-result t c).After-count_below-2, trees-few a.epoch a.from (as_nodes a.leaves.now) p.sorted p.range p.deep, nodes-length a.leaves.now)

pub returns : goal.returns
returns t c = sum t (goal.at.returns t c).After-count_below-2
