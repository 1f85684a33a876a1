-- `tree::fork_of`: what the first and the last label share, all share, and there they are cut.
use mathlib.Core.Path.{◌≡◌, sym, ap₂, ◌∙◌, subst}
use mathlib.Core.List.{List}
use Prim.Native.Nat.{◌-◌, ◌≤◌}
use native.Mathlib.Omega.{arith}
use lib.ListN.{length, take, get_or}
use Rattle.paper.specs.Bits.{lcp, first_difference}
use Rattle.paper.specs.Strings.{Node, nothing}
use Rattle.paper.specs.Tree.{key}
use Rattle.bit_order.proofs.Order.{rising-ordered}
use Rattle.leaf_row.specs.Row.{as_nodes, Long}
use Rattle.leaf_row.proofs.Rows.{nodes-length, nodes-long, whole-by}
use Rattle.tree.specs.Stored.{Range, Cut, Forked}
use Rattle.tree.proofs.Step.{shared-range, forked}
use Rattle.tree.proofs.Halves.{ends-differ}
use Rattle.tree.proofs.fork_of.Goals as goal
use Rattle.tree.proofs.fork_of.Goals.{After-first_difference-length}

abbrev leaves : (c : After-first_difference-length) → List Node
leaves c = as_nodes c.args.leaves.now

long : (c : After-first_difference-length) → Long (leaves c)
long c = nodes-long c.args.leaves.now (whole-by c.args.leaves.now c.told-leaves)

two : (c : After-first_difference-length) → 2 ≤ length (leaves c)
two c = omega (arith, nodes-length c.args.leaves.now, c.requires.0)

shares : (c : After-first_difference-length) → c.first_difference-length.result ≡ length (lcp (key (get_or (leaves c) 0 nothing)) (key (get_or (leaves c) (length (leaves c) - 1) nothing)))
shares c =
    c.first_difference-length.ensures ∙ ap₂ (λ x y. first_difference (take 32 x) (take 32 y)) c.label_of.ensures.bytes c.label_of-2.ensures.bytes
    ∙ ends-differ c.args.leaves.now c.requires.0

pub split-requires : goal.split-requires
split-requires c =
    let d = (goal.at.split-requires c).After-first_difference-length in
    let S = leaves d in
    let w = c.requires.1 in
    (w, subst (λ k. Range k S) (sym (shares d)) (shared-range S (rising-ordered S w) (long d) (two d)))

pub returns : goal.returns
returns c =
    let d = (goal.at.returns c).After-first_difference-length in
    let S = leaves d in
    let w = c.requires.1 in
    subst (λ k. Cut k S c.split.result → Forked S k c.split.result) (sym (shares d)) (forked S (rising-ordered S w) (long d) (two d) c.split.result) c.split.ensures
