-- `forest::grow`: the leaves gathered are those of the records, in order they give the same tree.
use native.Mathlib.Omega.{arith}
use mathlib.Core.Path.{◌≡◌, sym, ap, ◌∙◌, subst}
use mathlib.Core.Bool.{true}
use mathlib.Core.List.{List, ◌++◌}
use Prim.Native.Nat.{◌*◌, ◌≤◌}
use lib.ListN.{length, take}
use lib.Seq.{length-take-le}
use Rattle.paper.specs.Strings.{Node}
use Rattle.paper.specs.Level.{rising}
use Rattle.record.specs.Places.{records_in}
use Rattle.gather.specs.Gathered.{leaves_by}
use Rattle.gather.proofs.Leaves.{by-few}
use Rattle.bit_order.proofs.Leaves.{leaves_none, leaves-cut}
use Rattle.arrange.specs.Arranged.{Arranged}
use Rattle.leaf_row.specs.Row.{as_nodes}
use Rattle.leaf_row.proofs.Rows.{row-count, of-count}
use Rattle.forest.proofs.grow.Goals as goal
use Rattle.forest.proofs.grow.Goals.{After-gather-n, After-leaves_of-leaves, After-arrange, Else-not-arrange}

-- the leaves of the tree, two of each record at most
abbrev leaves : After-gather-n → List Node
leaves c = let a = c.args in leaves_by a.which a.epoch (records_in a.count a.records.now)

few : (c : After-gather-n) → c.gather-n.result ≤ 2 * c.args.count
few c = let a = c.args in omega (arith, c.gather-n.ensures.number, by-few a.which a.epoch a.records.now a.count)

room : (c : After-gather-n) → c.gather-n.result * 68 ≤ length c.gather-n.new.row
room c = omega (arith, few c, c.gather-n.auto.row, c.requires.leaves)

front : (c : After-gather-n) → length (take (c.gather-n.result * 68) c.gather-n.new.row) ≡ c.gather-n.result * 68
front c = length-take-le _ _ (room c)

pub overflow_mul-size : goal.overflow_mul-size
overflow_mul-size c = let h = room (goal.at.overflow_mul-size c).After-gather-n in omega (arith, h)

pub slice_bounds-leaves_of-end : goal.slice_bounds-leaves_of-end
slice_bounds-leaves_of-end c = sym (front (goal.at.slice_bounds-leaves_of-end c).After-gather-n)

-- the leaves are those that were gathered
gathered : (c : After-leaves_of-leaves) → as_nodes c.leaves_of-leaves.result.now ≡ leaves (goal.at.After-leaves_of-leaves c).After-gather-n
gathered c =
    let d = (goal.at.After-leaves_of-leaves c).After-gather-n in
    let n = c.gather-n.result in
    c.leaves_of-leaves.ensures.leaves ∙ of-count n _ (front d) ∙ leaves-cut n (n * 68) c.gather-n.new.row (omega arith) ∙ c.gather-n.ensures.leaves ∙ ap (λ (l : List Node). l ++ leaves d) (leaves_none c.args.row.now)

found : (c : After-arrange) → Arranged (leaves (goal.at.After-arrange c).After-gather-n) (as_nodes c.arrange.new.leaves) c.arrange.result
found c = subst (λ S. Arranged S (as_nodes c.arrange.new.leaves) c.arrange.result) (gathered (goal.at.After-arrange c).After-leaves_of-leaves) c.arrange.ensures

pub returns-then-not-arrange : goal.returns-then-not-arrange
returns-then-not-arrange c = sym (found (goal.at.returns-then-not-arrange c).After-arrange).clear ∙ c.if-not-arrange.true

ordered : (c : Else-not-arrange) → rising (as_nodes c.arrange.new.leaves) ≡ true
ordered c = c.arrange.ensures.order c.if-not-arrange.false

count : (c : After-arrange) → length c.arrange.new.leaves ≡ c.gather-n.result
count c =
    let d = (goal.at.After-arrange c).After-gather-n in
    omega (arith, c.arrange.auto.leaves, row-count c.leaves_of-leaves.result.now _ c.leaves_of-leaves.ensures.leaves, front d)

slotted : (c : After-gather-n) → length (take c.gather-n.result c.args.slots.now) ≡ c.gather-n.result
slotted c = length-take-le _ _ (omega (arith, few c, c.requires.digests))

pub slice_bounds-store-end : goal.slice_bounds-store-end
slice_bounds-store-end c = sym (slotted (goal.at.slice_bounds-store-end c).After-gather-n)

pub store-requires : goal.store-requires
store-requires c = (ordered (goal.at.store-requires c).Else-not-arrange, slotted (goal.at.store-requires c).After-gather-n ∙ sym (count (goal.at.store-requires c).After-arrange))

pub returns : goal.returns
returns c =
    let d = (goal.at.returns c).After-arrange in
    let w = found d in
    let e = c.store.ensures.leaves in
    record {
      alone = sym w.clear ∙ c.if-not-arrange.false;
      standing = record {
        kept = c.store.ensures.tree;
        number = ap length e ∙ count d ∙ omega (arith, c.gather-n.ensures.number);
        tree = rw e (w.tree c.if-not-arrange.false);
        labels = rw e w.labels;
      };
    }
