-- `new_epoch::plant::plant`: the leaves of the table's records and behind them those of the new ones are the tree's.
use native.Mathlib.Omega.{arith}
use mathlib.Core.Path.{◌≡◌, sym, ap, ◌∙◌, subst}
use mathlib.Core.List.{List, ◌++◌}
use Prim.Native.Nat.{◌*◌, ◌≤◌}
use lib.ListN.{length, take}
use lib.Seq.{length-take-le}
use Rattle.paper.specs.Strings.{Node}
use Rattle.record.specs.Places.{records_in}
use Rattle.gather.specs.Gathered.{leaves_by, Gained}
use Rattle.bit_order.proofs.Leaves.{leaves_none, leaves-cut}
use Rattle.gather.proofs.Row.{gain-more}
use Rattle.gather.proofs.Leaves.{by_append, by-few}
use Rattle.leaf_row.proofs.Rows.{row-count, of-count}
use Rattle.level.specs.Rooted.{Roots}
use Rattle.new_epoch.proofs.plant.plant.Goals as goal
use Rattle.new_epoch.proofs.plant.plant.Goals.{After-row-3-1, After-row-4-1}

-- how many leaves the table's records gave
had : (c : After-row-3-1) → c.gather-had.result ≤ 2 * c.args.count
had c =
    let a = c.args in
    omega (arith, c.gather-had.ensures.number, by-few a.which a.epoch a.records.now a.count)

pub gather-m-requires : goal.gather-m-requires
gather-m-requires c =
    record { stand = c.requires.new; fits = omega (arith, c.requires.few, had c, c.gather-had.auto.row, c.row-row.type_inv) }

-- all leaves of the tree stand in the row
all : (c : After-row-4-1) → Gained c.row-row.result c.gather-m.new.row 0 c.gather-m.result
    (leaves_by c.args.which c.args.epoch (records_in c.args.count c.args.records.now ++ records_in c.args.n c.args.fresh.now))
all c =
    let a = c.args in
    rw (by_append a.which a.epoch (records_in a.count a.records.now) (records_in a.n a.fresh.now)) (gain-more c.gather-had.ensures c.gather-m.ensures)

few : (c : After-row-4-1) → c.gather-m.result ≤ 8192
few c =
    omega (arith, c.requires.few, had (goal.at.After-row-4-1 c).After-row-3-1, c.gather-m.ensures.number, by-few c.args.which c.args.epoch c.args.fresh.now c.args.n)

room : (c : After-row-4-1) → c.gather-m.result * 68 ≤ length c.gather-m.new.row
room c = omega (arith, few c, c.gather-m.auto.row, c.gather-had.auto.row, c.row-row.type_inv)

pub overflow_mul-size : goal.overflow_mul-size
overflow_mul-size c = omega (arith, few c)

pub slice_bounds-row-end : goal.slice_bounds-row-end
slice_bounds-row-end c = room c

front : (c : After-row-4-1) → length (take (c.gather-m.result * 68) c.gather-m.new.row) ≡ c.gather-m.result * 68
front c = length-take-le _ _ (room c)

pub slice_bounds-leaves_of-end : goal.slice_bounds-leaves_of-end
slice_bounds-leaves_of-end c = sym (front (goal.at.slice_bounds-leaves_of-end c).After-row-4-1)

pub root_of-requires : goal.root_of-requires
root_of-requires c =
    let d = (goal.at.root_of-requires c).After-row-4-1 in
    omega (arith, row-count c.leaves_of.result.now _ c.leaves_of.ensures.leaves, front d, few d)

pub returns : goal.returns
returns c =
    let d = (goal.at.returns c).After-row-4-1 in
    let m = c.gather-m.result in
    let row = c.gather-m.new.row in
    let a = c.args in
    let S = leaves_by a.which a.epoch (records_in a.count a.records.now ++ records_in a.n a.fresh.now) in
    let e = c.leaves_of.ensures.leaves ∙ of-count m _ (front d) ∙ leaves-cut m (m * 68) row (omega arith) ∙ (all d).leaves ∙ ap (λ (l : List Node). l ++ S) (leaves_none c.row-row.result) in
    subst (λ S. Roots S c.root_of.result) e c.root_of.ensures
