-- `front::keys::write_item`: length, key and opening.
use borrow.Author.Rules.{rules}
use native.Mathlib.Omega.{arith}
use mathlib.Core.Path.{refl, ◌∙◌}
use Prim.Native.Nat.{◌+◌, ◌≤◌}
use lib.ListN.{length, length-set}
use Rattle.gather.proofs.Leaves.{key-few}
use Rattle.front.proofs.Items.{read-size, item-wrote}
use Rattle.front.proofs.keys.write_item.Goals as goal
use Rattle.front.proofs.keys.write_item.Goals.{After-key_at-key}

room : (c : After-key_at-key) → c.args.at + 33 + length c.key_at-key.result.now ≤ length c.args.out.now
room c =
    let a = c.args in
    omega (arith, c.requires.1, read-size a.records.now a.i c.requires.0 c.key_at-key.result.now _ c.key_at-key.ensures.bytes refl)

few : (c : After-key_at-key) → length c.key_at-key.result.now ≤ 64
few c = rw c.key_at-key.ensures.bytes (key-few c.args.records.now c.args.i)

pub overflow_cast-out : goal.overflow_cast-out
overflow_cast-out c = omega (arith, few c)

pub bounds-out-at : goal.bounds-out-at
bounds-out-at c = omega (arith, room c)

pub lay_key-requires : goal.lay_key-requires
lay_key-requires c =
    omega (arith, room (goal.at.lay_key-requires c).After-key_at-key, length-set c.args.out.now c.args.at (length c.key_at-key.result.now))

pub put-requires : goal.put-requires
put-requires c =
    omega (arith, room (goal.at.put-requires c).After-key_at-key, length-set c.args.out.now c.args.at (length c.key_at-key.result.now), c.lay_key.auto.out, c.opening_at.type_inv)

pub overflow_add-result-2 : goal.overflow_add-result-2
overflow_add-result-2 c = let h = room (goal.at.overflow_add-result-2 c).After-key_at-key in search rules

pub shape_of-out : goal.shape_of-out
shape_of-out c =
    c.put.auto.dst ∙ c.lay_key.auto.out ∙ length-set c.args.out.now c.args.at (length c.key_at-key.result.now)

pub returns : goal.returns
returns c =
    let a = c.args in
    item-wrote a.records.now a.i c.requires.0 c.key_at-key.result.now c.opening_at.result c.key_at-key.ensures.bytes c.opening_at.ensures a.out.now c.lay_key.new.out c.put.new.dst a.at c.requires.1 c.lay_key.ensures c.put.ensures
