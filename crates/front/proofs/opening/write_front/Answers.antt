-- `front::opening::write_front`: six parts, one behind the other.
use native.Mathlib.Omega.{arith}
use Rattle.paper.specs.Strings.{Head}
use Rattle.front.proofs.Front.{front-laid}
use Rattle.front.proofs.opening.write_front.Goals as goal

pub returns : goal.returns
returns c =
    let a = c.args in
    let h : Head = record { epoch = a.epoch; previous = a.previous.now; all = a.all.now; old = a.old.now } in
    front-laid a.kind h a.number a.out.now c.put.new.dst c.write32.new.dst c.put-2.new.dst c.put-3.new.dst c.put-4.new.dst c.write16.new.dst (omega arith) (omega arith) (omega arith) c.put.ensures c.write32.ensures c.put-2.ensures c.put-3.ensures c.put-4.ensures c.write16.ensures
