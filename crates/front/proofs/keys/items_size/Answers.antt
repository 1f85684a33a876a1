-- `front::keys::items_size`: the keys among the records passed are measured.
use borrow.Author.Rules.{rules}
use native.Mathlib.Omega.{arith}
use native.Mathlib.Numerals.{add-one}
use mathlib.Core.Path.{◌≡◌, sym, ap, ◌∙◌}
use Prim.Native.Nat.{suc, ◌+◌, ◌*◌, ◌≤◌}
use lib.ListN.{length}
use Rattle.front.proofs.Items.{item-most, bytes-start, long-yes, length-yes, long-no, bytes-no}
use Rattle.front.proofs.keys.items_size.Goals as goal
use Rattle.front.proofs.keys.items_size.Goals.{then-is_own, else-is_own}

pub loop-i-init : goal.loop-i-init
loop-i-init c =
    (c.requires.1, omega arith, omega arith, sym (ap length (bytes-start c.args.records.now c.args.name.now c.args.epoch c.args.from)))

pub is_own-requires : goal.is_own-requires
is_own-requires c = c.requires.0 _ c.loop-i-test.true

pub item_size-size-requires : goal.item_size-size-requires
item_size-size-requires c = c.requires.0 _ c.loop-i-test.true

pub overflow_add-size : goal.overflow_add-size
overflow_add-size c =
    let stands = c.requires.0 _ c.loop-i-test.true in
    let h = stands.reach in
    let most = item-most c.args.records.now c.loop-i.i stands in
    let b : c.loop-i.size + c.item_size-size.result ≤ suc c.loop-i.i * 168 = omega (arith, c.loop-i.invariant.1, most, c.item_size-size.ensures) in
    search rules

pub loop-i-preserved : goal.loop-i-preserved
loop-i-preserved c =
    let a = c.args in
    let s = a.records.now in
    let i = c.loop-i.i in
    let h = c.loop-i-test.true in
    let long = c.loop-i.invariant.2 in
    elim c.if-is_own.branch [
      | then-is_own w ↦
          let own = sym c.is_own.ensures ∙ w.if-is_own.true in
          let more = length-yes s a.name.now a.epoch a.from i long own in (
            omega (arith, h),
            omega (arith, c.loop-i.invariant.1, w.size-is, w.item_size-size.ensures, item-most s i (c.requires.0 i h)),
            rw (add-one i) (long-yes s a.name.now a.epoch a.from i long own),
            rw (add-one i) (omega (arith, c.loop-i.invariant.3, w.size-is, w.item_size-size.ensures, more)),
          )
      | else-is_own w ↦
          let own = sym c.is_own.ensures ∙ w.if-is_own.false in (
            omega (arith, h),
            omega (arith, c.loop-i.invariant.1, w.size-is),
            rw (add-one i) (long-no s a.name.now a.epoch a.from i long own),
            rw (add-one i) (w.size-is ∙ c.loop-i.invariant.3 ∙ sym (ap length (bytes-no s a.name.now a.epoch a.from i long own))),
          )
    ]

pub returns : goal.returns
returns c =
    let e : c.loop-i.i ≡ c.args.count = omega (arith, c.loop-i.invariant.0, c.loop-i-test.false) in
    rw (← e) c.loop-i.invariant.3
