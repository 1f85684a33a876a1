-- `front::keys::write_items`: the keys among the records passed are written.
use native.Mathlib.Omega.{arith}
use native.Mathlib.Numerals.{add-one}
use mathlib.Core.Path.{◌≡◌, refl, sym, ap, ◌∙◌, subst}
use lib.ListN.{length}
use Rattle.path_fields.specs.Written.{Wrote}
use Rattle.front.proofs.Items.{wrote-start, long-yes, wrote-yes, long-no, bytes-no, bytes-room}
use Rattle.front.proofs.keys.write_items.Goals as goal
use Rattle.front.proofs.keys.write_items.Goals.{then-is_own, else-is_own}

pub loop-i-init : goal.loop-i-init
loop-i-init c =
    (c.requires.1, refl, omega arith, wrote-start c.args.records.now c.args.name.now c.args.epoch c.args.from c.args.out.now c.args.at)

pub is_own-requires : goal.is_own-requires
is_own-requires c = c.requires.0 _ c.loop-i-test.true

pub write_item-next-requires : goal.write_item-next-requires
write_item-next-requires c =
    let a = c.args in
    let h = c.loop-i-test.true in
    let room = bytes-room a.records.now a.name.now a.epoch a.from c.loop-i.i a.count h c.loop-i.invariant.2 (sym c.is_own.ensures ∙ c.if-is_own.true) in
    (c.requires.0 _ h, omega (arith, c.requires.2, c.loop-i.invariant.1, c.loop-i.invariant.3.behind, room))

pub loop-i-preserved : goal.loop-i-preserved
loop-i-preserved c =
    let a = c.args in
    let s = a.records.now in
    let i = c.loop-i.i in
    let h = c.loop-i-test.true in
    let long = c.loop-i.invariant.2 in
    elim c.if-is_own.branch [
      | then-is_own w ↦
          let own = sym c.is_own.ensures ∙ w.if-is_own.true in (
            omega (arith, h),
            rw (w.out-is) (w.write_item-next.auto.out ∙ c.loop-i.invariant.1),
            rw (add-one i) (long-yes s a.name.now a.epoch a.from i long own),
            rw (add-one i, w.next-is, w.out-is) (wrote-yes s a.name.now a.epoch a.from i long own a.out.now c.loop-i.out w.write_item-next.new.out a.at c.loop-i.next _ (omega (arith, c.requires.2)) c.loop-i.invariant.3 w.write_item-next.ensures),
          )
      | else-is_own w ↦
          let own = sym c.is_own.ensures ∙ w.if-is_own.false in (
            omega (arith, h),
            ap (λ x. length x) w.out-is ∙ c.loop-i.invariant.1,
            rw (add-one i) (long-no s a.name.now a.epoch a.from i long own),
            rw (add-one i, w.next-is, w.out-is) (subst (λ x. Wrote a.out.now a.at x c.loop-i.out c.loop-i.next) (sym (bytes-no s a.name.now a.epoch a.from i long own)) c.loop-i.invariant.3),
          )
    ]

pub shape_of-out : goal.shape_of-out
shape_of-out c = c.loop-i.invariant.1

pub returns : goal.returns
returns c =
    let e : c.loop-i.i ≡ c.args.count = omega (arith, c.loop-i.invariant.0, c.loop-i-test.false) in
    rw (← e) c.loop-i.invariant.3
