-- `new_epoch::fresh::prepare`: the records of the updates passed stand at the start.
use borrow.Author.Tests.{not-true, not-false}
use native.Mathlib.Numerals.{add-one}
use native.Mathlib.Omega.{arith}
use mathlib.Core.Path.{◌≡◌, refl, sym, ap, ◌∙◌, subst}
use mathlib.Core.Bool.{false≢true}
use Prim.Native.Nat.{ℕ, suc, ◌*◌, ◌≤◌, ◌<◌}
use lib.ListN.{length}
use Rattle.paper.specs.Bytes.{pasted}
use Rattle.paper.specs.Layout.{times_bytes}
use Rattle.paper.specs.Table.{record_field}
use Rattle.ranges.proofs.Slices.{bytewise}
use Rattle.batch.proofs.Form.{formed-lies}
use Rattle.new_epoch.specs.Prepared.{new_records}
use Rattle.new_epoch.proofs.Prepared.{Begun, begun-none, begun-front, begun_more, begun-stop, begun-laid, while-all}
use Rattle.new_epoch.proofs.fresh.prepare.Goals as goal

pub loop-i-init : goal.loop-i-init
loop-i-init c = let a = c.args in (omega arith, refl, begun-none a.index.now.records.now a.index.now.count a.epoch a.batch.now a.fresh.now)

-- update i lies in the batch
reached : (n i k : ℕ) → i < n → k ≡ n * 162 → suc i * 162 ≤ k
reached n i k h e = omega arith

pub lay_next-requires : goal.lay_next-requires
lay_next-requires c =
    let at = c.loop-i in
    let h = c.loop-i-test.true in
    let reach = reached c.args.n at.i (length c.args.batch.now) h c.requires.1 in
    let w = bytewise c.args.batch.now c.type_inv.batch in
    (c.requires.0, formed-lies c.args.batch.now at.i w reach (c.requires.0.formed at.i reach), omega (arith, h, c.requires.2, at.invariant.1))

pub returns-then-not-lay_next : goal.returns-then-not-lay_next
returns-then-not-lay_next c =
    let a = c.args in
    let at = c.loop-i in
    let laid = c.lay_next in
    let h = c.loop-i-test.true in
    let r = not-true laid.result c.if-not-lay_next.true-raw in
    let e = sym laid.ensures.is ∙ r in
    record {
      is = sym (begun-stop a.index.now.records.now a.index.now.count a.epoch a.batch.now a.n at.i h e);
      bytes = λ q. absurd (false≢true q);
      laid = laid.ensures.same r ∙ at.invariant.2.laid ∙ ap (λ l. pasted a.fresh.now 0 (times_bytes record_field.bytes l)) (sym (begun-laid a.index.now.records.now a.index.now.count a.epoch a.batch.now a.n at.i h e at.invariant.2.versions));
    }

pub loop-i-preserved : goal.loop-i-preserved
loop-i-preserved c =
    let a = c.args in
    let at = c.loop-i in
    let h = c.loop-i-test.true in
    let laid = c.lay_next in
    let e = not-false laid.result c.if-not-lay_next.false-raw in
    let reach = reached a.n at.i (length a.batch.now) h c.requires.1 in
    let w = bytewise a.batch.now c.type_inv.batch in (
      omega (arith, h),
      laid.auto.fresh ∙ at.invariant.1,
      rw (add-one at.i) (begun_more a.index.now.records.now a.index.now.count a.epoch a.batch.now w (omega (arith, c.ranges.epoch)) at.i reach (c.requires.0.formed at.i reach) (sym laid.ensures.is ∙ e) a.fresh.now at.fresh _ at.invariant.2 (laid.ensures.bytes e)),
    )

pub returns : goal.returns
returns c =
    let a = c.args in
    let at = c.loop-i in
    let n : at.i ≡ a.n = omega (arith, at.invariant.0, c.loop-i-test.false) in
    let done = subst (λ k. Begun a.index.now.records.now a.index.now.count a.epoch a.batch.now k a.fresh.now at.fresh) n at.invariant.2 in
    record {
      is = sym done.versions;
      bytes = λ _. begun-front a.index.now.records.now a.index.now.count a.epoch a.batch.now a.n a.fresh.now at.fresh done;
      laid = done.laid ∙ ap (λ l. pasted a.fresh.now 0 (times_bytes record_field.bytes l)) (sym (while-all (new_records a.index.now.records.now a.index.now.count a.epoch a.batch.now a.n) done.versions));
    }
