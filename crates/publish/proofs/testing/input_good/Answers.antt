-- `publish::testing::input_good`: the tests one after the other.
use borrow.Author.Tests.{not-true, not-false, eqb-true}
use native.Mathlib.Omega.{arith}
use mathlib.Core.Path.{sym, ◌∙◌}
use Prim.Native.Nat.{◌%◌}
use lib.ListN.{length}
use Rattle.paper.specs.Publish.{batch_within}
use Rattle.paper.proofs.Lists.{and_left}
use Rattle.publish.specs.Weighed.{input_good}
use Rattle.publish.proofs.testing.input_good.Goals as goal

pub returns-then-not-records_within : goal.returns-then-not-records_within
unfolding input_good
returns-then-not-records_within c = sym (rw (sym c.records_within.ensures ∙ not-true c.records_within.result c.if-not-records_within.true-raw))

pub returns-then-not-heads_within : goal.returns-then-not-heads_within
unfolding input_good
returns-then-not-heads_within c =
    let records = sym c.records_within.ensures ∙ not-false c.records_within.result c.if-not-records_within.false-raw in
    sym (rw (records, sym c.heads_within.ensures ∙ not-true c.heads_within.result c.if-not-heads_within.true-raw))

pub returns-then-not-batch_within : goal.returns-then-not-batch_within
unfolding input_good
returns-then-not-batch_within c =
    let records = sym c.records_within.ensures ∙ not-false c.records_within.result c.if-not-records_within.false-raw in
    let heads = sym c.heads_within.ensures ∙ not-false c.heads_within.result c.if-not-heads_within.false-raw in
    sym (rw (records, heads, sym c.batch_within.ensures ∙ not-true c.batch_within.result c.if-not-batch_within.true-raw))

pub in_layout-requires : goal.in_layout-requires
unfolding batch_within
in_layout-requires c =
    let batch = sym c.batch_within.ensures ∙ not-false c.batch_within.result c.if-not-batch_within.false-raw in
    let m = eqb-true (length c.args.batch.now % 162) 0 (and_left _ _ batch) in
    omega (arith, m)

pub returns : goal.returns
unfolding input_good
returns c =
    let records = sym c.records_within.ensures ∙ not-false c.records_within.result c.if-not-records_within.false-raw in
    let heads = sym c.heads_within.ensures ∙ not-false c.heads_within.result c.if-not-heads_within.false-raw in
    let batch = sym c.batch_within.ensures ∙ not-false c.batch_within.result c.if-not-batch_within.false-raw in
    c.in_layout.ensures ∙ sym (rw (records, heads, batch))
