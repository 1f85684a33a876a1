-- `rows::history::history_rows`: each row by its run of paths, from where the one before it ends.
use borrow.Author.Rules.{rules}
use native.Mathlib.Omega.{arith}
use native.Mathlib.Numerals.{add-one}
use mathlib.Core.Path.{◌≡◌, sym, ap, ap₂, ◌∙◌}
use Prim.Native.Nat.{◌*◌, ◌%◌, ◌^◌, ◌≤◌}
use Rattle.std.specs.Prelude.{Ok}
use Rattle.std.proofs.lemmas.Result.{err_from_is_err_and}
use Rattle.paper.proofs.Asked.{by_most}
use Rattle.plan.specs.declared.Place.TheVariants.{InAll, AsMarker}
use Rattle.plan.specs.Asked.{markers_of}
use Rattle.plan.proofs.Markers.{markers-most}
use Rattle.walks.specs.Walk.{walks, Ahead}
use Rattle.runs.specs.Runs.{ask_version, ask_replaced, ask_marker, row, lack, lacks}
use Rattle.runs.proofs.Powers.{power}
use Rattle.rows.specs.Rows.{all_rows}
use Rattle.rows.proofs.Joined.{rows-on, rows-stop, Kept, kept, ahead-behind, history_asks, from_1, from_2, from_3, from_4}
use Rattle.rows.proofs.history.history_rows.Goals as goal
use Rattle.rows.proofs.history.history_rows.Goals.{After-markers_of-marks, After-markers_by-most, After-versions, After-replaced, After-current, After-each, After-markers, In_ok-reader, In_ok-reader-2, In_ok-reader-3, In_ok-reader-4, In_ok-reader-5}

-- a history of up to 1,023 versions has up to 10 markers
few : (c : After-markers_of-marks) → c.markers_of-marks.result ≤ 10
few c = omega (arith, c.markers_of-marks.ensures, markers-most 10 c.args.n (omega arith) (omega (arith, c.requires.small)))

pub overflow_cast-marks : goal.overflow_cast-marks
overflow_cast-marks c = omega (arith, few c)

pub overflow_shl-marks : goal.overflow_shl-marks
overflow_shl-marks c = omega (arith, few (goal.at.overflow_shl-marks c).After-markers_of-marks)

-- the power of two, as the code has it
powered : (c : After-markers_of-marks) → 1 * 2 ^ c.markers_of-marks.result % 2 ^ 16 ≡ 2 ^ markers_of c.args.n
powered c = omega (arith, (power c.markers_of-marks.result (few c)).small, ap (λ r. 2 ^ r) c.markers_of-marks.ensures)

-- ---- the rows, each from the reader behind the one before it

row-0 : (c : After-versions) → c.versions.result ≡ walks (history_asks c.args.reader c.args.epoch c.args.n 0) (Ok c.args.reader)
row-0 c = c.versions.ensures.is ∙ ap (λ k. walks (row (ask_version c.args.reader.proof.now c.args.reader.at c.args.epoch) 1 k) (Ok c.args.reader)) (add-one c.args.n)

was-0 : (c : In_ok-reader) → walks (history_asks c.args.reader c.args.epoch c.args.n 0) (Ok c.args.reader) ≡ Ok c.in_ok-reader.reader
was-0 c = sym (row-0 (goal.at.In_ok-reader c).After-versions) ∙ c.in_ok-reader.was

keeps-0 : (c : In_ok-reader) → Kept c.args.reader c.in_ok-reader.reader
keeps-0 c = let k = kept _ c.args.reader c.in_ok-reader.reader (was-0 c) in record { proof = k.proof; name = k.name }

ahead-0 : (c : In_ok-reader) → Ahead 2970 c.in_ok-reader.reader
ahead-0 c = ahead-behind _ c.args.reader c.in_ok-reader.reader (was-0 c) c.args.n 2970 4000 c.requires.ahead c.in_ok-reader.ensures.counted (omega (arith, c.requires.small))

at-0 : (c : In_ok-reader) → walks (all_rows (history_asks c.args.reader c.args.epoch c.args.n)) (Ok c.args.reader) ≡ walks (from_1 (history_asks c.args.reader c.args.epoch c.args.n)) (Ok c.in_ok-reader.reader)
at-0 c = rows-on (history_asks c.args.reader c.args.epoch c.args.n 0) (from_1 (history_asks c.args.reader c.args.epoch c.args.n)) c.args.reader c.in_ok-reader.reader (was-0 c)

pub returns-in_err-reader : goal.returns-in_err-reader
returns-in_err-reader c =
    let p = err_from_is_err_and c.from_residual.result c.from_residual.ensures.1 in
    rw (p.1, p.2)
    (sym (rows-stop (history_asks c.args.reader c.args.epoch c.args.n 0) (from_1 (history_asks c.args.reader c.args.epoch c.args.n)) c.args.reader _ (sym (row-0 (goal.at.returns-in_err-reader c).After-versions) ∙ c.in_err-reader.was)))

row-1 : (c : After-replaced) → c.replaced.result ≡ walks (history_asks c.args.reader c.args.epoch c.args.n 1) (Ok c.in_ok-reader.reader)
row-1 c = c.replaced.ensures.is ∙ ap (λ b. walks (row (ask_replaced b.now c.args.reader.at) 1 c.args.n) (Ok c.in_ok-reader.reader)) (keeps-0 (goal.at.After-replaced c).In_ok-reader).proof

was-1 : (c : In_ok-reader-2) → walks (history_asks c.args.reader c.args.epoch c.args.n 1) (Ok c.in_ok-reader.reader) ≡ Ok c.in_ok-reader-2.reader
was-1 c = sym (row-1 (goal.at.In_ok-reader-2 c).After-replaced) ∙ c.in_ok-reader-2.was

keeps-1 : (c : In_ok-reader-2) → Kept c.args.reader c.in_ok-reader-2.reader
keeps-1 c = let k = kept _ c.in_ok-reader.reader c.in_ok-reader-2.reader (was-1 c) in record { proof = k.proof ∙ (keeps-0 (goal.at.In_ok-reader-2 c).In_ok-reader).proof; name = k.name ∙ (keeps-0 (goal.at.In_ok-reader-2 c).In_ok-reader).name }

ahead-1 : (c : In_ok-reader-2) → Ahead 1940 c.in_ok-reader-2.reader
ahead-1 c = ahead-behind _ c.in_ok-reader.reader c.in_ok-reader-2.reader (was-1 c) c.args.n 1940 2970 (ahead-0 (goal.at.In_ok-reader-2 c).In_ok-reader) c.in_ok-reader-2.ensures.counted (omega (arith, c.requires.small))

at-1 : (c : In_ok-reader-2) → walks (all_rows (history_asks c.args.reader c.args.epoch c.args.n)) (Ok c.args.reader) ≡ walks (from_2 (history_asks c.args.reader c.args.epoch c.args.n)) (Ok c.in_ok-reader-2.reader)
at-1 c = at-0 (goal.at.In_ok-reader-2 c).In_ok-reader ∙ rows-on (history_asks c.args.reader c.args.epoch c.args.n 1) (from_2 (history_asks c.args.reader c.args.epoch c.args.n)) c.in_ok-reader.reader c.in_ok-reader-2.reader (was-1 c)

pub returns-in_err-reader-2 : goal.returns-in_err-reader-2
returns-in_err-reader-2 c =
    let p = err_from_is_err_and c.from_residual-in_err-reader-2.result c.from_residual-in_err-reader-2.ensures.1 in
    rw (p.1, p.2)
    (sym (at-0 (goal.at.returns-in_err-reader-2 c).In_ok-reader ∙ rows-stop (history_asks c.args.reader c.args.epoch c.args.n 1) (from_2 (history_asks c.args.reader c.args.epoch c.args.n)) c.in_ok-reader.reader _ (sym (row-1 (goal.at.returns-in_err-reader-2 c).After-replaced) ∙ c.in_err-reader-2.was)))

row-2 : (c : After-current) → c.current.result ≡ walks (history_asks c.args.reader c.args.epoch c.args.n 2) (Ok c.in_ok-reader-2.reader)
row-2 c = c.current.ensures.is

was-2 : (c : In_ok-reader-3) → walks (history_asks c.args.reader c.args.epoch c.args.n 2) (Ok c.in_ok-reader-2.reader) ≡ Ok c.in_ok-reader-3.reader
was-2 c = sym (row-2 (goal.at.In_ok-reader-3 c).After-current) ∙ c.in_ok-reader-3.was

keeps-2 : (c : In_ok-reader-3) → Kept c.args.reader c.in_ok-reader-3.reader
keeps-2 c = let k = kept _ c.in_ok-reader-2.reader c.in_ok-reader-3.reader (was-2 c) in record { proof = k.proof ∙ (keeps-1 (goal.at.In_ok-reader-3 c).In_ok-reader-2).proof; name = k.name ∙ (keeps-1 (goal.at.In_ok-reader-3 c).In_ok-reader-2).name }

ahead-2 : (c : In_ok-reader-3) → Ahead 1930 c.in_ok-reader-3.reader
ahead-2 c = ahead-behind _ c.in_ok-reader-2.reader c.in_ok-reader-3.reader (was-2 c) 1 1930 1940 (ahead-1 (goal.at.In_ok-reader-3 c).In_ok-reader-2) (omega (arith, c.in_ok-reader-3.ensures.counted)) (omega (arith, c.requires.small))

at-2 : (c : In_ok-reader-3) → walks (all_rows (history_asks c.args.reader c.args.epoch c.args.n)) (Ok c.args.reader) ≡ walks (from_3 (history_asks c.args.reader c.args.epoch c.args.n)) (Ok c.in_ok-reader-3.reader)
at-2 c = at-1 (goal.at.In_ok-reader-3 c).In_ok-reader-2 ∙ rows-on (history_asks c.args.reader c.args.epoch c.args.n 2) (from_3 (history_asks c.args.reader c.args.epoch c.args.n)) c.in_ok-reader-2.reader c.in_ok-reader-3.reader (was-2 c)

pub returns-in_err-reader-3 : goal.returns-in_err-reader-3
returns-in_err-reader-3 c =
    let p = err_from_is_err_and c.from_residual-in_err-reader-3.result c.from_residual-in_err-reader-3.ensures.1 in
    rw (p.1, p.2)
    (sym (at-1 (goal.at.returns-in_err-reader-3 c).In_ok-reader-2 ∙ rows-stop (history_asks c.args.reader c.args.epoch c.args.n 2) (from_3 (history_asks c.args.reader c.args.epoch c.args.n)) c.in_ok-reader-2.reader _ (sym (row-2 (goal.at.returns-in_err-reader-3 c).After-current) ∙ c.in_err-reader-3.was)))

row-3 : (c : After-each) → c.each.result ≡ walks (history_asks c.args.reader c.args.epoch c.args.n 3) (Ok c.in_ok-reader-3.reader)
row-3 c = c.each.ensures.is (λ i. lack (InAll i)) (λ i x l p. search rules) ∙ ap₂ (λ j k. walks (lacks InAll j k) (Ok c.in_ok-reader-3.reader)) (add-one c.args.n) (powered (goal.at.After-each c).After-markers_of-marks)

was-3 : (c : In_ok-reader-4) → walks (history_asks c.args.reader c.args.epoch c.args.n 3) (Ok c.in_ok-reader-3.reader) ≡ Ok c.in_ok-reader-4.reader
was-3 c = sym (row-3 (goal.at.In_ok-reader-4 c).After-each) ∙ c.in_ok-reader-4.was

keeps-3 : (c : In_ok-reader-4) → Kept c.args.reader c.in_ok-reader-4.reader
keeps-3 c = let k = kept _ c.in_ok-reader-3.reader c.in_ok-reader-4.reader (was-3 c) in record { proof = k.proof ∙ (keeps-2 (goal.at.In_ok-reader-4 c).In_ok-reader-3).proof; name = k.name ∙ (keeps-2 (goal.at.In_ok-reader-4 c).In_ok-reader-3).name }

ahead-3 : (c : In_ok-reader-4) → Ahead 900 c.in_ok-reader-4.reader
ahead-3 c = ahead-behind _ c.in_ok-reader-3.reader c.in_ok-reader-4.reader (was-3 c) 1024 900 1930 (ahead-2 (goal.at.In_ok-reader-4 c).In_ok-reader-3) (omega (arith, c.in_ok-reader-4.ensures.counted, (power c.markers_of-marks.result (few (goal.at.In_ok-reader-4 c).After-markers_of-marks)).small)) (omega (arith, c.requires.small))

at-3 : (c : In_ok-reader-4) → walks (all_rows (history_asks c.args.reader c.args.epoch c.args.n)) (Ok c.args.reader) ≡ walks (from_4 (history_asks c.args.reader c.args.epoch c.args.n)) (Ok c.in_ok-reader-4.reader)
at-3 c = at-2 (goal.at.In_ok-reader-4 c).In_ok-reader-3 ∙ rows-on (history_asks c.args.reader c.args.epoch c.args.n 3) (from_4 (history_asks c.args.reader c.args.epoch c.args.n)) c.in_ok-reader-3.reader c.in_ok-reader-4.reader (was-3 c)

pub returns-in_err-reader-4 : goal.returns-in_err-reader-4
returns-in_err-reader-4 c =
    let p = err_from_is_err_and c.from_residual-in_err-reader-4.result c.from_residual-in_err-reader-4.ensures.1 in
    rw (p.1, p.2)
    (sym (at-2 (goal.at.returns-in_err-reader-4 c).In_ok-reader-3 ∙ rows-stop (history_asks c.args.reader c.args.epoch c.args.n 3) (from_4 (history_asks c.args.reader c.args.epoch c.args.n)) c.in_ok-reader-3.reader _ (sym (row-3 (goal.at.returns-in_err-reader-4 c).After-each) ∙ c.in_err-reader-4.was)))

row-4 : (c : After-markers) → c.markers.result ≡ walks (history_asks c.args.reader c.args.epoch c.args.n 4) (Ok c.in_ok-reader-4.reader)
row-4 c = c.markers.ensures.is ∙ ap₂ (λ b k. walks (row (ask_marker b.now c.args.reader.at) 0 k) (Ok c.in_ok-reader-4.reader)) (keeps-3 (goal.at.After-markers c).In_ok-reader-4).proof c.markers_of-marks.ensures

was-4 : (c : In_ok-reader-5) → walks (history_asks c.args.reader c.args.epoch c.args.n 4) (Ok c.in_ok-reader-4.reader) ≡ Ok c.in_ok-reader-5.reader
was-4 c = sym (row-4 (goal.at.In_ok-reader-5 c).After-markers) ∙ c.in_ok-reader-5.was

ahead-4 : (c : In_ok-reader-5) → Ahead 800 c.in_ok-reader-5.reader
ahead-4 c = ahead-behind _ c.in_ok-reader-4.reader c.in_ok-reader-5.reader (was-4 c) 10 800 900 (ahead-3 (goal.at.In_ok-reader-5 c).In_ok-reader-4) (omega (arith, c.in_ok-reader-5.ensures.counted, few (goal.at.In_ok-reader-5 c).After-markers_of-marks)) (omega (arith, c.requires.small))

at-4 : (c : In_ok-reader-5) → walks (all_rows (history_asks c.args.reader c.args.epoch c.args.n)) (Ok c.args.reader) ≡ walks (history_asks c.args.reader c.args.epoch c.args.n 5) (Ok c.in_ok-reader-5.reader)
at-4 c = at-3 (goal.at.In_ok-reader-5 c).In_ok-reader-4 ∙ rows-on (history_asks c.args.reader c.args.epoch c.args.n 4) (history_asks c.args.reader c.args.epoch c.args.n 5) c.in_ok-reader-4.reader c.in_ok-reader-5.reader (was-4 c)

pub returns-in_err-reader-5 : goal.returns-in_err-reader-5
returns-in_err-reader-5 c =
    let p = err_from_is_err_and c.from_residual-in_err-reader-5.result c.from_residual-in_err-reader-5.ensures.1 in
    rw (p.1, p.2)
    (sym (at-3 (goal.at.returns-in_err-reader-5 c).In_ok-reader-4 ∙ rows-stop (history_asks c.args.reader c.args.epoch c.args.n 4) (history_asks c.args.reader c.args.epoch c.args.n 5) c.in_ok-reader-4.reader _ (sym (row-4 (goal.at.returns-in_err-reader-5 c).After-markers) ∙ c.in_err-reader-5.was)))

pub returns : goal.returns
returns c =
    let e = c.each-2.ensures.is (λ j. lack (AsMarker j)) (λ i x l p. search rules) ∙ ap₂ (λ j k. walks (lacks AsMarker j k) (Ok c.in_ok-reader-5.reader)) c.markers_of-marks.ensures c.markers_by-most.ensures in
    e ∙ sym (at-4 (goal.at.returns c).In_ok-reader-5)

-- ---- there is room for each

pub replaced-requires : goal.replaced-requires
replaced-requires c = let h = ahead-0 (goal.at.replaced-requires c).In_ok-reader in record { front = h.front; short = h.short; room = omega (arith, h.room, c.requires.small) }

pub current-requires : goal.current-requires
current-requires c = let h = ahead-1 (goal.at.current-requires c).In_ok-reader-2 in record { front = h.front; short = h.short; room = omega (arith, h.room, c.requires.small) }

pub each-requires-clause-ahead : goal.each-requires-clause-ahead
each-requires-clause-ahead c = let h = ahead-2 (goal.at.each-requires-clause-ahead c).In_ok-reader-3 in record { front = h.front; short = h.short; room = omega (arith, h.room, (power c.markers_of-marks.result (few (goal.at.each-requires-clause-ahead c).After-markers_of-marks)).small) }

pub markers-requires : goal.markers-requires
markers-requires c =
    let h = ahead-3 (goal.at.markers-requires c).In_ok-reader-4 in
    let k = few (goal.at.markers-requires c).After-markers_of-marks in
    (record { front = h.front; short = h.short; room = omega (arith, h.room) }, k)

pub each-requires-2-clause-ahead : goal.each-requires-2-clause-ahead
each-requires-2-clause-ahead c =
    let h = ahead-4 (goal.at.each-requires-2-clause-ahead c).In_ok-reader-5 in
    record { front = h.front; short = h.short; room = omega (arith, h.room, c.markers_by-most.ensures, by_most c.args.epoch) }
