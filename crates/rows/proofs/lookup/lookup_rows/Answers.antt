-- `rows::lookup::lookup_rows`: one path, or three.
use native.Mathlib.Omega.{arith}
use mathlib.Core.Path.{◌≡◌, sym, ap, ◌∙◌}
use Prim.Native.Nat.{◌≤◌}
use Rattle.std.specs.Prelude.{Ok}
use Rattle.std.proofs.lemmas.Result.{err_from_is_err_and}
use Rattle.bits.proofs.Powers.{marker-few, marker-shift}
use Rattle.plan.specs.declared.Place.TheVariants.{InOld}
use Rattle.shown.specs.Form.{commitment_in}
use Rattle.walks.specs.Walk.{stepped, walked, walks, Ahead}
use Rattle.runs.specs.Runs.{epoch_from, lack}
use Rattle.runs.proofs.Cursors.{place_none, leaf-epoch}
use Rattle.rows.specs.Rows.{of_version, of_marker}
use Rattle.rows.proofs.Joined.{ahead-step, lookup_asks, lookup-none, lookup-some}
use Rattle.rows.proofs.lookup.lookup_rows.Goals as goal
use Rattle.rows.proofs.lookup.lookup_rows.Goals.{After-marker_of-marker, After-take-2, In_ok-reader, In_ok-reader-2}

pub returns-then-version-eq0 : goal.returns-then-version-eq0
returns-then-version-eq0 c =
    let a = c.args in
    c.take.ensures.is ∙ ap (λ x. stepped x a.reader) c.missing.ensures ∙ lookup-none a.reader a.epoch a.version c.if-version-eq0.true

few : (c : After-marker_of-marker) → c.marker_of-marker.result ≤ 15
few c = rw c.marker_of-marker.ensures (marker-few c.args.version (omega (arith, c.ranges.version)))

pub overflow_cast-place : goal.overflow_cast-place
overflow_cast-place c = omega (arith, few c)

pub overflow_shl-marker : goal.overflow_shl-marker
overflow_shl-marker c = omega (arith, few (goal.at.overflow_shl-marker c).After-marker_of-marker)

-- the first path, as it is taken
first : (c : After-take-2) → c.take-2.result ≡ stepped (of_version (commitment_in c.args.reader.proof.now 108) c.args.version c.args.epoch) c.args.reader
first c = c.take-2.ensures.is ∙ ap (λ x. stepped x c.args.reader) (c.present.ensures ∙ rw c.commitment_at-own.ensures)

ahead : (c : In_ok-reader) → Ahead 2 c.in_ok-reader.reader
ahead c = ahead-step _ c.args.reader _ (sym c.take-2.ensures.is ∙ c.in_ok-reader.was) c.in_ok-reader.ensures.counted 2 3 c.requires.ahead (omega arith)

ahead-2 : (c : In_ok-reader-2) → Ahead 1 c.in_ok-reader-2.reader
ahead-2 c = ahead-step _ c.in_ok-reader.reader _ (sym c.take-3.ensures.is ∙ c.in_ok-reader-2.was) c.in_ok-reader-2.ensures.counted 1 2 (ahead (goal.at.In_ok-reader-2 c).In_ok-reader) (omega arith)

pub take-requires-3 : goal.take-requires-3
take-requires-3 c = let h = ahead (goal.at.take-requires-3 c).In_ok-reader in record { front = h.front; short = h.short; room = omega (arith, h.room) }

pub take-requires-4 : goal.take-requires-4
take-requires-4 c = ahead-2 (goal.at.take-requires-4 c).In_ok-reader-2

pub returns-in_err-reader : goal.returns-in_err-reader
returns-in_err-reader c =
    let a = c.args in
    let p = err_from_is_err_and c.from_residual.result c.from_residual.ensures.1 in
    let e = sym (first (goal.at.returns-in_err-reader c).After-take-2) ∙ c.in_err-reader.was in
    rw (p.1, p.2)
    (sym (lookup-some a.reader a.epoch a.version c.if-version-eq0.false ∙ ap (λ x. walked (of_marker a.version (epoch_from a.reader.proof.now a.reader.at 1)) (walked (lack (InOld a.version)) x)) e))

-- behind the first path
behind : (c : In_ok-reader) → let a = c.args in
    walks (lookup_asks a.reader a.epoch a.version) (Ok a.reader) ≡ walked (of_marker a.version (epoch_from a.reader.proof.now a.reader.at 1)) (stepped (lack (InOld a.version)) c.in_ok-reader.reader)
behind c =
    let a = c.args in
    let e = sym (first (goal.at.In_ok-reader c).After-take-2) ∙ c.in_ok-reader.was in
    lookup-some a.reader a.epoch a.version c.if-version-eq0.false ∙ ap (λ x. walked (of_marker a.version (epoch_from a.reader.proof.now a.reader.at 1)) (walked (lack (InOld a.version)) x)) e

pub returns-in_err-reader-2 : goal.returns-in_err-reader-2
returns-in_err-reader-2 c =
    let a = c.args in
    let p = err_from_is_err_and c.from_residual-in_err-reader-2.result c.from_residual-in_err-reader-2.ensures.1 in
    let e = ap (λ x. stepped x c.in_ok-reader.reader) (sym c.missing-2.ensures) ∙ sym c.take-3.ensures.is ∙ c.in_err-reader-2.was in
    rw (p.1, p.2)
    (sym (behind (goal.at.returns-in_err-reader-2 c).In_ok-reader ∙ ap (walked (of_marker a.version (epoch_from a.reader.proof.now a.reader.at 1))) e))

pub returns : goal.returns
returns c =
    let a = c.args in
    let s = a.reader.proof.now in
    let e = ap (λ x. stepped x c.in_ok-reader.reader) (sym c.missing-2.ensures) ∙ sym c.take-3.ensures.is ∙ c.in_ok-reader-2.was in
    let epoch = leaf-epoch s a.reader.at 0 a.reader.at c.leaf_at-leaf.result (place_none s a.reader.at) c.leaf_at-leaf.ensures in
    let asked = c.present-2.ensures ∙ rw (epoch, marker-shift 64 a.version _ (omega arith) (omega (arith, c.ranges.version)) c.marker_of-marker.ensures, c.marker_of-marker.ensures) in
    c.take-4.ensures.is ∙ ap (λ x. stepped x c.in_ok-reader-2.reader) asked
    ∙ sym (behind (goal.at.returns c).In_ok-reader ∙ ap (walked (of_marker a.version (epoch_from s a.reader.at 1))) e)
