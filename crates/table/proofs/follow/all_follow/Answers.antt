-- `table::follow::all_follow`: the records passed are in layout, in shape and in the index.
use native.Mathlib.Omega.{arith}
use native.Mathlib.Numerals.{add-one}
use mathlib.Core.Path.{◌≡◌, sym, ◌∙◌}
use mathlib.Core.Bool.{true}
use Prim.Native.Nat.{◌+◌, ◌<◌}
use Rattle.paper.specs.Bytes.{Bytewise}
use Rattle.paper.specs.Labelling.{plain}
use Rattle.paper.specs.Table.{follows}
use Rattle.record.specs.Places.{record_at, records_in, Stands}
use Rattle.ranges.proofs.Slices.{bytewise}
use Rattle.record_form.proofs.Formed.{formed, formed-stands}
use Rattle.table.specs.Index.{Indexed, Unlinked}
use Rattle.table.specs.Shape.{Reached}
use Rattle.table.proofs.Walk.{stands-more, of-table, of-index}
use Rattle.table.proofs.Shapes.{passed_none, passed-more, form-fails, rule-fails, all_pass}
use Rattle.table.proofs.follow.all_follow.Goals as goal
use Rattle.table.proofs.follow.all_follow.Goals.{After-does_follow, At-loop-i, Else-not-in_form}

bytes : (c : At-loop-i) → Bytewise c.args.s.now
bytes c = bytewise c.args.s.now c.type_inv.s

pub loop-i-init : goal.loop-i-init
loop-i-init c =
    let (own, loose, same, none) = c.new-index.ensures in
    (omega arith, of-table c.new-index.result same none (λ s n. Indexed s n c.new-index.result) own, passed_none c.args.s.now c.args.epoch, loose, same, none)

pub returns-then-not-in_form : goal.returns-then-not-in_form
returns-then-not-in_form c =
    form-fails c.args.s.now (bytes (goal.at.returns-then-not-in_form c).At-loop-i) c.args.n c.requires.0 c.args.epoch c.loop-i.i (omega arith) (sym c.in_form.ensures ∙ c.if-not-in_form.true)

-- record i is in layout, so it stands
form : (c : Else-not-in_form) → (formed c.args.s.now c.loop-i.i ≡ true) × Stands c.args.s.now c.loop-i.i
form c =
    let e = sym c.in_form.ensures ∙ c.if-not-in_form.false in
    (e, formed-stands c.args.s.now c.loop-i.i (bytes (goal.at.Else-not-in_form c).At-loop-i) (omega (arith, c.requires.0)) e)

pub does_follow-requires : goal.does_follow-requires
does_follow-requires c =
    let h = c.loop-i.invariant in
    let x = c.loop-i.index in
    of-index x h.4 h.5 (λ s n. Reached s n c.args.epoch × Indexed s n x) (record { shape = h.2.shape; stands = stands-more h.1 (form (goal.at.does_follow-requires c).Else-not-in_form).1 }, h.1)

-- the rules were asked of record i
ruled : (c : After-does_follow) → c.does_follow.result ≡ follows plain c.args.epoch (records_in c.loop-i.i c.args.s.now) (record_at c.args.s.now c.loop-i.i)
ruled c = let h = c.loop-i.invariant in of-table c.loop-i.index h.4 h.5 (λ s n. c.does_follow.result ≡ follows plain c.args.epoch (records_in n s) (record_at s n)) c.does_follow.ensures

pub returns-then-not-does_follow : goal.returns-then-not-does_follow
returns-then-not-does_follow c =
    rule-fails c.args.s.now (bytes (goal.at.returns-then-not-does_follow c).At-loop-i) c.args.n c.requires.0 c.args.epoch c.loop-i.i (omega arith) (sym (ruled (goal.at.returns-then-not-does_follow c).After-does_follow) ∙ c.if-not-does_follow.true)

pub enter-requires : goal.enter-requires
enter-requires c =
    let h = c.loop-i.invariant in
    let x = c.loop-i.index in
    of-index x h.4 h.5 (λ s n. Indexed s n x × Stands s n × (n < 4096) × Unlinked n x) (h.1, (form (goal.at.enter-requires c).Else-not-in_form).1, omega (arith, c.requires.1), h.3)

pub loop-i-preserved : goal.loop-i-preserved
loop-i-preserved c =
    let p = passed-more c.args.s.now c.loop-i.i c.args.epoch c.loop-i.invariant.2 (form (goal.at.loop-i-preserved c).Else-not-in_form).0 (sym (ruled (goal.at.loop-i-preserved c).After-does_follow) ∙ c.if-not-does_follow.false) in
    let (own, loose, same, more) = c.enter.ensures in
    let s = same ∙ c.loop-i.invariant.4 in
    let n : c.enter.new.self.count ≡ c.loop-i.i + 1 = omega (arith, more, c.loop-i.invariant.5) in
    let x = c.enter.new.self in
    (omega arith, of-table x s n (λ s n. Indexed s n x) own, rw (add-one c.loop-i.i) p, of-table x s n (λ s n. Unlinked n x) loose, s, n)

pub returns : goal.returns
returns c =
    let e : c.loop-i.i ≡ c.args.n = omega (arith, c.loop-i.invariant.0) in
    let h = c.loop-i.invariant in
    all_pass c.args.s.now (bytes (goal.at.returns c).At-loop-i) c.args.n c.requires.0 c.args.epoch c.loop-i.index h.4 (h.5 ∙ e) (rw e at h.2) (rw e at h.1) (rw e at h.3)
