-- `checks::check`: each test is the next of document 01's order.
use native.Mathlib.Omega.{arith}
use mathlib.Core.Path.{◌≡◌, sym, ap, ap₂, ◌∙◌}
use mathlib.Core.Bool.{true}
use mathlib.Core.Logic.{inl, inr}
use Prim.Native.Nat.{◌+◌}
use lib.ListN.{length}
use Rattle.std.specs.Prelude.{Some, Ok, Err}
use Rattle.std.proofs.lemmas.Result.{err_from_is_err_and}
use Rattle.paper.specs.Numbers.{FORM}
use Rattle.paper.specs.Bytes.{Bytewise}
use Rattle.paper.specs.Fields.{is_name}
use Rattle.plan.specs.Asked.{asked_by}
use Rattle.plan.specs.declared.Plan.{Plan}
use Rattle.plan.specs.Kinds.{kind_number, keys_in}
use Rattle.ranges.proofs.Slices.{bytewise}
use Rattle.shown.specs.Form.{front_at, first_path}
use Rattle.names.proofs.Named.{name-short}
use Rattle.shown.proofs.Fronts.{front-told}
use Rattle.shown.proofs.Formed.{Formed, formed}
use Rattle.walks.specs.Walk.{walks}
use Rattle.walks.proofs.Walked.{or-there, or-none, over, reader}
use Rattle.rows.specs.Rows.{rows_ask}
use Rattle.checks.proofs.Checked.{keys-few, accepted, input-refused, no_front, no_body, head-refused, keys-stand, answered}
use Rattle.checks.proofs.check.Goals as goal
use Rattle.checks.proofs.check.Goals.{In_ok-number, In_ok-first, After-first_path, After-take_rows, then-head-ne32-via-then-head-ne32, then-head-ne32-via-else-head-ne32+then-not-is_name}

-- ---- 1: the arguments
pub returns-then-head-ne32 : goal.returns-then-head-ne32
returns-then-head-ne32 c =
    let a = c.args in
    sym (input-refused a.kind a.head.now a.name a.proof (elim c.then-head-ne32.branch [ then-head-ne32-via-then-head-ne32 w ↦ inl w.if-head-ne32.true | then-head-ne32-via-else-head-ne32+then-not-is_name w ↦ inr (sym w.is_name.ensures ∙ w.if-not-is_name.true) ]))

-- ---- 2: the layout
pub returns-in_err-number : goal.returns-in_err-number
returns-in_err-number c =
    let a = c.args in
    let p = err_from_is_err_and c.from_residual.result c.from_residual.ensures.1 in
    let (n, f) = or-none c.read_front.result FORM _ (sym c.ok_or.ensures.value ∙ c.in_err-number.was) in
    rw (p.1, p.2, f)
    (sym (no_front a.kind a.head.now a.name a.proof c.if-head-ne32.false (sym c.is_name.ensures ∙ c.if-not-is_name.false) (bytewise a.proof.now c.type_inv.proof)
    (ap (λ k. front_at k a.proof.now) (sym c.number.ensures) ∙ sym c.read_front.ensures ∙ n)))

sized : (c : In_ok-number) → length c.args.head.now ≡ 32
sized c = c.if-head-ne32.false

named : (c : In_ok-number) → is_name c.args.name.now ≡ true
named c = sym c.is_name.ensures ∙ c.if-not-is_name.false

bytes : (c : In_ok-number) → Bytewise c.args.proof.now
bytes c = bytewise c.args.proof.now c.type_inv.proof

front : (c : In_ok-number) → front_at (kind_number c.args.kind) c.args.proof.now ≡ Some c.in_ok-number.field-0
front c =
    ap (λ k. front_at k c.args.proof.now) (sym c.number.ensures) ∙ sym c.read_front.ensures ∙ or-there c.read_front.result FORM _ (sym c.ok_or.ensures.value ∙ c.in_ok-number.was)

pub first_path-requires : goal.first_path-requires
first_path-requires c =
    let o = (goal.at.first_path-requires c).In_ok-number in
    (front-told (kind_number c.args.kind) c.args.proof.now (bytes o) _ _ (front o)).room

-- as many keys and paths are looked for as there are
placed : (c : After-first_path) →
    let n = c.in_ok-number.field-0.number in
    let t = c.in_ok-number.field-0.epoch in
    c.first_path.result ≡ first_path (keys_in c.args.kind n) (length (asked_by c.args.kind n t)) c.args.proof.now
placed c = c.first_path.ensures ∙ ap₂ (λ k m. first_path k m c.args.proof.now) c.keys.ensures c.paths.ensures

pub returns-in_err-first : goal.returns-in_err-first
returns-in_err-first c =
    let a = c.args in
    let o = (goal.at.returns-in_err-first c).In_ok-number in
    let p = err_from_is_err_and c.from_residual-in_err-first.result c.from_residual-in_err-first.ensures.1 in
    let (n, f) = or-none c.first_path.result FORM _ (sym c.ok_or-2.ensures.value ∙ c.in_err-first.was) in
    rw (p.1, p.2, f)
    (sym (no_body a.kind a.head.now a.name a.proof (sized o) (named o) (bytes o) _ _ (front o) (sym (placed (goal.at.returns-in_err-first c).After-first_path) ∙ n)))

-- the proof is in layout
form : (c : In_ok-first) →
    Formed (kind_number c.args.kind) (keys_in c.args.kind) (asked_by c.args.kind) c.args.proof.now (bytes (goal.at.In_ok-first c).In_ok-number) c.in_ok-number.field-0.number c.in_ok-number.field-0.epoch
    (front (goal.at.In_ok-first c).In_ok-number) c.in_ok-first.first
form c =
    let o = (goal.at.In_ok-first c).In_ok-number in
    formed (kind_number c.args.kind) (keys_in c.args.kind) (asked_by c.args.kind) c.args.proof.now (bytes o) _ _ (front o) _
    (sym (placed (goal.at.In_ok-first c).After-first_path) ∙ or-there c.first_path.result FORM _ (sym c.ok_or-2.ensures.value ∙ c.in_ok-first.was))

-- ---- 3: the head, and then the paths
pub head_hashes-requires : goal.head_hashes-requires
head_hashes-requires c =
    let o = (goal.at.head_hashes-requires c).In_ok-number in
    omega (arith, (front-told (kind_number c.args.kind) c.args.proof.now (bytes o) _ _ (front o)).room)

pub returns-then-not-head_hashes : goal.returns-then-not-head_hashes
returns-then-not-head_hashes c =
    let a = c.args in
    let o = (goal.at.returns-then-not-head_hashes c).In_ok-number in
    sym (head-refused a.kind a.head.now a.name a.proof (sized o) (named o) (bytes o) _ _ (front o) _ (form (goal.at.returns-then-not-head_hashes c).In_ok-first) (sym c.head_hashes.ensures ∙ c.if-not-head_hashes.true))

pub take_rows-requires : goal.take_rows-requires
take_rows-requires c =
    let a = c.args in
    let o = (goal.at.take_rows-requires c).In_ok-number in
    let t = front-told (kind_number a.kind) a.proof.now (bytes o) _ _ (front o) in
    record {
      front = omega (arith, t.room);
      short = name-short a.name.now (named o);
      small = t.small;
      items = keys-stand a.kind a.head.now a.name a.proof (sized o) (named o) (bytes o) _ _ (front o) _ (form (goal.at.take_rows-requires c).In_ok-first);
      few = omega (arith, c.keys-2.ensures, keys-few a.kind c.in_ok-number.field-0.number t.small);
    }

-- all paths, behind what is counted before them
walked : (c : After-take_rows) →
    let a = c.args in
    let n = c.in_ok-number.field-0.number in
    c.take_rows.result ≡ walks (rows_ask a.proof.now c.in_ok-first.first (record { kind = a.kind; number = n; epoch = c.in_ok-number.field-0.epoch })) (Ok (reader a.proof a.name c.in_ok-first.first (1 + keys_in a.kind n)))
walked c =
    let a = c.args in
    let plan : Plan = record { kind = a.kind; number = c.in_ok-number.field-0.number; epoch = c.in_ok-number.field-0.epoch } in
    c.take_rows.ensures ∙ ap (λ d. walks (rows_ask a.proof.now c.in_ok-first.first plan) (Ok (reader a.proof a.name c.in_ok-first.first (1 + d)))) c.keys-2.ensures

pub returns-in_err-digests : goal.returns-in_err-digests
returns-in_err-digests c =
    let a = c.args in
    let o = (goal.at.returns-in_err-digests c).In_ok-number in
    let p = err_from_is_err_and c.from_residual-in_err-digests.result c.from_residual-in_err-digests.ensures.1 in
    rw (p.1, p.2)
    (ap (over Err (accepted c.in_ok-number.field-0.number c.in_ok-number.field-0.epoch)) (sym c.in_err-digests.was ∙ walked (goal.at.returns-in_err-digests c).After-take_rows)
    ∙ sym (answered a.kind a.head.now a.name a.proof (sized o) (named o) (bytes o) _ _ (front o) _ (form (goal.at.returns-in_err-digests c).In_ok-first) (sym c.head_hashes.ensures ∙ c.if-not-head_hashes.false)))

pub returns : goal.returns
returns c =
    let a = c.args in
    let o = (goal.at.returns c).In_ok-number in
    ap (over Err (accepted c.in_ok-number.field-0.number c.in_ok-number.field-0.epoch)) (sym c.in_ok-digests.was ∙ walked (goal.at.returns c).After-take_rows)
    ∙ sym (answered a.kind a.head.now a.name a.proof (sized o) (named o) (bytes o) _ _ (front o) _ (form (goal.at.returns c).In_ok-first) (sym c.head_hashes.ensures ∙ c.if-not-head_hashes.false))
