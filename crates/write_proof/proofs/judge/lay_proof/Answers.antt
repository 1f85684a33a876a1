-- `write_proof::judge::lay_proof`: the paths are measured, and the proof is laid if it has room.
use borrow.Author.Tests.{leb-true, leb-false}
use native.Mathlib.Omega.{arith}
use mathlib.Core.Path.{◌≡◌, refl, sym, ap, ap₂, ◌∙◌, subst}
use mathlib.Core.Bool.{true}
use mathlib.Core.List.{List}
use Prim.Native.Nat.{◌+◌, ◌*◌, ◌≤◌}
use lib.ListN.{length}
use Rattle.paper.specs.Lists.{every}
use Rattle.paper.specs.Bytes.{Bytes}
use Rattle.paper.specs.Strings.{Node}
use Rattle.paper.specs.Tree.{root_digest}
use Rattle.paper.specs.Shows.{Item}
use Rattle.paper.specs.Answer.{written}
use Rattle.plan.specs.Asked.{asked_of}
use Rattle.plan.specs.declared.Plan.{Plan}
use Rattle.paths.specs.Paths.{free_for, all_of, old_of}
use Rattle.front.specs.Front.{items_from}
use Rattle.tested.specs.Tested.{weighed}
use Rattle.tested.proofs.First.{heads-reach}
use Rattle.tested.proofs.Weighed.{clash, no_room, wrote}
use Rattle.write_proof.specs.Judged.{bytes_with, judged}
use Rattle.write_proof.proofs.Bytes.{before-size, root-wide, with_size, laid-all, asked-few, from-within, judged-is}
use Rattle.write_proof.proofs.judge.lay_proof.Goals as goal
use Rattle.write_proof.proofs.judge.lay_proof.Goals.{After-find-from, After-items_size-keys, Else-not-has_room, In-Some}

abbrev first-leaves : After-find-from → List Node
first-leaves c = all_of c.args.trees.now

abbrev second-leaves : After-find-from → List Node
second-leaves c = old_of c.args.trees.now

abbrev plan : After-find-from → Plan
plan c = record { kind = c.args.kind; number = c.find-from.result.number; epoch = c.args.epoch }

abbrev items : After-find-from → List Item
items c = items_from c.args.records.now c.args.name.now c.args.epoch c.find-from.result.from c.args.state.count

abbrev proof : After-find-from → Bytes
proof c = bytes_with c.args.heads.now c.args.name.now (first-leaves c) (second-leaves c) (items c) (plan c)

-- what is weighed here is what is judged
weighs : (c : After-find-from) → let a = c.args in
    weighed a.state a.out.now (every (free_for a.name.now (first-leaves c) (second-leaves c)) (asked_of (plan c))) (proof c)
    ≡ judged a.kind a.records.now a.heads.now a.state a.out.now a.name.now a.epoch (first-leaves c) (second-leaves c)
weighs c =
    let a = c.args in
    judged-is a.kind a.records.now a.heads.now a.state a.out.now a.name.now a.epoch (first-leaves c) (second-leaves c) c.find-from.result c.find-from.ensures

pub measure_paths-requires : goal.measure_paths-requires
measure_paths-requires c = (record { all = c.requires.1.all.rises; old = c.requires.1.old.rises; short = c.requires.1.short }, asked-few (plan c) (omega (arith, c.find-from.type_inv.1)))

pub returns-in_default : goal.returns-in_default
returns-in_default c =
    let a = c.args in
    sym (clash a.state a.out.now _ (proof (goal.at.returns-in_default c).After-find-from) c.in_default.ensures) ∙ weighs (goal.at.returns-in_default c).After-find-from

-- no label to be shown absent is there
free : (c : In-Some) →
    every (free_for c.args.name.now (first-leaves (goal.at.In-Some c).After-find-from) (second-leaves (goal.at.In-Some c).After-find-from)) (asked_of (plan (goal.at.In-Some c).After-find-from)) ≡ true
free c = c.in-Some.ensures.0

within : (c : After-find-from) → c.find-from.result.from ≤ c.args.state.count
within c =
    let a = c.args in
    subst (λ f. f ≤ a.state.count) (sym (ap (λ r. r.from) c.find-from.ensures)) (from-within a.records.now a.name.now a.epoch a.state.count a.kind)

reach : (c : After-find-from) → c.args.epoch * 32 ≤ length c.args.heads.now
reach c = let a = c.args in heads-reach a.records.now a.heads.now a.state a.epoch c.requires.0

pub items_size-keys-requires : goal.items_size-keys-requires
items_size-keys-requires c = (c.requires.0.shaped.stands, within (goal.at.items_size-keys-requires c).After-find-from)

-- the proof's length
size : (c : After-items_size-keys) → length (proof (goal.at.After-items_size-keys c).After-find-from) ≡ 108 + c.items_size-keys.result + c.in-Some.paths
size c =
    let a = c.args in
    with_size a.heads.now a.name.now (first-leaves (goal.at.After-items_size-keys c).After-find-from) (second-leaves (goal.at.After-items_size-keys c).After-find-from) (items (goal.at.After-items_size-keys c).After-find-from) (plan (goal.at.After-items_size-keys c).After-find-from) (reach (goal.at.After-items_size-keys c).After-find-from) ∙ ap₂ (λ x y. 108 + x + y) (sym c.items_size-keys.ensures) (sym c.in-Some.ensures.1)

pub returns-then-not-has_room : goal.returns-then-not-has_room
returns-then-not-has_room c =
    let a = c.args in
    let e = sym c.has_room.ensures ∙ c.if-not-has_room.true in
    let l = leb-false (108 + c.items_size-keys.result + c.in-Some.paths) (length a.out.now) e in
    sym (no_room a.state a.out.now _ (proof (goal.at.returns-then-not-has_room c).After-find-from) (free (goal.at.returns-then-not-has_room c).In-Some) (omega (arith, size (goal.at.returns-then-not-has_room c).After-items_size-keys, l))) ∙ weighs (goal.at.returns-then-not-has_room c).After-find-from

-- it has room
fits : (c : Else-not-has_room) →
    108 + c.items_size-keys.result + c.in-Some.paths ≤ length c.args.out.now
fits c =
    leb-true (108 + c.items_size-keys.result + c.in-Some.paths) (length c.args.out.now) (sym c.has_room.ensures ∙ c.if-not-has_room.false)

pub lay_before-next-requires : goal.lay_before-next-requires
lay_before-next-requires c =
    (record { stand = c.requires.0.shaped.stands; within = within (goal.at.lay_before-next-requires c).After-find-from; reach = reach (goal.at.lay_before-next-requires c).After-find-from }, c.requires.1, omega (arith, c.items_size-keys.ensures, fits (goal.at.lay_before-next-requires c).Else-not-has_room))

pub write_paths-length-requires : goal.write_paths-length-requires
write_paths-length-requires c =
    let a = c.args in
    let s = before-size a.heads.now (root_digest (all_of a.trees.now)) (root_digest (old_of a.trees.now)) (items (goal.at.write_paths-length-requires c).After-find-from) (plan (goal.at.write_paths-length-requires c).After-find-from) (reach (goal.at.write_paths-length-requires c).After-find-from) (root-wide _) (root-wide _) in
    (c.requires.1, omega (arith, s, c.lay_before-next.ensures.behind, c.lay_before-next.auto.out, c.items_size-keys.ensures, c.in-Some.ensures.1, fits (goal.at.write_paths-length-requires c).Else-not-has_room))

pub returns : goal.returns
returns c =
    let a = c.args in
    let laid = laid-all a.heads.now a.name.now (first-leaves (goal.at.returns c).After-find-from) (second-leaves (goal.at.returns c).After-find-from) (items (goal.at.returns c).After-find-from) (plan (goal.at.returns c).After-find-from) (reach (goal.at.returns c).After-find-from) _ _ a.out.now c.lay_before-next.new.out _ c.lay_before-next.result c.write_paths-length.result refl refl c.lay_before-next.ensures c.write_paths-length.ensures in
    let length-is : length (proof (goal.at.returns c).After-find-from) ≡ c.write_paths-length.result = omega (arith, laid.behind) in
    let whole = wrote a.state a.out.now _ (proof (goal.at.returns c).After-find-from) (free (goal.at.returns c).In-Some) (omega (arith, size (goal.at.returns c).After-items_size-keys, fits (goal.at.returns c).Else-not-has_room)) in
    sym (whole ∙ ap₂ (λ x (o : Bytes). record { answer = written x a.state; out = o }) length-is (sym laid.laid)) ∙ weighs (goal.at.returns c).After-find-from
