-- `lay_audit::lay_audit`: the lists are counted, and the proof is written if it has room.
use borrow.Author.Tests.{not-true, not-false, leb-true, leb-false}
use native.Mathlib.Omega.{arith}
use mathlib.Core.Path.{◌≡◌, refl, sym, ap₂, ◌∙◌}
use mathlib.Core.Bool.{true}
use Prim.Native.Nat.{◌+◌, ◌*◌, ◌≤◌}
use lib.ListN.{length}
use Rattle.paper.specs.Bytes.{Bytes}
use Rattle.leaf_row.specs.Row.{as_nodes}
use Rattle.paper.specs.Answer.{written}
use Rattle.tested.proofs.Weighed.{no_room, wrote}
use Rattle.lay_audit.specs.Audited.{bytes_with}
use Rattle.lay_audit.proofs.Bytes.{rows-size, lent-few}
use Rattle.lay_audit.proofs.lay_audit.Goals as goal
use Rattle.lay_audit.proofs.lay_audit.Goals.{After-list_length-first, After-list_length-second, Else-not-has_room}

-- "audit records per tree | 0 to 16,384"
few : (c : After-list_length-first) → c.list_length-first.result ≤ 16384
few c =
    let a = c.args in
    omega (arith, c.list_length-first.ensures, lent-few a.epoch a.all.now c.are_leaves.ensures c.requires.1)

few-2 : (c : After-list_length-second) → c.list_length-second.result ≤ 16384
few-2 c =
    let a = c.args in
    omega (arith, c.list_length-second.ensures, lent-few a.epoch a.old.now c.are_leaves-2.ensures c.requires.2)

pub list_length-first-requires : goal.list_length-first-requires
list_length-first-requires c = c.requires.1.tree.rises

pub list_length-second-requires : goal.list_length-second-requires
list_length-second-requires c = c.requires.2.tree.rises

pub overflow_mul-first : goal.overflow_mul-first
overflow_mul-first c = omega (arith, few c)

pub overflow_mul-second : goal.overflow_mul-second
overflow_mul-second c = omega (arith, few-2 c)

abbrev proof : After-list_length-second → Bytes
proof c = let a = c.args in bytes_with a.heads.now a.epoch (as_nodes a.all.now.leaves.now) (as_nodes a.old.now.leaves.now)

-- its length
size : (c : After-list_length-second) → length (proof c) ≡ 214 + c.list_length-first.result * 99 + c.list_length-second.result * 99
size c =
    let a = c.args in
    omega (arith, rows-size a.heads.now a.epoch (as_nodes a.all.now.leaves.now) (as_nodes a.old.now.leaves.now) c.requires.0 (record { sized = c.are_leaves.ensures; rises = c.requires.1.tree.rises }) (record { sized = c.are_leaves-2.ensures; rises = c.requires.2.tree.rises }), c.list_length-first.ensures, c.list_length-second.ensures)

pub returns-then-not-has_room : goal.returns-then-not-has_room
returns-then-not-has_room c =
    let a = c.args in
    let e = sym c.has_room.ensures ∙ not-true c.has_room.result c.if-not-has_room.true-raw in
    let f = leb-false (214 + c.list_length-first.result * 99 + c.list_length-second.result * 99) (length a.out.now) e in
    sym (no_room a.state a.out.now true (proof (goal.at.returns-then-not-has_room c).After-list_length-second) refl (omega (arith, size (goal.at.returns-then-not-has_room c).After-list_length-second, f)))

-- it has room
fits : (c : Else-not-has_room) → length (proof (goal.at.Else-not-has_room c).After-list_length-second) ≤ length c.args.out.now
fits c =
    let a = c.args in
    omega (arith, size (goal.at.Else-not-has_room c).After-list_length-second, leb-true (214 + c.list_length-first.result * 99 + c.list_length-second.result * 99) (length a.out.now) (sym c.has_room.ensures ∙ not-false c.has_room.result c.if-not-has_room.false-raw))

pub lay-requires : goal.lay-requires
lay-requires c = (c.requires.0, c.requires.1, c.requires.2, fits (goal.at.lay-requires c).Else-not-has_room)

pub overflow_add-result : goal.overflow_add-result
overflow_add-result c = omega (arith, few (goal.at.overflow_add-result c).After-list_length-first, few-2 (goal.at.overflow_add-result c).After-list_length-second)

pub overflow_add-result-2 : goal.overflow_add-result-2
overflow_add-result-2 c = omega (arith, few (goal.at.overflow_add-result-2 c).After-list_length-first, few-2 (goal.at.overflow_add-result-2 c).After-list_length-second)

pub returns : goal.returns
returns c =
    let a = c.args in
    let whole = wrote a.state a.out.now true (proof (goal.at.returns c).After-list_length-second) refl (fits (goal.at.returns c).Else-not-has_room) in
    sym (whole ∙ ap₂ (λ x (o : Bytes). record { answer = written x a.state; out = o }) (size (goal.at.returns c).After-list_length-second) (sym c.lay.ensures))
