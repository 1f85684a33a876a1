-- `batch::in_form`: the tests are those of the layout; an opening is any bytes.
use mathlib.Core.Path.{◌≡◌, sym, ap, ◌∙◌}
use mathlib.Core.Bool.{true}
use Rattle.paper.specs.Bytes.{Bytewise}
use Rattle.paper.specs.Fields.{is_name}
use Rattle.ranges.proofs.Slices.{bytewise}
use Rattle.batch.proofs.Form.{name_formed, key_formed, formed-nameless, formed-keyless, formed-name, lies-by}
use Rattle.batch.proofs.in_form.Goals as goal
use Rattle.batch.proofs.in_form.Goals.{After-shared_slice_known-1, Else-not-filled-2}

bytes : (c : After-shared_slice_known-1) → Bytewise c.args.s.now
bytes c = bytewise c.args.s.now c.type_inv.s

pub returns-then-not-filled : goal.returns-then-not-filled
returns-then-not-filled c =
    sym (formed-nameless c.args.s.now c.args.i (bytes (goal.at.returns-then-not-filled c).After-shared_slice_known-1) c.requires (sym c.filled.ensures ∙ c.if-not-filled.true))

pub returns-then-not-filled-2 : goal.returns-then-not-filled-2
returns-then-not-filled-2 c =
    sym (formed-keyless c.args.s.now c.args.i (bytes (goal.at.returns-then-not-filled-2 c).After-shared_slice_known-1) c.requires (sym c.filled-2.ensures ∙ c.if-not-filled-2.true))

-- name and key are in layout
name-formed : (c : Else-not-filled-2) → name_formed c.args.s.now c.args.i ≡ true
name-formed c = sym c.filled.ensures ∙ c.if-not-filled.false

key-formed : (c : Else-not-filled-2) → key_formed c.args.s.now c.args.i ≡ true
key-formed c = sym c.filled-2.ensures ∙ c.if-not-filled-2.false

pub name_in-requires : goal.name_in-requires
name_in-requires c =
    lies-by c.args.s.now c.args.i (bytes (goal.at.name_in-requires c).After-shared_slice_known-1) c.requires (name-formed c)

pub returns : goal.returns
returns c =
    c.is_name.ensures ∙ ap is_name c.name_in.ensures.bytes ∙ sym (formed-name c.args.s.now c.args.i (bytes (goal.at.returns c).After-shared_slice_known-1) c.requires (name-formed (goal.at.returns c).Else-not-filled-2) (key-formed (goal.at.returns c).Else-not-filled-2))
