-- `path::absence::shows`: each kind of end by its rule, under the last step's length.
use borrow.Author.Rules.{rules}
use native.Mathlib.Omega.{arith}
use mathlib.Core.Path.{◌≡◌, sym, ap, ◌∙◌, subst}
use Prim.Native.Nat.{◌-◌, ◌≤◌}
use lib.ListN.{length}
use Rattle.paper.specs.Path.{absent}
use Rattle.path_form.specs.Places.{commitment_of, end_in, EndStands}
use Rattle.path_form.specs.declared.End.{End}
use Rattle.path_form.proofs.Steps.{last-at}
use Rattle.path.proofs.Parting.{other-shows, off-shows}
use Rattle.path.proofs.absence.shows.Goals as goal
use Rattle.path.proofs.absence.shows.Goals.{After-last_length-k, Start}

-- the end stands, whichever it is
ending : (c : After-last_length-k) (e : End) → c.args.path.«end» ≡ e → EndStands c.args.s.now e
ending c e h = subst (EndStands c.args.s.now) h c.requires.last

size : (c : Start) → length c.args.label ≡ 32
size c = search rules

-- the last step's prefix is one of a label
short : (c : After-last_length-k) → c.last_length-k.result ≤ 255
short c =
    let a = c.args in
    let p = c.requires in
    omega (arith, c.last_length-k.ensures, last-at a.s.now a.path.steps a.path.count p.some, (p.each (a.path.count - 1) (omega (arith, p.some))).short)

pub parts-requires : goal.parts-requires
parts-requires c = let h = ending (goal.at.parts-requires c).After-last_length-k _ c.in-Other.is in omega arith

pub overflow_add-at : goal.overflow_add-at
overflow_add-at c = let h = ending (goal.at.overflow_add-at c).After-last_length-k _ c.in-Off.is in omega arith

pub read16-requires : goal.read16-requires
read16-requires c = let h = ending (goal.at.read16-requires c).After-last_length-k _ c.in-Off.is in omega arith

pub parts-requires-in-Off : goal.parts-requires-in-Off
parts-requires-in-Off c = let h = ending (goal.at.parts-requires-in-Off c).After-last_length-k _ c.in-Off.is in omega arith

pub returns-in-This : goal.returns-in-This
returns-in-This c =
    let a = c.args in
    let q = c.requires.shown ∙ ap (λ e. commitment_of (end_in a.s.now e)) c.in-This.is in
    rw (c.in-This.is, q)

pub returns-in-Other : goal.returns-in-Other
returns-in-Other c =
    let a = c.args in
    let e = c.in-Other.is in
    c.parts.ensures
    ∙ sym (rw (e, ← c.last_length-k.ensures) (other-shows a.s.now a.label c.last_length-k.result (size (goal.at.returns-in-Other c).Start) (short (goal.at.returns-in-Other c).After-last_length-k) _ _ (ending (goal.at.returns-in-Other c).After-last_length-k _ e)))

pub returns-in-Off : goal.returns-in-Off
returns-in-Off c =
    let a = c.args in
    let e = c.in-Off.is in
    c.parts-in-Off.ensures
    ∙ rw c.read16.ensures
    (sym (rw (e, ← c.last_length-k.ensures) (off-shows a.s.now a.label c.last_length-k.result (size (goal.at.returns-in-Off c).Start) (short (goal.at.returns-in-Off c).After-last_length-k) _ (ending (goal.at.returns-in-Off c).After-last_length-k _ e))))

pub returns-in-Nothing : goal.returns-in-Nothing
unfolding absent
returns-in-Nothing c = rw c.in-Nothing.is
