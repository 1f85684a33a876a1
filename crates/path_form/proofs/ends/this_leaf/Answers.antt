-- `path_form::ends::this_leaf`: where the 36 bytes are there, their parts are the end's fields.
use borrow.Author.Rules.{rules}
use mathlib.Core.Path.{refl, sym, ap, ◌∙◌}
use lib.ListN.{take}
use lib.Seq.{drop-drop}
use Rattle.paper.specs.Bytes.{number}
use Rattle.paper.specs.Fields.{end_of}
use Rattle.path_form.proofs.Fields.{this-flat}
use Rattle.ranges.proofs.Slices.{bytewise}
use Rattle.path_form.proofs.Ending.{ended-yes, ended-short}
use Rattle.path_form.proofs.ends.this_leaf.Goals as goal

pub returns-then-s-at-lt36 : goal.returns-then-s-at-lt36
returns-then-s-at-lt36 c m =
    let a = c.args in
    let s = a.s.now in
    sym (ended-short (end_of m 0) (this-flat m) s a.at a.at (bytewise s c.type_inv.s) (search rules) (search rules))

pub returns : goal.returns
returns c m =
    let a = c.args in
    let s = a.s.now in
    let e = c.read32-epoch.ensures ∙ ap (λ t. number (take 4 t)) (sym (drop-drop 32 a.at s)) in
    rw (e, c.digest_at.ensures)
    (sym (ended-yes (end_of m 0) (this-flat m) s a.at a.at (bytewise s c.type_inv.s) (search rules) refl))
