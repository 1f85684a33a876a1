-- `path_form::ends::other_leaf`: where the 68 bytes are there, their parts are the end's fields.
use borrow.Author.Rules.{rules}
use mathlib.Core.Path.{refl, sym, ap, ◌∙◌}
use lib.ListN.{take}
use lib.Seq.{drop-drop}
use Rattle.paper.specs.Bytes.{number}
use Rattle.paper.specs.Fields.{end_of}
use Rattle.path_form.proofs.Fields.{other-flat}
use Rattle.ranges.proofs.Slices.{bytewise}
use Rattle.path_form.proofs.Ending.{ended-yes, ended-short}
use Rattle.path_form.proofs.ends.other_leaf.Goals as goal

pub returns-then-s-at-lt68 : goal.returns-then-s-at-lt68
returns-then-s-at-lt68 c m =
    let a = c.args in
    let s = a.s.now in
    sym (ended-short (end_of m 1) (other-flat m) s a.at a.at (bytewise s c.type_inv.s) (search rules) (search rules))

pub returns : goal.returns
returns c m =
    let a = c.args in
    let s = a.s.now in
    let e = c.read32-epoch.ensures ∙ ap (λ t. number (take 4 t)) (sym (drop-drop 64 a.at s)) in
    rw e (sym (ended-yes (end_of m 1) (other-flat m) s a.at a.at (bytewise s c.type_inv.s) (search rules) refl))
