-- `path_form::ends::other_inner`: where the 98 bytes are there and the prefix is good, their parts are the end's fields.
use borrow.Author.Rules.{rules}
use mathlib.Core.Path.{sym, ◌∙◌}
use Rattle.paper.specs.Fields.{end_of}
use Rattle.path_form.proofs.Fields.{off-flat}
use Rattle.ranges.proofs.Slices.{bytewise}
use Rattle.path_form.proofs.Ending.{ended-yes, ended-short, ended-no}
use Rattle.path_form.proofs.ends.other_inner.Goals as goal

pub returns-then-s-at-lt98 : goal.returns-then-s-at-lt98
returns-then-s-at-lt98 c m =
    let a = c.args in
    let s = a.s.now in
    sym (ended-short (end_of m 2) (off-flat m) s a.at a.at (bytewise s c.type_inv.s) (search rules) (search rules))

pub returns-then-not-prefix_good : goal.returns-then-not-prefix_good
returns-then-not-prefix_good c m =
    let a = c.args in
    let s = a.s.now in
    sym (ended-no (end_of m 2) (off-flat m) s a.at a.at (bytewise s c.type_inv.s)
    (sym c.prefix_good.ensures ∙ c.if-not-prefix_good.true))

pub returns : goal.returns
returns c m =
    let a = c.args in
    let s = a.s.now in
    sym (ended-yes (end_of m 2) (off-flat m) s a.at a.at (bytewise s c.type_inv.s) (search rules)
    (sym c.prefix_good.ensures ∙ c.if-not-prefix_good.false))
