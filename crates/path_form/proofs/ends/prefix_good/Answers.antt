-- `path_form::ends::prefix_good`: bits past the length are zero exactly where the prefix is its own first bits.
use borrow.Author.Rules.{rules}
use borrow.Author.Tests.{ltb-true, ltb-false}
use native.Mathlib.Omega.{arith}
use mathlib.Core.Path.{sym, ◌∙◌}
use mathlib.Core.Logic.{inl, inr}
use Rattle.paper.specs.Bytes.{same}
use Rattle.ranges.proofs.Slices.{bytewise}
use Rattle.path_form.proofs.Prefix.{prefix-long, prefix-tested}
use Rattle.path_form.proofs.ends.prefix_good.Goals as goal
use Rattle.path_form.proofs.ends.prefix_good.Goals.{then-length-lt1-via-else-length-lt1+then-length-gt255, then-length-lt1-via-then-length-lt1}

pub returns-then-length-lt1 : goal.returns-then-length-lt1
returns-then-length-lt1 c =
    let a = c.args in
    sym (prefix-long a.s.now a.at c.read16-length.result c.read16-length.ensures (elim c.then-length-lt1.branch [ then-length-lt1-via-then-length-lt1 w ↦ inl (omega arith) | then-length-lt1-via-else-length-lt1+then-length-gt255 w ↦ inr (omega (arith, ltb-true)) ]))

pub returns : goal.returns
unfolding same
returns c =
    let a = c.args in
    c.eq.ensures
    ∙ sym (prefix-tested a.s.now a.at c.read16-length.result c.read16-length.ensures c.digest_at-prefix.result _ (bytewise a.s.now c.type_inv.s)
    (search rules) (search rules) (omega (arith, ltb-false)) c.digest_at-prefix.ensures c.prefix_of-cut.ensures)
