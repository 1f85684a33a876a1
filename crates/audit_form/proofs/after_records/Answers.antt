-- `audit_form::after_records`: too few bytes, or all of the rows are in layout.
use borrow.Author.Rules.{rules}
use borrow.Author.Tests.{tests}
use native.Mathlib.Omega.{arith}
use mathlib.Core.Path.{sym, ap, ◌∙◌}
use Prim.Native.Nat.{◌+◌, ◌*◌}
use Rattle.std.specs.Bool.{then_some}
use Rattle.std.specs.List.{list_all}
use Rattle.std.proofs.lemmas.Iterator.{YieldsList-from_slice}
use Rattle.std.proofs.lemmas.Iterator.Search.{all_from_yields_List}
use Rattle.paper.specs.Layout.{in_layout}
use Rattle.paper.specs.Audit.{audit_record_field}
use Rattle.audit_form.proofs.Form.{records-short, records-behind}
use Rattle.audit_form.proofs.after_records.Goals as goal

pub returns-then-s-at : goal.returns-then-s-at
returns-then-s-at c = sym (records-short c.args.s.now c.args.at c.args.n c.requires.0 (omega arith))

pub returns : goal.returns
returns c =
    let a = c.args in
    let all = all_from_yields_List (λ r. in_layout (audit_record_field.read r)) _ _ c.all-formed.result c.all-formed.ensures.ran (YieldsList-from_slice c.rows.result.now (cc)) (λ x b q k. search (rules, tests)) in
    c.then_some.ensures
    ∙ ap (λ b. then_some b (a.at + a.n * 99)) (all ∙ ap (list_all (λ r. in_layout (audit_record_field.read r))) c.rows.ensures)
    ∙ records-behind a.s.now a.at a.n (omega arith)
