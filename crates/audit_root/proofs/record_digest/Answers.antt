-- `audit_root::record_digest`: the parts of the string are the parts of the record.
use mathlib.Core.Path.{◌∙◌}
use Rattle.fips.specs.Sha256.{sha256}
use Rattle.paper.specs.Strings.{leaf_string, inner_string}
use Rattle.audit_root.proofs.Single.{opened-digest, leaf-digest}
use Rattle.audit_root.proofs.record_digest.Goals as goal

pub returns-then-row-eq1 : goal.returns-then-row-eq1
returns-then-row-eq1 c =
    let n = c.read16.ensures in
    let x = c.digest_at-label.ensures in
    let y = c.digest_at-first.ensures in
    let z = c.digest_at-second.ensures in
    c.inner.ensures ∙ (λ i. sha256 (inner_string (n i) (x i) (y i) (z i))) ∙ opened-digest c.args.row.now c.requires c.if-row-eq1.true

pub returns : goal.returns
returns c =
    let n = c.read32.ensures in
    let x = c.digest_at-label.ensures in
    let y = c.digest_at-first.ensures in
    c.leaf.ensures ∙ (λ i. sha256 (leaf_string (x i) (y i) (n i))) ∙ leaf-digest c.args.row.now c.requires c.if-row-eq1.false
