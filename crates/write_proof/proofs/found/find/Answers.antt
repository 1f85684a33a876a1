-- `write_proof::found::find`: both are those of the name's last record.
use mathlib.Core.Path.{ap, ◌∙◌}
use Rattle.write_proof.specs.Judged.{version_of, from_by}
use Rattle.write_proof.proofs.Bytes.{last-stands}
use Rattle.write_proof.proofs.found.find.Goals as goal

pub number_of-requires : goal.number_of-requires
number_of-requires c =
    let a = c.args in
    last-stands a.records.now a.name.now a.epoch a.count c.requires c.latest-last.result c.latest-last.ensures

pub returns : goal.returns
returns c =
    let a = c.args in
    let from = c.from_of.ensures ∙ ap (from_by a.kind) c.latest-last.ensures in
    let number = c.number_of.ensures ∙ ap (version_of a.records.now) c.latest-last.ensures in
    λ i. record { from = from i; number = number i }
