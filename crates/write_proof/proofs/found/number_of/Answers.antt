-- `write_proof::found::number_of`: the record has the version.
use mathlib.Core.Path.{sym, ap, ◌∙◌}
use Rattle.write_proof.specs.Judged.{version_of}
use Rattle.write_proof.proofs.found.number_of.Goals as goal

pub version_at-requires : goal.version_at-requires
version_at-requires c = c.requires _ c.in-Some.is

pub returns-in-Some : goal.returns-in-Some
returns-in-Some c = c.version_at.ensures ∙ sym (ap (version_of c.args.records.now) c.in-Some.is)

pub returns-in-None : goal.returns-in-None
returns-in-None c = sym (ap (version_of c.args.records.now) c.in-None.is)
