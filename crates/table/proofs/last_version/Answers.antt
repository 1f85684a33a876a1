-- `table::last_version`: the name's last record has the version.
use mathlib.Core.Path.{sym, ◌∙◌}
use Rattle.table.specs.Index.{named}
use Rattle.table.proofs.Last.{last-most}
use Rattle.table.proofs.Own.{version-none, version-last}
use Rattle.table.proofs.last_version.Goals as goal

pub version_at-requires : goal.version_at-requires
version_at-requires c =
    let a = c.args in
    c.requires.stands _ (last-most (named a.index.now.records.now a.name.now) a.index.now.count c.in-Some.k (sym c.in-Some.ensures))

pub returns-in-Some : goal.returns-in-Some
returns-in-Some c =
    let a = c.args in
    c.version_at.ensures ∙ version-last a.index.now.records.now a.name.now a.index.now.count c.in-Some.k (sym c.in-Some.ensures)

pub returns-in-None : goal.returns-in-None
returns-in-None c =
    let a = c.args in
    version-none a.index.now.records.now a.name.now a.index.now.count (sym c.in-None.ensures)
