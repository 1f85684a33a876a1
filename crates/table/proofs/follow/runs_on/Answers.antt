-- `table::follow::runs_on`: the name's last record decides.
use borrow.Author.Tests.{eq-eqb, ne_eqb}
use native.Mathlib.Omega.{arith}
use mathlib.Core.Path.{◌≡◌, sym, ap, ap₂, ◌∙◌}
use mathlib.Core.Bool.{◌&&◌}
use Prim.Native.Nat.{suc}
use lib.Dec.{eqb, ltb}
use Rattle.std.specs.Prelude.{Some}
use Rattle.record.specs.Places.{record_at, records_in, Stands}
use Rattle.table.specs.Index.{last_where, named}
use Rattle.table.specs.Shape.{version_follows}
use Rattle.table.proofs.Last.{last-most}
use Rattle.table.proofs.Own.{follows-none, follows-last}
use Rattle.table.proofs.follow.runs_on.Goals as goal
use Rattle.table.proofs.follow.runs_on.Goals.{In-Some, Start}

pub returns-in_default : goal.returns-in_default
returns-in_default c =
    let a = c.args in
    let s = a.index.now.records.now in
    let none = c.in_default.ensures ∙ ap (λ name. last_where (named s name) a.index.now.count) c.name_at.ensures.bytes in
    ap (λ v. eqb v 1) c.version_at-version.ensures ∙ sym (follows-none s a.index.now.count (record_at s a.index.now.count) (sym none))

-- what was found is the last record of the name
last-is : (c : In-Some) → last_where (named c.args.index.now.records.now (record_at c.args.index.now.records.now c.args.index.now.count).name) c.args.index.now.count ≡ Some c.in-Some.k
last-is c =
    let a = c.args in
    sym (c.in-Some.ensures ∙ ap (λ name. last_where (named a.index.now.records.now name) a.index.now.count) c.name_at.ensures.bytes)

-- it stands
stands : (c : In-Some) → Stands c.args.index.now.records.now c.in-Some.k
stands c =
    let s = c.args.index.now.records.now in
    c.requires.1.stands _ (omega (arith, last-most (named s (record_at s c.args.index.now.count).name) c.args.index.now.count c.in-Some.k (last-is c)))

-- so its version and its epoch decide
decides : (c : In-Some) → let q = record_at c.args.index.now.records.now c.in-Some.k in
    let r = record_at c.args.index.now.records.now c.args.index.now.count in
    version_follows (records_in c.args.index.now.count c.args.index.now.records.now) r ≡ (eqb r.version (suc q.version) && ltb q.epoch r.epoch)
decides c =
    let s = c.args.index.now.records.now in
    follows-last s c.args.index.now.count (record_at s c.args.index.now.count) c.requires.0 c.requires.1.shape c.in-Some.k (last-is c)

pub version_at-requires : goal.version_at-requires
version_at-requires c = stands c

pub returns-then-version-version_at : goal.returns-then-version-version_at
returns-then-version-version_at c =
    let a = c.args in
    let s = a.index.now.records.now in
    sym (decides (goal.at.returns-then-version-version_at c).In-Some
    ∙ rw (ne_eqb (record_at s a.index.now.count).version (suc (record_at s c.in-Some.k).version) (λ e. c.if-version-version_at.true (omega (arith, c.version_at-version.ensures, c.version_at.ensures)))))

pub epoch_at-requires : goal.epoch_at-requires
epoch_at-requires c = stands (goal.at.epoch_at-requires c).In-Some

pub returns : goal.returns
returns c =
    let a = c.args in
    let s = a.index.now.records.now in
    let l = c.if-version-version_at.false in
    ap₂ ltb c.epoch_at.ensures c.epoch_at-2.ensures
    ∙ sym (decides (goal.at.returns c).In-Some ∙ rw (eq-eqb (record_at s a.index.now.count).version (suc (record_at s c.in-Some.k).version) (omega (arith, l, c.version_at-version.ensures, c.version_at.ensures))))
