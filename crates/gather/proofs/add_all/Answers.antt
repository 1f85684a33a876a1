-- `gather::add_all`: the version's leaf, and the marker's where the version is a power of two.
use native.Mathlib.Omega.{arith}
use mathlib.Core.Path.{◌≡◌, ap, sym, ◌∙◌}
use mathlib.Core.List.{[], ◌∷◌}
use Prim.Native.Nat.{◌*◌, ◌%◌, ◌^◌, ◌≤◌, ◌<◌}
use Rattle.paper.specs.Numbers.{wide}
use Rattle.paper.specs.Bytes.{zeros}
use Rattle.paper.specs.Bits.{bits_of, log2}
use Rattle.paper.specs.Strings.{leaf}
use Rattle.paper.specs.Table.{Record}
use Rattle.record.specs.Places.{record_at}
use Rattle.gather.specs.Gathered.{Gained}
use Rattle.bits.proofs.Powers.{marker-few, marker-shift}
use Rattle.gather.proofs.Row.{gain-more}
use Rattle.gather.proofs.Leaves.{name-few, key-few, all-unmarked, all-marked, version_leaf, marker_leaf}
use Rattle.gather.proofs.add_all.Goals as goal
use Rattle.gather.proofs.add_all.Goals.{After-marker_of-j}

pub label-requires : goal.label-requires
label-requires c = rw c.name_at-name.ensures.bytes (name-few _ _)

pub commitment-requires : goal.commitment-requires
commitment-requires c = rw c.key_at.ensures.bytes (key-few _ _)

-- the record, and its version's leaf, which stands behind those that were there
abbrev record_here : After-marker_of-j → Record
record_here c = record_at c.args.records.now c.args.i

first : (c : After-marker_of-j) → Gained c.args.row.now c.put_leaf-m.new.row c.args.n c.put_leaf-m.result (version_leaf (record_here c) ∷ [])
first c =
    let e : leaf (bits_of c.label.result) c.commitment.result c.epoch_at-epoch.result ≡ version_leaf (record_here c) =
    rw (c.label.ensures, c.commitment.ensures, c.epoch_at-epoch.ensures, c.version_at-version.ensures, c.name_at-name.ensures.bytes, c.opening_at-opening.ensures, c.key_at.ensures.bytes) in
    rw (← e) c.put_leaf-m.ensures

-- its marker's number
small : (c : After-marker_of-j) → c.version_at-version.result < 2 ^ 16
small c = omega (arith, c.version_at-version.type_inv)

numbered : (c : After-marker_of-j) → c.marker_of-j.result ≡ log2 (record_here c).version
numbered c = c.marker_of-j.ensures ∙ ap log2 c.version_at-version.ensures

few : (c : After-marker_of-j) → c.marker_of-j.result ≤ 15
few c = rw c.marker_of-j.ensures (marker-few _ (small c))

shifted : (c : After-marker_of-j) → 1 * 2 ^ c.marker_of-j.result % 2 ^ 32 ≡ 2 ^ log2 (record_here c).version
shifted c = marker-shift 32 _ _ (omega arith) (small c) c.marker_of-j.ensures ∙ ap (λ v. 2 ^ log2 v) c.version_at-version.ensures

pub overflow_shl-j : goal.overflow_shl-j
overflow_shl-j c = omega (arith, few c)

pub returns-then-j-version : goal.returns-then-j-version
returns-then-j-version c =
    let r = record_here (goal.at.returns-then-j-version c).After-marker_of-j in
    rw (all-unmarked r (λ e. absurd (c.if-j-version.true (shifted (goal.at.returns-then-j-version c).After-marker_of-j ∙ e ∙ sym c.version_at-version.ensures)))) (first (goal.at.returns-then-j-version c).After-marker_of-j)

pub overflow_cast-j : goal.overflow_cast-j
overflow_cast-j c = omega (arith, few (goal.at.overflow_cast-j c).After-marker_of-j)

pub label-requires-2 : goal.label-requires-2
label-requires-2 c = rw c.name_at-name.ensures.bytes (name-few _ _)

pub returns : goal.returns
returns c =
    let r = record_here (goal.at.returns c).After-marker_of-j in
    let e : leaf (bits_of c.label-2.result) (zeros wide) c.epoch_at-epoch.result ≡ marker_leaf r =
    rw (c.label-2.ensures, numbered (goal.at.returns c).After-marker_of-j, c.name_at-name.ensures.bytes, c.epoch_at-epoch.ensures) in
    rw (all-marked r (sym (shifted (goal.at.returns c).After-marker_of-j) ∙ c.if-j-version.false ∙ c.version_at-version.ensures)) (gain-more (first (goal.at.returns c).After-marker_of-j) (rw (← e) c.put_leaf.ensures))
