-- The leaves of either tree, by document 01's plain labels.
use Rattle.std.specs.Prelude.{◌≡◌, ℕ, ◌+◌, ◌*◌, ◌≤◌, ◌<◌, length, drop}
use mathlib.Core.List.{List, flat_map, ◌++◌}
use Rattle.paper.specs.Bytes.{Bytes}
use Rattle.paper.specs.Strings.{Node}
use Rattle.paper.specs.Labelling.{plain}
use Rattle.paper.specs.Table.{Record, by_epoch, all_leaves, old_leaves}
use Rattle.paper.specs.Level.{leaves_in, entry_size}
use Rattle.paper.specs.declared.Which.{Which}
use Rattle.paper.specs.declared.Which.TheVariants.{OfAll, OfOld}
use Rattle.record.specs.Places.{Stands}

-- what a record gives tree *all*, or tree *old*
abbrev pub leaves_of : Which → Record → List Node
leaves_of OfAll r = all_leaves plain r
leaves_of OfOld r = old_leaves plain r

-- "The tree of epoch t has the leaves with epoch at most t."
abbrev pub leaves_by : Which → ℕ → List Record → List Node
leaves_by which t rs = flat_map (leaves_of which) (by_epoch t rs)

-- m leaves stand where n stood: those, and `more` behind them; the row keeps its length, and what lies behind them is as it was
pub record Gained (before after : Bytes) (n m : ℕ) (more : List Node) : Type 0 where
  pub leaves : leaves_in m after ≡ leaves_in n before ++ more
  pub number : m ≡ n + length more
  pub size : length after ≡ length before
  pub rest : drop (m * entry_size) after ≡ drop (m * entry_size) before

-- each of the records can be read, and their leaves fit behind the n that are there
pub record Room (records row : Bytes) (count n : ℕ) : Type 0 where
  pub stand : (i : ℕ) → i < count → Stands records i
  pub fits : (n + 2 * count) * entry_size ≤ length row
