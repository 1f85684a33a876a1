-- What the paths of each row are asked to show, with epochs and commitments as they stand in the proof's own bytes.
use Rattle.std.specs.Prelude.{List, [], ◌∷◌, map, ℕ, zero, suc, ◌+◌, ◌-◌, ◌^◌, ◌≤◌, ◌<◌, get_or, Option, Some, None}
use Rattle.paper.specs.Lists.{up_from}
use Rattle.paper.specs.Bytes.{Bytes, zeros}
use Rattle.path_form.specs.Parsed.{path_at}
use Rattle.path_form.specs.declared.End.{End}
use Rattle.path_form.specs.declared.End.TheVariants.{This, Other, Off, Nothing}
use Rattle.path_form.specs.declared.Path.{Path}
use Rattle.plan.specs.declared.Place.{Place}
use Rattle.plan.specs.declared.Place.TheVariants.{InAll, InOld, AsMarker}
use Rattle.shown.specs.Form.{ItemStands, commitment_in}
use Rattle.shown.specs.declared.Asked.{Asked}
use Rattle.walks.specs.Walk.{Ahead}
use Rattle.walks.specs.declared.Reader.{Reader}
use Rattle.runs.specs.declared.Leaf.{Leaf}

-- the epoch of "this leaf"; the other ends have none
abbrev pub end_epoch : End → ℕ
end_epoch (This at e) = e
end_epoch (Other at e) = 0
end_epoch (Off at) = 0
end_epoch Nothing = 0

-- the leaf of a path that was parsed
abbrev pub leaf_of : Option Path → Leaf
leaf_of None = record { epoch = 0; next = 0 }
leaf_of (Some p) = record { epoch = end_epoch p.«end»; next = p.next }

-- k times on from a place
unfoldable pub onward : (ℕ → ℕ) → ℕ → ℕ → ℕ
onward on at zero = at
onward on at (suc k) = on (onward on at k)

module _ (s : Bytes) where
  -- the place behind the key at a place: its length, the key and its opening take 33 bytes and the length
  abbrev pub item_on : ℕ → ℕ
  item_on at = at + (33 + get_or s at 0)

  -- the place of the k-th key, from 0
  abbrev pub item_at : ℕ → ℕ
  item_at k = onward item_on 108 k

  -- the path at a place: its leaf's epoch, and the place behind it
  abbrev pub leaf_at : ℕ → Leaf
  leaf_at at = leaf_of (path_at s at)

  abbrev pub path_on : ℕ → ℕ
  path_on at = (leaf_at at).next

  module _ (first : ℕ) where
    -- the place of the k-th path, from 0
    abbrev pub place_at : ℕ → ℕ
    place_at k = onward path_on first k

    -- the epoch of the i-th path's leaf, from 1
    unfoldable pub epoch_from : ℕ → ℕ
    epoch_from zero = 0
    epoch_from (suc k) = (leaf_at (place_at k)).epoch

    -- "Each version's leaf has its key's commitment. Epochs have 1 ≤ e1 < e2 < .. ≤ T"
    abbrev pub ask_version : ℕ → ℕ → Asked
    ask_version T i = record { place = InAll i; terms = Some (record { commitment = commitment_in s (item_at (i - 1)); low = epoch_from (i - 1) + 1; high = T }) }

    -- a leaf with no commitment, at the epoch of version i
    abbrev pub ask_bare : Place → ℕ → Asked
    ask_bare x i = record { place = x; terms = Some (record { commitment = zeros 32; low = epoch_from i; high = epoch_from i }) }

    -- "*old* version i has epoch e(i+1)"
    abbrev pub ask_replaced : ℕ → Asked
    ask_replaced i = ask_bare (InOld i) (i + 1)

    -- "marker j has the epoch of version 2^j"
    abbrev pub ask_marker : ℕ → Asked
    ask_marker j = ask_bare (AsMarker j) (2 ^ j)

-- a place that is to be absent
abbrev pub lack : Place → Asked
lack x = record { place = x; terms = None }

-- "If n > 0, n absent from *old*."
abbrev pub ask_current : ℕ → List Asked
ask_current zero = []
ask_current (suc m) = lack (InOld (suc m)) ∷ []

-- what f asks of the numbers from a up to b
abbrev pub row : (ℕ → Asked) → ℕ → ℕ → List Asked
row f a b = map f (up_from a (b - a))

-- the places of the numbers from a up to b lacking
abbrev pub lacks : (ℕ → Place) → ℕ → ℕ → List Asked
lacks f a b = row (λ i. lack (f i)) a b

-- n keys stand whole
abbrev pub ItemsStand : Bytes → ℕ → Type 0
ItemsStand s n = (k : ℕ) → k < n → ItemStands s (item_at s k)

pub record VersionsAhead (n : ℕ) (r : Reader) : Type 0 where
  pub ahead : Ahead n r
  pub small : n ≤ 1023
  pub items : ItemsStand r.proof.now n
