-- The rows of a proof's paths in their order: three of a lookup, of one path each, and six of a history.
use Rattle.std.specs.Prelude.{List, [], ◌∷◌, ◌++◌, ℕ, zero, suc, ◌^◌, ◌≤◌, length, Some}
use Rattle.paper.specs.Numbers.{wide, name_most, version_most}
use Rattle.paper.specs.Bytes.{Bytes, zeros}
use Rattle.paper.specs.Bits.{log2}
use Rattle.paper.specs.History.{markers_by}
use Rattle.plan.specs.Asked.{markers_of}
use Rattle.plan.specs.Kinds.{keys_in}
use Rattle.plan.specs.declared.Kind.{Kind}
use Rattle.plan.specs.declared.Kind.TheVariants.{Lookup, History}
use Rattle.plan.specs.declared.Plan.{Plan}
use Rattle.plan.specs.declared.Place.TheVariants.{InAll, InOld, AsMarker}
use Rattle.shown.specs.Form.{ItemStands, commitment_in}
use Rattle.shown.specs.declared.Asked.{Asked}
use Rattle.walks.specs.Walk.{Ahead}
use Rattle.walks.specs.declared.Reader.{Reader}
use Rattle.runs.specs.Runs.{epoch_from, ask_version, ask_replaced, ask_current, ask_marker, lack, row, lacks, ItemsStand}

-- "The version's leaf has the key's commitment, and its epoch e has v ≤ e ≤ t"
abbrev pub of_version : Bytes → ℕ → ℕ → Asked
of_version commitment v t = record { place = InAll v; terms = Some (record { commitment = commitment; low = v; high = t }) }

-- "the marker's epoch is from 2^floor(log2 v) to e"
abbrev pub of_marker : ℕ → ℕ → Asked
of_marker v e = record { place = AsMarker (log2 v); terms = Some (record { commitment = zeros wide; low = 2 ^ log2 v; high = e }) }

module _ (s : Bytes) (first t : ℕ) where
  -- "If 0: one path, version 1 absent from *all*. Otherwise .. paths: version v present in *all*, v absent from *old*, marker
  -- floor(log2 v) present in *all*."
  abbrev pub lookup_row : ℕ → ℕ → List Asked
  lookup_row zero zero = lack (InAll 1) ∷ []
  lookup_row zero (suc i) = []
  lookup_row (suc v) zero = of_version (commitment_in s 108) (suc v) t ∷ []
  lookup_row (suc v) (suc zero) = lack (InOld (suc v)) ∷ []
  lookup_row (suc v) (suc (suc zero)) = of_marker (suc v) (epoch_from s first 1) ∷ []
  lookup_row (suc v) (suc (suc (suc i))) = []

  -- "Versions 1 to n present in *all*. Versions 1 to n-1 present in *old*. If n > 0, n absent from *old*. With a = floor(log2 n): n+1 to
  -- 2^(a+1)-1 absent from *all*; markers 0 to a present; markers a+1 to min(9, floor(log2 T)) absent."
  abbrev pub history_row : ℕ → ℕ → List Asked
  history_row n zero = row (ask_version s first t) 1 (suc n)
  history_row n (suc zero) = row (ask_replaced s first) 1 n
  history_row n (suc (suc zero)) = ask_current n
  history_row n (suc (suc (suc zero))) = lacks InAll (suc n) (2 ^ markers_of n)
  history_row n (suc (suc (suc (suc zero)))) = row (ask_marker s first) 0 (markers_of n)
  history_row n (suc (suc (suc (suc (suc zero))))) = lacks AsMarker (markers_of n) (markers_by t)
  history_row n (suc (suc (suc (suc (suc (suc i)))))) = []

  abbrev pub row_of : Kind → ℕ → ℕ → List Asked
  row_of Lookup n i = lookup_row n i
  row_of History n i = history_row n i

-- what the i-th row is asked, from 0, and all of them; the first path stands at a place
abbrev pub row_asks : Bytes → ℕ → Plan → ℕ → List Asked
row_asks s first p i = row_of s first p.epoch p.kind p.number i

abbrev pub all_rows : (ℕ → List Asked) → List Asked
all_rows f = f 0 ++ (f 1 ++ (f 2 ++ (f 3 ++ (f 4 ++ f 5))))

abbrev pub rows_ask : Bytes → ℕ → Plan → List Asked
rows_ask s first p = all_rows (row_asks s first p)

-- ---- what is asked of the caller

-- a proof in layout, a name that is short, and a count that has room for every path
pub record Laid (p : Plan) (r : Reader) : Type 0 where
  pub front : 106 ≤ length r.proof.now
  pub short : length r.name.now ≤ name_most
  pub small : p.number ≤ version_most
  pub items : ItemsStand r.proof.now (keys_in p.kind p.number)
  pub few : r.digests ≤ 1024

-- the same of either check's rows: a lookup has three paths at most, and a history's six rows have up to 4,000
pub record LookupReady (v : ℕ) (r : Reader) : Type 0 where
  pub ahead : Ahead 3 r
  pub item : 1 ≤ v → ItemStands r.proof.now 108

pub record HistoryReady (n : ℕ) (r : Reader) : Type 0 where
  pub ahead : Ahead 4000 r
  pub small : n ≤ version_most
  pub items : ItemsStand r.proof.now n
