-- What the paths of a proof are asked to show, as the values that the code has.
use Rattle.std.specs.Prelude.{List, ℕ, zero, suc, get_or}
use Rattle.paper.specs.Bytes.{Bytes}
use Rattle.paper.specs.Bits.{log2}
use Rattle.paper.specs.Labelling.{plain}
use Rattle.paper.specs.Lookup.{lookup_asked}
use Rattle.paper.specs.History.{history_asked}
use Rattle.paper.specs.Shows as P
use Rattle.plan.specs.declared.Place.{Place}
use Rattle.plan.specs.declared.Place.TheVariants.{InAll, InOld, AsMarker}
use Rattle.plan.specs.declared.Asked.{Asked}
use Rattle.plan.specs.declared.Kind.{Kind}
use Rattle.plan.specs.declared.Kind.TheVariants.{Lookup, History}
use Rattle.plan.specs.declared.Plan.{Plan}

-- a place of document 01's definitions, and back
abbrev pub placed : P.Place → Place
placed (P.in_all i) = InAll i
placed (P.in_old i) = InOld i
placed (P.as_marker j) = AsMarker j

abbrev pub place_of : Place → P.Place
place_of (InAll i) = P.in_all i
place_of (InOld i) = P.in_old i
place_of (AsMarker j) = P.as_marker j

abbrev pub asked : P.Asked → Asked
asked a = record { place = placed a.place; there = a.there }

-- the i-th of the list, from 0; past its end version 0 absent, for which no proof asked_by
abbrev pub asked_at : List P.Asked → ℕ → Asked
asked_at l i = asked (get_or l i (P.missing (P.in_all 0)))

-- what the paths of a plan are asked to show, in their order
abbrev pub asked_by : Kind → ℕ → ℕ → List P.Asked
asked_by Lookup n t = lookup_asked n
asked_by History n t = history_asked n t

abbrev pub asked_of : Plan → List P.Asked
asked_of p = asked_by p.kind p.number p.epoch

-- the label of a place
abbrev pub label_of : Bytes → Place → Bytes
label_of name x = plain.label (P.kind_of (place_of x)) (P.number_of (place_of x)) name

-- how many markers n versions have: those from 0 to floor(log2 n), and none where there is no version
abbrev pub markers_of : ℕ → ℕ
markers_of zero = 0
markers_of (suc n) = suc (log2 (suc n))
