-- What is asked of a place, and whether what a path shows is that.
use Rattle.std.specs.Prelude.{Bool, true, false, ◌&&◌, [], ℕ, leb, Option, Some, None, is_some}
use Rattle.paper.specs.Bytes.{Bytes, same}
use Rattle.paper.specs.Shows as S
use Rattle.path.specs.declared.Shown.{Shown}
use Rattle.path.specs.declared.Shown.TheVariants.{Present, Absent, Neither}
use Rattle.plan.specs.Asked.{place_of}
use Rattle.shown.specs.declared.Asked.{Asked}
use Rattle.shown.specs.declared.Terms.{Terms}

-- what is asked of a place, and the terms, as document 01's definitions have them; where a place is asked not to be there, there are
-- no terms to meet
abbrev pub asked_of : Asked → S.Asked
asked_of a = record { place = place_of a.place; there = is_some a.terms }

abbrev pub terms_by : Option Terms → S.Terms
terms_by None = record { commitment = λ _. []; epoch = λ _ e. false }
terms_by (Some t) = record { commitment = λ _. t.commitment; epoch = λ _ e. leb t.low e && leb e t.high }

abbrev pub terms_of : Asked → S.Terms
terms_of a = terms_by a.terms

-- whether a leaf with a commitment and an epoch is accepted
abbrev pub on_terms : Terms → Bytes → ℕ → Bool
on_terms t commitment e = same commitment t.commitment && (leb t.low e && leb e t.high)

-- whether what a path shows is what is asked
abbrev pub shown_for : Option Terms → Shown → Bool
shown_for (Some t) (Present c e) = on_terms t c e
shown_for (Some t) Absent = false
shown_for (Some t) Neither = false
shown_for None (Present c e) = false
shown_for None Absent = true
shown_for None Neither = false

abbrev pub met_by : Asked → Shown → Bool
met_by a x = shown_for a.terms x
