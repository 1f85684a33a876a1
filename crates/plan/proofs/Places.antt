-- The values that the code has stand for one place of the definitions each: nothing is lost on the way. Assumes nothing.
use mathlib.Core.Path.{◌≡◌, refl}
use Rattle.paper.specs.Shows as P
use Rattle.plan.specs.Asked.{placed, place_of}

pub place-back : (x : P.Place) → place_of (placed x) ≡ x
place-back (P.in_all i) = refl
place-back (P.in_old i) = refl
place-back (P.as_marker j) = refl
