-- Laws of the two tests of strings. Assumes nothing.
use mathlib.Core.Path.{◌≡◌, refl, ap}
use mathlib.Core.Logic.{⊎_elim}
use mathlib.Core.Bool.{Bool, false, ◌&&◌}
use mathlib.Core.List.{[], ◌∷◌}
use Prim.Native.Nat.{ℕ}
use lib.Dec.{eqb}
use lib.ListN.{length}
use Rattle.std.specs.List.{list_all}
use lib.Pointwise.{pointwise}
use Rattle.paper.specs.Lists.{every}
use Rattle.paper.specs.Bytes.{Bytes, same, zeros}
use Rattle.paper.proofs.Lists.{true-or-false}
use Rattle.paper.proofs.Bytes.{same-eq}

pub not_same : (s t : Bytes) → (s ≡ t → ⊥) → same s t ≡ false
not_same s t h = ⊎_elim (λ e. absurd (h (same-eq s t e))) (λ e. e) (true-or-false (same s t))

-- zero bytes are the filling
pub zeros-same : (x : Bytes) → every (λ b. eqb b 0) x ≡ same x (zeros (length x))
unfolding every same
zeros-same [] = refl
zeros-same (b ∷ x) = ap (λ t. eqb b 0 && t) (zeros-same x)

-- the library's words for the two
pub every-list_all : (t : ℕ → Bool) (s : Bytes) → list_all t s ≡ every t s
unfolding every
every-list_all t [] = refl
every-list_all t (b ∷ s) = ap (λ r. t b && r) (every-list_all t s)

pub pointwise-same : (s t : Bytes) → pointwise eqb s t ≡ same s t
unfolding same
pointwise-same [] [] = refl
pointwise-same [] (y ∷ t) = refl
pointwise-same (x ∷ s) [] = refl
pointwise-same (x ∷ s) (y ∷ t) = ap (λ r. eqb x y && r) (pointwise-same s t)
