-- What the definitions say of lists beside the library's own words.
use Rattle.std.specs.Prelude.{◌≡◌, ◌⊎◌, Bool, true, false, cond, ◌&&◌, ◌||◌, List, [], ◌∷◌, ℕ, zero, suc}

module _ {A : Type 0} where
  infix 40 ◌∈◌
  -- a is one of the list
  abbrev pub ◌∈◌ : A → List A → Type 0
  a ∈ [] = ⊥
  a ∈ (b ∷ l) = (a ≡ b) ⊎ (a ∈ l)

  -- each of the list has the property
  abbrev pub All : (A → Type 0) → List A → Type 0
  All P [] = Unit {0}
  All P (a ∷ l) = P a × All P l

  -- each of the list passes the test
  unfoldable pub every : (A → Bool) → List A → Bool
  every t [] = true
  every t (a ∷ l) = t a && every t l

  -- one of the list passes the test
  unfoldable pub some : (A → Bool) → List A → Bool
  some t [] = false
  some t (a ∷ l) = t a || some t l

  -- those of the list that pass the test, in their order
  unfoldable pub keep : (A → Bool) → List A → List A
  keep t [] = []
  keep t (a ∷ l) = cond (t a) (a ∷ keep t l) (keep t l)

-- k numbers from a on: a, a + 1, ..
unfoldable pub up_from : ℕ → ℕ → List ℕ
up_from a zero = []
up_from a (suc k) = a ∷ up_from (suc a) k
