-- "each number .. given exactly when", in an order: tests with their refusals, of which the first that fails gives its refusal.
use Rattle.std.specs.Prelude.{◌≡◌, Bool, true, false, cond, List, [], ◌∷◌, ◌++◌, ℕ}
use Rattle.paper.specs.Lists.{All}
use Rattle.paper.specs.Numbers.{refusal_number}
use Rattle.paper.specs.declared.Refusal.{Refusal}

pub record Test : Type 0 where
  pub refusal : Refusal
  pub holds : Bool

abbrev pub test : Refusal → Bool → Test
test r b = record { refusal = r; holds = b }

-- the first refusal whose test fails, or the answer
unfoldable pub verdict : {A : Type 0} → (Refusal → A) → A → List Test → A
verdict refuse answer [] = answer
verdict refuse answer (t ∷ ts) = cond t.holds (verdict refuse answer ts) (refuse t.refusal)

-- every test holds
abbrev pub Hold : List Test → Type 0
Hold = All (λ t. t.holds ≡ true)

-- the first of the tests that fails, behind those that hold, has this number
pub record FirstFails (ts : List Test) (n : ℕ) : Type 0 where
  pub passed : List Test
  pub failed : Test
  pub rest : List Test
  pub split : passed ++ (failed ∷ rest) ≡ ts
  pub hold : Hold passed
  pub fails : failed.holds ≡ false
  pub number : refusal_number failed.refusal ≡ n
