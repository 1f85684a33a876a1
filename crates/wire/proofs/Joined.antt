-- What two readings took, one behind the other, counts as much as both.
use Rattle.std.proofs.Common.{◌≡◌, ◌+◌, ℕ, List, ◌++◌, length, arith, length-append, Option}
use Rattle.std.specs.Io.KnownBytes.{Consumes}
use Rattle.std.proofs.KnownBytes.{Consumes-trans}

pub joined : (a b c : Option (List ℕ)) (bs cs : List ℕ) (m n : ℕ) → length bs ≡ m → length cs ≡ n → Consumes a b bs → Consumes b c cs
    → (bytes : List ℕ) × (length bytes ≡ m + n) × Consumes a c bytes
joined a b c bs cs m n e d h k = (bs ++ cs, omega (arith, length-append bs cs), Consumes-trans a b c bs cs h k)
