-- The end of a padded message. Assumes nothing.
use Rattle.std.specs.Prelude.{List, ◌∷◌, ◌++◌, ℕ, length, replicate}
use Rattle.fips.specs.Sha256.{zeros, be64}

-- FIPS 180-4, section 5.1.1: the end of the padding of a message of n bits, from its last bytes m on,
-- which come after whole blocks
unfoldable pub ending : List ℕ → ℕ → List ℕ
ending m n = m ++ (0x80 ∷ (replicate (zeros (length m)) 0 ++ be64 n))
