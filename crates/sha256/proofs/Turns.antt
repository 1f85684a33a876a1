-- A turn, and the end, of the loop over whole blocks, on plain lists. Assumes nothing.
use mathlib.Core.Path.{◌≡◌, refl, ap}
use mathlib.Core.List.{List, ◌∷◌, foldl}
use Prim.Native.Nat.{ℕ, zero, suc, ◌+◌, ◌-◌, ◌/◌, ◌≤◌, ◌<◌}
use native.Mathlib.Omega.{arith}
use native.Mathlib.Numerals.{add-one}
use lib.ListN.{length, get_or, take, drop, length-drop, drop_of_length-le}
use lib.Seq.{drop-cons}
use Rattle.std.specs.Simd.{first_chunks}
use Rattle.fips.specs.declared.State.{State}
use Rattle.fips.specs.Sha256.{compress, parse, hash}

pub hash-step : (s : State) (q : List ℕ) → 64 ≤ length q → hash s q ≡ hash (compress s (take 64 q)) (drop 64 q)
unfolding hash parse
hash-step s q h =
    let n : length q / 64 ≡ suc ((length q - 64) / 64) = omega arith in
    rw (n, length-drop)

pub hash-none : (s : State) (q : List ℕ) → length q < 64 → hash s q ≡ s
unfolding hash parse
hash-none s q h =
    let n : length q / 64 ≡ 0 = omega arith in
    rw n

-- a block taken, and none left
pub fold-turn : (xs : List (List ℕ)) (i : ℕ) (d : List ℕ) (r q x : State) → i < length xs → q ≡ compress r (get_or xs i d)
    → foldl compress r (drop i xs) ≡ x → foldl compress q (drop (i + 1) xs) ≡ x
fold-turn xs i d r q x h e y = rw (e, add-one i) (rw (drop-cons xs i d h) at y)

pub fold-done : (xs : List (List ℕ)) (i : ℕ) (r x : State) → length xs ≤ i → foldl compress r (drop i xs) ≡ x → r ≡ x
fold-done xs i r x h y = rw (drop_of_length-le xs h) at y

-- the blocks as the library cuts them
pub chunks-parse : (k : ℕ) (m : List ℕ) → first_chunks 64 k m ≡ parse k m
unfolding parse
chunks-parse zero m = refl
chunks-parse (suc k) m = ap (λ b. take 64 m ∷ b) (chunks-parse k (drop 64 m))
