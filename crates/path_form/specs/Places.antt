-- What stands at the places of a parsed path: its steps, its end, and the path as document 01's value.
use Rattle.std.specs.Prelude.{◌≡◌, Bool, true, not, ◌&&◌, List, [], ◌∷◌, ℕ, zero, suc, ◌+◌, ◌*◌, ◌≤◌, ◌<◌, leb, length, take, drop}
use Rattle.paper.specs.Lists.{every}
use Rattle.paper.specs.Numbers.{wide}
use Rattle.paper.specs.Bytes.{Bytes, zeros, number}
use Rattle.paper.specs.Bits.{Bits, bits_of, pack}
use Rattle.paper.specs.Tree.{digest}
use Rattle.paper.specs.Path.{Step, step_node, this, other, off, none}
use Rattle.paper.specs.Path as P
use Rattle.path_form.specs.declared.End.{End}
use Rattle.path_form.specs.declared.End.TheVariants.{This, Other, Off, Nothing}
use Rattle.path_form.specs.declared.Path.{Path}

-- "m steps of prefix length (2) and sibling digest (32)": the first step of some bytes, and the first m
abbrev pub step_in : Bytes → Step
step_in s = record { length = number (take 2 s); sibling = take 32 (drop 2 s) }

unfoldable pub steps_in : ℕ → Bytes → List Step
steps_in zero s = []
steps_in (suc m) s = step_in s ∷ steps_in m (drop 34 s)

-- the end whose fields stand at its place
abbrev pub end_in : Bytes → End → P.End
end_in s (This at e) = this (take 32 (drop at s)) e
end_in s (Other at e) = other (bits_of (take 32 (drop at s))) (take 32 (drop (at + 32) s)) e
end_in s (Off at) = off (take (number (take 2 (drop at s))) (bits_of (take 32 (drop (at + 2) s)))) (take 32 (drop (at + 34) s)) (take 32 (drop (at + 66) s))
end_in s Nothing = none

abbrev pub path_in : Bytes → Path → P.Path
path_in s p = record { steps = steps_in p.count (drop p.steps s); end = end_in s p.«end» }

-- the commitment of "this leaf"; the other ends show none
abbrev pub commitment_of : P.End → Bytes
commitment_of (this c e) = c
commitment_of (other m c e) = zeros wide
commitment_of (off p l r) = zeros wide
commitment_of none = zeros wide

-- "Lengths begin at 0, rise strictly and are at most 255": the first is from low to high, and the others rise from it to 255
unfoldable pub ranged : ℕ → ℕ → List Step → Bool
ranged low high [] = true
ranged low high (s ∷ ss) = leb low s.length && (leb s.length high && ranged (suc s.length) 255 ss)

-- m steps that stand at the front of some bytes and whose lengths are so
unfoldable pub rising : ℕ → Bytes → Bool
rising m s = leb (34 * m) (length s) && ranged 0 0 (steps_in m s)

-- "prefix length 2, prefix 32 (bits past the length zero)", "length 1 to 255"
abbrev pub prefix_length : Bytes → ℕ
prefix_length s = number (take 2 s)

abbrev pub prefix_bytes : Bytes → Bytes
prefix_bytes s = take 32 (drop 2 s)

unfoldable pub prefix_good : Bytes → Bool
prefix_good s = (leb 1 (prefix_length s) && leb (prefix_length s) 255) && every not (drop (prefix_length s) (bits_of (prefix_bytes s)))

-- the digest at the top of steps, over the digest of what is below them
unfoldable pub climbed : Bits → List Step → Bytes → Bytes
climbed L [] d = d
climbed L (s ∷ ss) d = digest (step_node L s (climbed L ss d))

-- a step stands whole at a place, and its prefix is one of a label
pub record StepStands (s : Bytes) (at : ℕ) : Type 0 where
  pub room : at + 34 ≤ length s
  pub short : number (take 2 (drop at s)) ≤ 255

-- an end's fields stand whole at its place, and a prefix has no bit past its length
abbrev pub EndStands : Bytes → End → Type 0
EndStands s (This at e) = at + 36 ≤ length s
EndStands s (Other at e) = at + 68 ≤ length s
EndStands s (Off at) = (at + 98 ≤ length s) × (number (take 2 (drop at s)) ≤ 255)
    × (pack wide (take (number (take 2 (drop at s))) (bits_of (take 32 (drop (at + 2) s)))) ≡ take 32 (drop (at + 2) s))
EndStands s Nothing = Unit {0}

-- a path of 1 to 256 steps stands at its places
pub record PathStands (s : Bytes) (p : Path) : Type 0 where
  pub some : 1 ≤ p.count
  pub most : p.count ≤ 256
  pub room : p.steps + 34 * p.count ≤ length s
  pub each : (i : ℕ) → i < p.count → StepStands s (p.steps + 34 * i)
  pub last : EndStands s p.«end»
  pub shown : p.commitment ≡ commitment_of (end_in s p.«end»)
