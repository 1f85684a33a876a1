-- How much of a request was read, and which bytes, where the reader's are known.
use Rattle.std.specs.Prelude.{◌≡◌, List, [], ◌∷◌, ◌++◌, ℕ, ◌+◌, ◌≤◌, length, Option, None, Some, Result, Ok, Err, MatchResult}
use Rattle.std.specs.Io.KnownBytes.{Consumes}
use Rattle.io.specs.Counts.{IsPrefixLen}
use Rattle.paper.specs.Bytes.{number}
use Rattle.wire.specs.declared.Request.{Request}

-- The rest s of a request r after n of its bytes were to be read: if they were, it has n less, and else no more than there was.
abbrev pub After : {T E : Type 0} → Request → Request → Result T E → ℕ → Type 0
After r s result n = MatchResult result (λ _. s.left + n ≡ r.left) (λ _. s.left ≤ r.left)

-- The rest s of a request r after a field: a readable field of n bytes is a part of the request and lies in front of the buffer b, and an
-- unreadable one leaves no more than there was.
abbrev pub Took : {E : Type 0} → Request → Request → Result ℕ E → List ℕ → Type 0
Took r s result b = MatchResult result (λ n. IsPrefixLen n b × (s.left + (4 + n) ≡ r.left)) (λ _. s.left ≤ r.left)

-- The rest s of a request r after its call: one that was answered was read whole, and one that can't be read leaves no more than there was.
abbrev pub Answered : {T E : Type 0} → Request → Request → Result T E → Type 0
Answered r s result = MatchResult result (λ _. s.left ≡ 0) (λ _. s.left ≤ r.left)

-- What a reader has left before and after, where its bytes are known.
module _ (old new : Option (List ℕ)) where
  -- no more was taken than the request had more before than after
  abbrev pub Within : Request → Request → Type 0
  Within r s = (bytes : List ℕ) × (length bytes + s.left ≤ r.left) × Consumes old new bytes

  -- four bytes were taken that say how many follow, and then those
  abbrev pub Framed : ℕ → List ℕ → Type 0
  Framed n follow = (size : List ℕ) × (length size ≡ 4) × (number size ≡ n) × Consumes old new (size ++ follow)

  -- a request's size and its call's number were taken, or nothing where the input ends
  abbrev pub Opened : {E : Type 0} → Result (Option (ℕ × Request)) E → Type 0
  Opened (Ok None) = Consumes old new []
  Opened (Ok (Some (call, r))) = Framed (r.left + 1) (call ∷ [])
  Opened (Err e) = Unit {0}
