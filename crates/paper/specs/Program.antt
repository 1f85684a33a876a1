-- Document 01, "The checking program": its line as a function of its input.
use Rattle.std.specs.Prelude.{cond, ◌&&◌, [], ◌∷◌, ◌++◌, ℕ, zero, suc, ◌+◌, ◌/◌, ◌%◌, Ok, Err, leb, ltb, length, take, drop, get_or}
use Rattle.paper.specs.Numbers.{wide, INPUT, refusal_number}
use Rattle.paper.specs.Bytes.{Bytes}
use Rattle.paper.specs.Labelling.{plain}
use Rattle.paper.specs.Lookup.{check_lookup}
use Rattle.paper.specs.Answer.{LookupAnswer}
use Rattle.paper.specs.declared.AcceptedLookup.TheVariants.{Found, NotRegistered}

-- a number below 10 ^ (k + 1) in decimal digits
unfoldable pub decimal_in : ℕ → ℕ → Bytes
decimal_in zero n = (48 + n) ∷ []
decimal_in (suc k) n = cond (ltb n 10) ((48 + n) ∷ []) (decimal_in k (n / 10) ++ ((48 + n % 10) ∷ []))

-- all numbers that are printed have at most 32 bits
abbrev pub decimal : ℕ → Bytes
decimal n = decimal_in 9 n

-- "version ", " epoch ", " digests ", "refused ", and the line's end
abbrev pub version_word : Bytes
version_word = 118 ∷ 101 ∷ 114 ∷ 115 ∷ 105 ∷ 111 ∷ 110 ∷ 32 ∷ []

abbrev pub epoch_word : Bytes
epoch_word = 32 ∷ 101 ∷ 112 ∷ 111 ∷ 99 ∷ 104 ∷ 32 ∷ []

abbrev pub digests_word : Bytes
digests_word = 32 ∷ 100 ∷ 105 ∷ 103 ∷ 101 ∷ 115 ∷ 116 ∷ 115 ∷ 32 ∷ []

abbrev pub refused_word : Bytes
refused_word = 114 ∷ 101 ∷ 102 ∷ 117 ∷ 115 ∷ 101 ∷ 100 ∷ 32 ∷ []

abbrev pub line_end : Bytes
line_end = 10 ∷ []

-- "It prints one line: `version V epoch T digests C` .. or `refused N`."
abbrev pub accepted : ℕ → ℕ → ℕ → Bytes
accepted v t c = version_word ++ (decimal v ++ (epoch_word ++ (decimal t ++ (digests_word ++ (decimal c ++ line_end)))))

abbrev pub line : LookupAnswer → Bytes
line (Ok (Found v t c)) = accepted v t c
line (Ok (NotRegistered t c)) = accepted 0 t c
line (Err r) = refused_word ++ (decimal (refusal_number r) ++ line_end)

-- "It reads from standard input: head 32, name length 1, name, lookup proof. Over 65,536 bytes, or too short for head and name,
-- is 1."
unfoldable pub program_line : Bytes → Bytes
program_line b =
    let n : ℕ = get_or b wide 0 in
    cond (leb (length b) 65536 && leb (33 + n) (length b))
    (line (check_lookup plain (take wide b) (take n (drop 33 b)) (drop (33 + n) b)))
    (line (Err INPUT))
