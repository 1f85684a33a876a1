-- Document 01, "Lookup".
use Rattle.std.specs.Prelude.{Bool, true, ◌&&◌, List, [], ◌∷◌, ℕ, zero, suc, ◌^◌, Ok, Err, leb, length, take, drop}
use Rattle.paper.specs.Numbers.{wide, FORM}
use Rattle.paper.specs.Bytes.{Bytes, zeros, number}
use Rattle.paper.specs.Bits.{log2}
use Rattle.paper.specs.Labelling.{Labelling}
use Rattle.paper.specs.Layout.{Layout, Read, got, bad, parse}
use Rattle.paper.specs.Verdict.{verdict}
use Rattle.paper.specs.Shows.{Place, in_all, in_old, as_marker, Asked, present, missing, Proof, proof_field, Terms, epoch_at, commitment_at, proof_tests, proof_strings, input_tests}
use Rattle.paper.specs.Answer.{LookupAnswer}
use Rattle.paper.specs.declared.AcceptedLookup.TheVariants.{Found, NotRegistered}

-- "If 0: one path, version 1 absent from *all*. Otherwise .. paths: version v present in *all*, v absent from *old*, marker
-- floor(log2 v) present in *all*."
abbrev pub lookup_asked : ℕ → List Asked
lookup_asked zero = missing (in_all 1) ∷ []
lookup_asked (suc v) = present (in_all (suc v)) ∷ missing (in_old (suc v)) ∷ present (as_marker (log2 (suc v))) ∷ []

-- "If 0: one path .. Otherwise key length 1, key, opening"
abbrev pub lookup_keys : ℕ → ℕ
lookup_keys zero = 0
lookup_keys (suc v) = 1

-- "version (2, 0 to 1,023)"
abbrev pub lookup_field : Layout Proof
lookup_field = proof_field 1 lookup_keys (λ v t. lookup_asked v)

-- "The version's leaf has the key's commitment, and its epoch e has v ≤ e ≤ t; the marker's epoch is from 2^floor(log2 v) to e.
-- Here and in histories, present marker and *old* leaves have the zero commitment."
abbrev pub lookup_commitment : Proof → Place → Bytes
lookup_commitment p (in_all v) = commitment_at p 1
lookup_commitment p (in_old v) = zeros wide
lookup_commitment p (as_marker j) = zeros wide

abbrev pub lookup_epoch : Proof → Place → ℕ → Bool
lookup_epoch p (in_all v) e = leb v e && leb e p.head.epoch
lookup_epoch p (in_old v) e = true
lookup_epoch p (as_marker j) e = leb (2 ^ j) e && leb e (epoch_at p 1)

abbrev pub lookup_terms : Proof → Terms
lookup_terms p = record { commitment = lookup_commitment p; epoch = lookup_epoch p }

module _ (lab : Labelling) (name : Bytes) where
  -- the list of strings hashed
  abbrev pub lookup_strings : Proof → List Bytes
  lookup_strings p = proof_strings lab name (lookup_asked p.number) p

  -- "An accepted lookup gives its version, .. with the head's epoch and its digests"
  abbrev pub lookup_gives : ℕ → ℕ → ℕ → LookupAnswer
  lookup_gives zero t digests = Ok (NotRegistered t digests)
  lookup_gives (suc v) t digests = Ok (Found (suc v) t digests)

  abbrev pub lookup_read : Bytes → Read Proof → LookupAnswer
  lookup_read d bad = Err FORM
  lookup_read d (got p r) =
      verdict Err (lookup_gives p.number p.head.epoch (length (lookup_strings p))) (proof_tests lab name d (lookup_terms p) (lookup_asked p.number) p)

-- what the lookup checker answers to a head, a name and proof bytes
unfoldable pub check_lookup : Labelling → Bytes → Bytes → Bytes → LookupAnswer
check_lookup lab d name b = verdict Err (lookup_read lab name d (parse lookup_field b)) (input_tests d name)

-- "The accepted key of a lookup can be had as that part of the lent proof; a refusal or version 0 gives the empty part at its
-- start.": where it starts, and how long it is
abbrev pub key_start : LookupAnswer → ℕ
key_start (Ok (Found v t c)) = 109
key_start (Ok (NotRegistered t c)) = 0
key_start (Err r) = 0

abbrev pub key_length : LookupAnswer → Bytes → ℕ
key_length (Ok (Found v t c)) b = number (take 1 (drop 108 b))
key_length (Ok (NotRegistered t c)) b = 0
key_length (Err r) b = 0

abbrev pub accepted_key : LookupAnswer → Bytes → Bytes
accepted_key a b = take (key_length a b) (drop (key_start a) b)
