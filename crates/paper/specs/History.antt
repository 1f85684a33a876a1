-- Document 01, "History".
use Rattle.std.specs.Prelude.{Bool, ◌&&◌, List, ◌∷◌, ◌++◌, map, ℕ, zero, suc, ◌-◌, ◌^◌, Err, min, leb, ltb, eqb, length}
use Rattle.paper.specs.Lists.{up_from}
use Rattle.paper.specs.Numbers.{wide, FORM}
use Rattle.paper.specs.Bytes.{Bytes, zeros}
use Rattle.paper.specs.Bits.{log2}
use Rattle.paper.specs.Labelling.{Labelling}
use Rattle.paper.specs.Layout.{Layout, Read, got, bad, parse}
use Rattle.paper.specs.Verdict.{verdict}
use Rattle.paper.specs.Shows.{Place, in_all, in_old, as_marker, Asked, present, missing, Proof, proof_field, Terms, epoch_at, commitment_at, proof_tests, proof_strings, input_tests}
use Rattle.paper.specs.Answer.{HistoryAnswer, history_accepted}

-- how many markers there can be by epoch T: those from 0 to min(9, floor(log2 T)). "For T = 0: no markers are asked absent."
abbrev pub markers_by : ℕ → ℕ
markers_by zero = 0
markers_by (suc T) = suc (min 9 (log2 (suc T)))

-- markers from a on, absent
abbrev pub markers_missing : ℕ → ℕ → List Asked
markers_missing a T = map (λ j. missing (as_marker j)) (up_from a (markers_by T - a))

-- "Versions 1 to n present in *all*. Versions 1 to n-1 present in *old*. If n > 0, n absent from *old*. With a = floor(log2 n):
-- n+1 to 2^(a+1)-1 absent from *all*; markers 0 to a present; markers a+1 to min(9, floor(log2 T)) absent. For n = 0: only
-- markers 0 to min(9, floor(log2 T)), absent."
abbrev pub history_asked : ℕ → ℕ → List Asked
history_asked zero T = markers_missing 0 T
history_asked (suc m) T =
    map (λ i. present (in_all i)) (up_from 1 (suc m))
    ++ (map (λ i. present (in_old i)) (up_from 1 m)
    ++ (missing (in_old (suc m))
    ∷ (map (λ i. missing (in_all i)) (up_from (suc (suc m)) (2 ^ suc (log2 (suc m)) - suc (suc m)))
    ++ (map (λ j. present (as_marker j)) (up_from 0 (suc (log2 (suc m))))
    ++ markers_missing (suc (log2 (suc m))) T))))

-- "n (2, 0 to 1,023); n of key length, key, opening; then paths in this order."
abbrev pub history_field : Layout Proof
history_field = proof_field 2 (λ n. n) history_asked

-- "Each version's leaf has its key's commitment. Epochs have 1 ≤ e1 < e2 < .. ≤ T; *old* version i has epoch e(i+1); marker j has
-- the epoch of version 2^j."
abbrev pub history_commitment : Proof → Place → Bytes
history_commitment p (in_all i) = commitment_at p i
history_commitment p (in_old i) = zeros wide
history_commitment p (as_marker j) = zeros wide

abbrev pub history_epoch : Proof → Place → ℕ → Bool
history_epoch p (in_all i) e = ltb (epoch_at p (i - 1)) e && leb e p.head.epoch
history_epoch p (in_old i) e = eqb e (epoch_at p (suc i))
history_epoch p (as_marker j) e = eqb e (epoch_at p (2 ^ j))

abbrev pub history_terms : Proof → Terms
history_terms p = record { commitment = history_commitment p; epoch = history_epoch p }

module _ (lab : Labelling) (name : Bytes) where
  -- the list of strings hashed
  abbrev pub history_strings : Proof → List Bytes
  history_strings p = proof_strings lab name (history_asked p.number p.head.epoch) p

  -- "a history its n, each with the head's epoch and its digests"
  abbrev pub history_read : Bytes → Read Proof → HistoryAnswer
  history_read d bad = Err FORM
  history_read d (got p r) =
      verdict Err (history_accepted p.number p.head.epoch (length (history_strings p)))
      (proof_tests lab name d (history_terms p) (history_asked p.number p.head.epoch) p)

-- what the history checker answers to a head, a name and proof bytes
unfoldable pub check_history : Labelling → Bytes → Bytes → Bytes → HistoryAnswer
check_history lab d name b = verdict Err (history_read lab name d (parse history_field b)) (input_tests d name)
