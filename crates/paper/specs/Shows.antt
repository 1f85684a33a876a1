-- Lookup and history proofs: a head, keys with their openings, and paths in an order that the document gives. What the paths are
-- asked to show, the tests in their order, and the strings that are hashed.
use Rattle.std.specs.Prelude.{Bool, true, false, cond, ◌&&◌, List, [], ◌∷◌, ◌++◌, map, ℕ, zero, suc, ◌-◌, eqb, length, get_or}
use Rattle.fips.specs.Sha256.{sha256}
use Rattle.paper.specs.Numbers.{wide, version_most, INPUT, HEAD, ROOT, RULE}
use Rattle.paper.specs.Bytes.{Bytes, same}
use Rattle.paper.specs.Bits.{Bits, bits_of}
use Rattle.paper.specs.Strings.{Kind, version, marker, node_string, Head, head_string, commitment_string}
use Rattle.paper.specs.Labelling.{Labelling}
use Rattle.paper.specs.Path.{Path, none, path_nodes, path_root, last_length, present_with, epoch_of, absent}
use Rattle.paper.specs.Layout.{Layout, within, seq, times, view}
use Rattle.paper.specs.Fields.{is_name, digest_field, key_field, head_field, opens, path_field}
use Rattle.paper.specs.Verdict.{Test, test}

-- a place in the trees: version i in *all*, version i in *old*, marker j in *all*
pub data Place : Type 0 where
  in_all : ℕ → Place
  in_old : ℕ → Place
  as_marker : ℕ → Place

-- what a path is to show of a place: that its label is there, or that it is not
pub record Asked : Type 0 where
  pub place : Place
  pub there : Bool

abbrev pub present : Place → Asked
present x = record { place = x; there = true }

abbrev pub missing : Place → Asked
missing x = record { place = x; there = false }

-- "n of key length, key, opening"
pub record Item : Type 0 where
  pub key : Bytes
  pub opening : Bytes

abbrev pub item_field : Layout Item
item_field = view (seq key_field (λ _. digest_field)) (λ x. record { key = x.0; opening = x.1 }) (λ i. (i.key, i.opening))

pub record Proof : Type 0 where
  pub head : Head
  -- a lookup's version, a history's n
  pub number : ℕ
  pub items : List Item
  pub paths : List Path

-- header, head, a number up to 1,023, as many keys as it says, and the paths that are asked
abbrev pub proof_field : ℕ → (ℕ → ℕ) → (ℕ → ℕ → List Asked) → Layout Proof
proof_field kind keys asked =
    view (seq (opens kind) (λ _. seq head_field (λ h. seq (within 2 0 version_most) (λ n.
    seq (times (keys n) item_field) (λ _. times (length (asked n h.epoch)) path_field)))))
    (λ x. record { head = x.1.0; number = x.1.1.0; items = x.1.1.1.0; paths = x.1.1.1.1 })
    (λ p. (tt, (p.head, (p.number, (p.items, p.paths)))))

abbrev pub kind_of : Place → Kind
kind_of (in_all i) = version
kind_of (in_old i) = version
kind_of (as_marker j) = marker

abbrev pub number_of : Place → ℕ
number_of (in_all i) = i
number_of (in_old i) = i
number_of (as_marker j) = j

abbrev pub root_at : Head → Place → Bytes
root_at h (in_all i) = h.all
root_at h (in_old i) = h.old
root_at h (as_marker j) = h.all

-- on which terms a leaf that is present is accepted: its commitment, and a test of its epoch
pub record Terms : Type 0 where
  pub commitment : Place → Bytes
  pub epoch : Place → ℕ → Bool

module _ (p : Proof) where
  -- the epoch of the i-th path's leaf, from 1
  unfoldable pub epoch_at : ℕ → ℕ
  epoch_at zero = 0
  epoch_at (suc i) = epoch_of (get_or p.paths i (record { steps = []; end = none })).end

  -- the commitment of the i-th key, from 1
  unfoldable pub commitment_at : ℕ → Bytes
  commitment_at i =
      let x : Item = get_or p.items (i - 1) (record { key = []; opening = [] }) in
      sha256 (commitment_string x.opening x.key)

module _ (lab : Labelling) (name : Bytes) where
  abbrev pub label_at : Place → Bits
  label_at x = bits_of (lab.label (kind_of x) (number_of x) (lab.person name))

  -- "4 before 5 for each": the path gives the tree's root; and its end shows what is asked, on the terms
  unfoldable pub meets : Terms → Asked → Path → Bool
  meets terms a x =
      cond a.there
      (present_with (terms.commitment a.place) x.end && terms.epoch a.place (epoch_of x.end))
      (absent (label_at a.place) (last_length x.steps) x.end)

  unfoldable pub path_tests : Head → Terms → List Asked → List Path → List Test
  path_tests h terms [] ps = []
  path_tests h terms (a ∷ more) [] = []
  path_tests h terms (a ∷ more) (x ∷ ps) =
      test ROOT (same (path_root (label_at a.place) x) (root_at h a.place))
      ∷ test RULE (meets terms a x)
      ∷ path_tests h terms more ps

  -- "m+2 for each path (its label, m nodes, its end)"
  unfoldable pub path_strings : List Asked → List Path → List Bytes
  path_strings [] ps = []
  path_strings (a ∷ more) [] = []
  path_strings (a ∷ more) (x ∷ ps) =
      lab.strings (kind_of a.place) (number_of a.place) (lab.person name)
      ++ (map node_string (path_nodes (label_at a.place) x.steps x.end) ++ path_strings more ps)

  -- "Digests: 1 for the head, 1 for each key", and the paths'
  unfoldable pub proof_strings : List Asked → Proof → List Bytes
  proof_strings asked p = head_string p.head ∷ (map (λ i. commitment_string i.opening i.key) p.items ++ path_strings asked p.paths)

  -- "Checkers test .. 3; then lookup and history take paths in order"
  unfoldable pub proof_tests : Bytes → Terms → List Asked → Proof → List Test
  proof_tests d terms asked p = test HEAD (same (sha256 (head_string p.head)) d) ∷ path_tests p.head terms asked p.paths

-- "an argument breaks the bounds": a head of 32 bytes, and a name
unfoldable pub input_tests : Bytes → Bytes → List Test
input_tests d name = test INPUT (eqb (length d) wide && is_name name) ∷ []
