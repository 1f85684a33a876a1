-- Document 01, "Publishing": records and tables, their shape, the leaves and roots of an epoch, and its head.
use Rattle.std.specs.Prelude.{Bool, true, cond, not, ◌&&◌, ℕ, zero, suc, ◌-◌, ◌*◌, ◌/◌, ◌%◌, ◌^◌, eqb, leb, ltb, length, take, drop}
use mathlib.Core.List.{List, [], ◌∷◌, ◌++◌, flat_map}
use Rattle.fips.specs.Sha256.{sha256}
use Rattle.paper.specs.Lists.{every, some, keep}
use Rattle.paper.specs.Numbers.{wide, version_most, record_size, records_most, heads_most}
use Rattle.paper.specs.Bytes.{Bytes, zeros}
use Rattle.paper.specs.Bits.{Bits, bits_of, log2}
use Rattle.paper.specs.Strings.{Node, leaf, Kind, version, marker, Head, head_string, commitment_string}
use Rattle.paper.specs.Labelling.{Labelling, same_name}
use Rattle.paper.specs.Tree.{key, root_digest}
use Rattle.paper.specs.Path.{same_bits}
use Rattle.paper.specs.Layout.{Layout, Read, block, fixed, within, seq, led, times, such, view, parse}
use Rattle.paper.specs.Fields.{is_name, digest_field, epoch_field}

pub record Record : Type 0 where
  pub name : Bytes
  pub version : ℕ
  pub epoch : ℕ
  pub key : Bytes
  pub opening : Bytes

pub record Update : Type 0 where
  pub name : Bytes
  pub key : Bytes
  pub opening : Bytes

-- "name length 1, name 64", "key length 1, key 64": a length of 1 to 64, the bytes, "unused bytes zero"
abbrev pub filled_body : ℕ → Layout Bytes
filled_body n = view (seq (block n) (λ _. fixed (zeros (64 - n)))) (λ x. x.0) (λ s. (s, tt))

abbrev pub filled_field : Layout Bytes
filled_field = led (within 1 1 64) length filled_body

abbrev pub name_field : Layout Bytes
name_field = such filled_field is_name

-- "A record has 168 bytes: name length 1, name 64, version 2, epoch 4, key length 1, key 64, opening 32, unused bytes zero."
abbrev pub record_field : Layout Record
record_field = view (seq name_field (λ _. seq (within 2 1 version_most) (λ _. seq epoch_field (λ _. seq filled_field (λ _. digest_field)))))
    (λ x. record { name = x.0; version = x.1.0; epoch = x.1.1.0; key = x.1.1.1.0; opening = x.1.1.1.1 })
    (λ r. (r.name, (r.version, (r.epoch, (r.key, r.opening)))))

-- "An update has 162 bytes: a record without version and epoch."
abbrev pub update_field : Layout Update
update_field = view (seq name_field (λ _. seq filled_field (λ _. digest_field)))
    (λ x. record { name = x.0; key = x.1.0; opening = x.1.1 })
    (λ u. (u.name, (u.key, u.opening)))

-- "record table | a multiple of 168 bytes, at most 4,096 records"
unfoldable pub records_within : Bytes → Bool
records_within records = eqb (length records % record_size) 0 && leb (length records / record_size) records_most

-- "head table | a multiple of 32 bytes, 1 to 65,536 heads"
unfoldable pub heads_within : Bytes → Bool
heads_within heads = eqb (length heads % wide) 0 && (leb 1 (length heads / wide) && leb (length heads / wide) heads_most)

-- the head of epoch t in the head table
unfoldable pub head_at : Bytes → ℕ → Bytes
head_at heads t = take wide (drop (t * wide) heads)

-- "The counted records and the current head must lie in their tables. Records past the count are not read."
unfoldable pub counted : Bytes → ℕ → Read (List Record)
counted records count = parse (times count record_field) (take (count * record_size) records)

unfoldable pub head_lies : Bytes → ℕ → Bool
head_lies heads epoch = leb (suc epoch * wide) (length heads)

-- "The tree of epoch t has the leaves with epoch at most t."
unfoldable pub by_epoch : ℕ → List Record → List Record
by_epoch t rs = keep (λ r. leb r.epoch t) rs

-- "Epoch 0 has 32 zero bytes as previous head"; "A previous head is read from the head table, and no other head is."
abbrev pub previous_head : Bytes → ℕ → Bytes
previous_head heads zero = zeros wide
previous_head heads (suc t) = head_at heads t

-- the version of the last record, or 0
unfoldable pub last_version : List Record → ℕ
last_version [] = 0
last_version (r ∷ []) = r.version
last_version (r ∷ q ∷ rs) = last_version (q ∷ rs)

module _ (lab : Labelling) where
  -- a name's own records, in order
  unfoldable pub own_records : Bytes → List Record → List Record
  own_records name rs = keep (λ r. same_name lab r.name name) rs

  -- "epochs lie between 1 and the current one and never fall, and each name's versions run 1, 2, 3 with rising epochs": of a
  -- record behind those before it
  unfoldable pub follows : ℕ → List Record → Record → Bool
  follows current earlier r =
      leb 1 r.epoch && (leb r.epoch current
      && (every (λ q. leb q.epoch r.epoch) earlier
      && (eqb r.version (suc (length (own_records r.name earlier)))
      && every (λ q. ltb q.epoch r.epoch) (own_records r.name earlier))))

  unfoldable pub in_shape : ℕ → List Record → List Record → Bool
  in_shape current earlier [] = true
  in_shape current earlier (r ∷ rs) = follows current earlier r && in_shape current (earlier ++ (r ∷ [])) rs

  -- "tree *all* gains the leaf of version v with its commitment; if v is 2^j it also gains marker j." "Marker leaves and *old*
  -- leaves have a zero commitment. All bear epoch e."
  abbrev pub leaf_of : Kind → ℕ → Bytes → Bytes → ℕ → Node
  leaf_of kind n name commitment e = leaf (bits_of (lab.label kind n (lab.person name))) commitment e

  unfoldable pub all_leaves : Record → List Node
  all_leaves r =
      leaf_of version r.version r.name (sha256 (commitment_string r.opening r.key)) r.epoch
      ∷ cond (eqb (2 ^ log2 r.version) r.version) (leaf_of marker (log2 r.version) r.name (zeros wide) r.epoch ∷ []) []

  -- "Tree *old* gains version v-1 if v is above 1."
  unfoldable pub old_leaves : Record → List Node
  old_leaves r = cond (ltb 1 r.version) (leaf_of version (r.version - 1) r.name (zeros wide) r.epoch ∷ []) []

  abbrev pub all_at : ℕ → List Record → List Node
  all_at t rs = flat_map all_leaves (by_epoch t rs)

  abbrev pub old_at : ℕ → List Record → List Node
  old_at t rs = flat_map old_leaves (by_epoch t rs)

  -- the head of epoch t
  abbrev pub head_of : Bytes → ℕ → List Record → Head
  head_of heads t rs = record { epoch = t; previous = previous_head heads t; all = root_digest (all_at t rs); old = root_digest (old_at t rs) }

  abbrev pub head_digest : Bytes → ℕ → List Record → Bytes
  head_digest heads t rs = sha256 (head_string (head_of heads t rs))

-- "two leaves of a needed tree share a label"
unfoldable pub holds : Bits → List Node → Bool
holds L S = some (λ x. same_bits (key x) L) S

unfoldable pub distinct : List Node → Bool
distinct [] = true
distinct (x ∷ S) = not (holds (key x) S) && distinct S
