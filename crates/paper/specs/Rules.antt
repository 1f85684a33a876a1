-- Document 01's rules of a lookup, a history and an audit proof, one by one, as propositions: no test of the checkers' definitions stands here.
-- proofs/Exact.antt shows that a checker accepts exactly where these hold.
use Rattle.std.specs.Prelude.{◌≡◌, ◌⊎◌, true, false, List, [], ◌∷◌, ℕ, zero, suc, ◌+◌, ◌^◌, ◌≤◌, ◌<◌, min, length, take, get_or}
use Rattle.fips.specs.Sha256.{sha256}
use Rattle.paper.specs.Lists.{All}
use Rattle.paper.specs.Numbers.{wide, name_most, name_byte_low, name_byte_high}
use Rattle.paper.specs.Bytes.{Bytes, zeros}
use Rattle.paper.specs.Bits.{Bits, Pfx, ◌▹◌, log2}
use Rattle.paper.specs.Strings.{Head, head_string}
use Rattle.paper.specs.Labelling.{Labelling}
use Rattle.paper.specs.Tree.{root_digest}
use Rattle.paper.specs.Path.{End, this, other, off, none, Path, path_root, last_length}
use Rattle.paper.specs.Layout.{Layout}
use Rattle.paper.specs.Shows.{in_all, as_marker, Proof, commitment_at, label_at}
use Rattle.paper.specs.Lookup.{lookup_field}
use Rattle.paper.specs.History.{history_field}
use Rattle.paper.specs.Audit.{AuditRecord, unchanged, opened, fresh, Audit, audit_field, olds, news, record_key}
use Rattle.paper.specs.declared.Which.{Which}
use Rattle.paper.specs.declared.Which.TheVariants.{OfAll, OfOld}

-- ---- bounds and layout

-- "name | 1 to 64 bytes, each 0x21 to 0x7E"
pub record NameBounds (name : Bytes) : Type 0 where
  pub least : 1 ≤ length name
  pub most : length name ≤ name_most
  pub each : All (λ b. (name_byte_low ≤ b) × (b ≤ name_byte_high)) name

-- "an argument breaks the bounds": a head has 32 bytes, and a name is a name
pub record Bounds (d name : Bytes) : Type 0 where
  pub head-size : length d ≡ wide
  pub name-bounds : NameBounds name

-- for an audit: two heads of 32 bytes
pub record HeadBounds (d d' : Bytes) : Type 0 where
  pub old-size : length d ≡ wide
  pub new-size : length d' ≡ wide

-- "proof bytes break the layout": bytes are in layout where a value in the document's ranges has these very bytes
pub record LaidOut {A : Type 0} (field : Layout A) (x : A) (b : Bytes) : Type 0 where
  pub fits : field.Fits x
  pub bytes : field.bytes x ≡ b

-- ---- a path for a label

-- "the others absence. With k the last step's length, another leaf has the label's first k+1 bits and is not the label; another inner
-- node is longer than k+1, has those bits and is no prefix of the label."
abbrev pub AbsentEnd : Bits → ℕ → End → Type 0
AbsentEnd L k (this c e) = ⊥
AbsentEnd L k (other m c e) = Pfx (take (suc k) L) m × ¬ (m ≡ L)
AbsentEnd L k (off p l r) = (suc k < length p) × Pfx (take (suc k) L) p × ¬ Pfx p L
AbsentEnd L k none = Unit {0}

module _ (L : Bits) (root : Bytes) (x : Path) where
  -- "End 0 shows presence": the path gives the root, and ends at this leaf with this commitment and epoch
  pub record Present (commitment : Bytes) (epoch : ℕ) : Type 0 where
    pub gives : path_root L x ≡ root
    pub ends : x.end ≡ this commitment epoch

  pub record Absent : Type 0 where
    pub gives : path_root L x ≡ root
    pub ends : AbsentEnd L (last_length x.steps) x.end

-- the i-th path of a proof, from 1; how many there are is part of the layout
abbrev pub path_at : Proof → ℕ → Path
path_at p zero = record { steps = []; end = none }
path_at p (suc i) = get_or p.paths i (record { steps = []; end = none })

module _ (lab : Labelling) (d name : Bytes) (p : Proof) where
  -- the labels of the name's version i, and of its marker j
  abbrev pub version_label : ℕ → Bits
  version_label i = label_at lab name (in_all i)

  abbrev pub marker_label : ℕ → Bits
  marker_label j = label_at lab name (as_marker j)

  -- ---- lookups

  -- "paths: version v present in *all*, v absent from *old*, marker floor(log2 v) present in *all*"
  pub record Registered (v : ℕ) : Type 0 where
    pub e : ℕ
    -- "The version's leaf has the key's commitment, and its epoch e has v ≤ e ≤ t"
    pub version-there : Present (version_label v) p.head.all (path_at p 1) (commitment_at p 1) e
    pub epoch-least : v ≤ e
    pub epoch-most : e ≤ p.head.epoch
    pub not-replaced : Absent (version_label v) p.head.old (path_at p 2)
    -- "the marker's epoch is from 2^floor(log2 v) to e"; "present marker .. leaves have the zero commitment"
    pub marker-epoch : ℕ
    pub marker-there : Present (marker_label (log2 v)) p.head.all (path_at p 3) (zeros wide) marker-epoch
    pub marker-least : 2 ^ log2 v ≤ marker-epoch
    pub marker-most : marker-epoch ≤ e

  pub record LookupRules : Type 0 where
    -- "an opening does not hash to its head" is 3
    pub opens : sha256 (head_string p.head) ≡ d
    -- "If 0: one path, version 1 absent from *all*."
    pub unregistered : p.number ≡ 0 → Absent (version_label 1) p.head.all (path_at p 1)
    -- "Otherwise .."
    pub registered : 0 < p.number → Registered p.number

  -- ---- histories

  -- n is the proof's number, T its head's epoch, e the versions' epochs. Of the paths "in this order" version i has the i-th, *old* version i
  -- the (n+i)-th, n in *old* the 2n-th, the absent version i the (n+i)-th, and marker j the (n+2^(a+1)+j)-th, with a = floor(log2 n).
  module _ (n T : ℕ) (e : ℕ → ℕ) where
    pub record Versions : Type 0 where
      -- "Versions 1 to n present in *all*." "Each version's leaf has its key's commitment."
      pub there : (i : ℕ) → 1 ≤ i → i ≤ n → Present (version_label i) p.head.all (path_at p i) (commitment_at p i) (e i)
      -- "Epochs have 1 ≤ e1 < e2 < .. ≤ T"
      pub first : 1 ≤ n → 1 ≤ e 1
      pub rise : (i : ℕ) → 1 ≤ i → i < n → e i < e (suc i)
      pub reach : (i : ℕ) → 1 ≤ i → i ≤ n → e i ≤ T
      -- "Versions 1 to n-1 present in *old*." "*old* version i has epoch e(i+1)"; "*old* leaves have the zero commitment"
      pub replaced : (i : ℕ) → 1 ≤ i → i < n → Present (version_label i) p.head.old (path_at p (n + i)) (zeros wide) (e (suc i))
      -- "If n > 0, n absent from *old*."
      pub not-replaced : 1 ≤ n → Absent (version_label n) p.head.old (path_at p (n + n))
      -- "n+1 to 2^(a+1)-1 absent from *all*"
      pub none_after : 1 ≤ n → (i : ℕ) → n < i → i < 2 ^ suc (log2 n) → Absent (version_label i) p.head.all (path_at p (n + i))
      -- "markers 0 to a present"; "marker j has the epoch of version 2^j"; "present marker .. leaves have the zero commitment"
      pub marked : 1 ≤ n → (j : ℕ) → j ≤ log2 n → Present (marker_label j) p.head.all (path_at p (n + 2 ^ suc (log2 n) + j)) (zeros wide) (e (2 ^ j))
      -- "markers a+1 to min(9, floor(log2 T)) absent"; "For T = 0: no markers are asked absent."
      pub unmarked : 1 ≤ n → 1 ≤ T → (j : ℕ) → log2 n < j → j ≤ min 9 (log2 T) → Absent (marker_label j) p.head.all (path_at p (n + 2 ^ suc (log2 n) + j))
      -- "For n = 0: only markers 0 to min(9, floor(log2 T)), absent."
      pub no-version : n ≡ 0 → 1 ≤ T → (j : ℕ) → j ≤ min 9 (log2 T) → Absent (marker_label j) p.head.all (path_at p (suc j))

  pub record HistoryRules : Type 0 where
    pub opens : sha256 (head_string p.head) ≡ d
    pub e : ℕ → ℕ
    pub versions : Versions p.number p.head.epoch e

-- ---- audits

-- x and y part at a bit that is 0 in x and 1 in y
pub record Before (x y : Bits) : Type 0 where
  pub at : Bits
  pub low : Pfx (at ▹ false) x
  pub high : Pfx (at ▹ true) y

-- each record with each later one
abbrev pub Pairs : (Bits → Bits → Type 0) → List AuditRecord → Type 0
Pairs P [] = Unit {0}
Pairs P (x ∷ R) = All (λ y. P (record_key x) (record_key y)) R × Pairs P R

-- "Leaves of *old* have a zero commitment."
abbrev pub CommitmentIn : Which → Bytes → Type 0
CommitmentIn OfAll c = Unit {0}
CommitmentIn OfOld c = c ≡ zeros wide

-- "new leaves bear the new epoch, unchanged leaves an epoch from 1 to the old one"
abbrev pub RecordRules : Which → ℕ → ℕ → AuditRecord → Type 0
RecordRules w old new (unchanged m c e) = (1 ≤ e) × (e ≤ old) × CommitmentIn w c
RecordRules w old new (opened p l r) = Unit {0}
RecordRules w old new (fresh m c e) = (e ≡ new) × CommitmentIn w c

-- a list's own rules
pub record Listed (w : Which) (old new : ℕ) (R : List AuditRecord) : Type 0 where
  -- "Records stand in bit order": an earlier one begins a later one, or parts from it at a bit that is 0 in the earlier
  pub order : Pairs (λ x y. Pfx x y ⊎ Before x y) R
  -- "and none is a prefix of another"
  pub apart : Pairs (λ x y. (¬ Pfx x y) × (¬ Pfx y x)) R
  pub each : All (RecordRules w old new) R

pub record ListRules (w : Which) (old new : ℕ) (R : List AuditRecord) (old_root new_root : Bytes) : Type 0 where
  pub listed : Listed w old new R
  -- "Kinds 0 and 1 build the old root, all records the new."
  pub builds-old : root_digest (olds R) ≡ old_root
  pub builds-new : root_digest (news R) ≡ new_root

-- "The new epoch is the old plus one (nothing follows the largest), its previous head is the old head"
pub record Joined (d : Bytes) (before after : Head) : Type 0 where
  pub next : after.epoch ≡ suc before.epoch
  pub previous : after.previous ≡ d

pub record AuditRules (d d' : Bytes) (a : Audit) : Type 0 where
  pub opens-old : sha256 (head_string a.before) ≡ d
  pub opens-new : sha256 (head_string a.after) ≡ d'
  pub joined : Joined d a.before a.after
  -- "for *all* and for *old*"
  pub all_list : ListRules OfAll a.before.epoch a.after.epoch a.all a.before.all a.after.all
  pub old-list : ListRules OfOld a.before.epoch a.after.epoch a.old a.before.old a.after.old

-- ---- accepted

-- what has to hold of the arguments that a checker accepts: bounds, layout, and every rule
pub record LookupMeets (lab : Labelling) (d name b : Bytes) : Type 0 where
  pub bounds : Bounds d name
  pub proof : Proof
  pub laid : LaidOut lookup_field proof b
  pub rules : LookupRules lab d name proof

pub record HistoryMeets (lab : Labelling) (d name b : Bytes) : Type 0 where
  pub bounds : Bounds d name
  pub proof : Proof
  pub laid : LaidOut history_field proof b
  pub rules : HistoryRules lab d name proof

pub record AuditMeets (d d' b : Bytes) : Type 0 where
  pub bounds : HeadBounds d d'
  pub audit : Audit
  pub laid : LaidOut audit_field audit b
  pub rules : AuditRules d d' audit
