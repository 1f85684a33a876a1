-- The three writers of lookup, history and audit proofs: what they answer and every byte that they leave.
use Rattle.std.specs.Prelude.{◌≡◌, Bool, true, false, cond, not, ◌&&◌, ◌||◌, List, [], ◌∷◌, ◌++◌, map, ℕ, ◌-◌, ◌≤◌, eqb, leb, length, take}
use Rattle.paper.specs.Lists.{every}
use Rattle.paper.specs.Numbers.{INPUT, TABLE, EPOCH, CLASH, ROOM}
use Rattle.paper.specs.Bytes.{Bytes, pasted}
use Rattle.paper.specs.Strings.{Node, leaf, inner, nothing}
use Rattle.paper.specs.Labelling.{Labelling}
use Rattle.paper.specs.Tree.{Tree, empty, one, fork, digest, top, root}
use Rattle.paper.specs.Path.{Path, way}
use Rattle.paper.specs.Layout.{Read, got, bad}
use Rattle.paper.specs.Fields.{is_name}
use Rattle.paper.specs.Verdict.{test, verdict}
use Rattle.paper.specs.Shows.{Place, in_all, in_old, as_marker, Asked, Item, Proof, label_at}
use Rattle.paper.specs.Lookup.{lookup_asked, lookup_field}
use Rattle.paper.specs.History.{history_asked, history_field}
use Rattle.paper.specs.Audit.{AuditRecord, unchanged, opened, fresh, Audit, audit_field}
use Rattle.paper.specs.Table.{Record, records_within, heads_within, counted, head_lies, in_shape, own_records, last_version, by_epoch, all_at, old_at, head_of, holds, distinct}
use Rattle.paper.specs.declared.State.{State}
use Rattle.paper.specs.Answer.{WriteAnswer, written, returned}
use Rattle.paper.specs.declared.Refusal.{Refusal}

-- what a writer leaves: the answer, and the lent output
pub record Written : Type 0 where
  pub answer : WriteAnswer
  pub out : Bytes

abbrev pub item_of : Record → Item
item_of r = record { key = r.key; opening = r.opening }

-- the key of the last version
unfoldable pub last_item : List Record → List Item
last_item [] = []
last_item (r ∷ []) = item_of r ∷ []
last_item (r ∷ q ∷ rs) = last_item (q ∷ rs)

module _ (lab : Labelling) (name : Bytes) (t : ℕ) (rs : List Record) where
  -- "A lookup at epoch t answers the name's last version with epoch at most t, or version 0; a history answers all its versions by
  -- then."
  abbrev pub versions_by : List Record
  versions_by = own_records lab name (by_epoch t rs)

  abbrev pub leaves_at : Place → List Node
  leaves_at (in_all i) = all_at lab t rs
  leaves_at (in_old i) = old_at lab t rs
  leaves_at (as_marker j) = all_at lab t rs

  -- the paths that are asked, in their order
  abbrev pub paths_of : List Asked → List Path
  paths_of asked = map (λ a. way (label_at lab name a.place) (root (leaves_at a.place))) asked

  -- "two leaves of a needed tree share a label, or a label to be shown absent is there"
  abbrev pub unclashed : List Asked → Bool
  unclashed asked = distinct (all_at lab t rs) && (distinct (old_at lab t rs)
      && every (λ a. a.there || not (holds (label_at lab name a.place) (leaves_at a.place))) asked)

  -- "A previous head is read from the head table"
  abbrev pub lookup_proof : Bytes → Proof
  lookup_proof heads = record {
    head = head_of lab heads t rs;
    number = last_version versions_by;
    items = last_item versions_by;
    paths = paths_of (lookup_asked (last_version versions_by));
  }

  abbrev pub history_proof : Bytes → Proof
  history_proof heads = record {
    head = head_of lab heads t rs;
    number = length versions_by;
    items = map item_of versions_by;
    paths = paths_of (history_asked (length versions_by) t);
  }

-- whether a leaf of the tree is new at epoch t
unfoldable pub has_new : ℕ → Tree → Bool
has_new t empty = false
has_new t (one (leaf m c e)) = eqb e t
has_new t (one (inner p l r)) = false
has_new t (one nothing) = false
has_new t (fork p l r) = has_new t l || has_new t r

-- "The writer gives the largest subtrees of the new tree, below its root, with no new leaf."
unfoldable pub subtrees : ℕ → Tree → List AuditRecord
subtrees t empty = []
subtrees t (one (leaf m c e)) = cond (eqb e t) (fresh m c e) (unchanged m c e) ∷ []
subtrees t (one (inner p l r)) = opened p l r ∷ []
subtrees t (one nothing) = []
subtrees t (fork p l r) = cond (has_new t l || has_new t r) (subtrees t l ++ subtrees t r) (opened p (digest (top l)) (digest (top r)) ∷ [])

unfoldable pub below_root : ℕ → Tree → List AuditRecord
below_root t empty = []
below_root t (one x) = []
below_root t (fork p l r) = subtrees t l ++ subtrees t r

module _ (lab : Labelling) where
  -- the step into epoch t
  abbrev pub audit_proof : Bytes → ℕ → List Record → Audit
  audit_proof heads t rs = record {
    before = head_of lab heads (t - 1) rs;
    after = head_of lab heads t rs;
    all = below_root t (root (all_at lab t rs));
    old = below_root t (root (old_at lab t rs));
  }

  module _ (records heads : Bytes) (state : State) (out : Bytes) where
    abbrev pub unwritten : Refusal → Written
    unwritten r = record { answer = returned state r; out = out }

    -- "Writers test 1, 11, 10, 7, 8.": at epoch t, with the trees' test and the proof's bytes for the counted records
    abbrev pub write_read : ℕ → (List Record → Bool) → (List Record → Bytes) → Read (List Record) → Written
    write_read t clear proof bad = unwritten TABLE
    write_read t clear proof (got rs r) =
        verdict unwritten (record { answer = written (length (proof rs)) state; out = pasted out 0 (proof rs) })
        (test TABLE (head_lies heads state.epoch && in_shape lab state.epoch [] rs)
        ∷ test EPOCH (leb t state.epoch)
        ∷ test CLASH (clear rs)
        ∷ test ROOM (leb (length (proof rs)) (length out))
        ∷ [])

    unfoldable pub write_with : Bool → ℕ → (List Record → Bool) → (List Record → Bytes) → Written
    write_with input t clear proof =
        verdict unwritten (write_read t clear proof (counted records state.count)) (test INPUT (records_within records && (heads_within heads && input)) ∷ [])

    -- what an answer of n bytes says, where these are the counted records: every test passed, and the proof stands at the output's start
    pub record Wrote (input : Bool) (t : ℕ) (clear : List Record → Bool) (proof : List Record → Bytes) (rs : List Record) (n : ℕ) : Type 0 where
      pub records-within : records_within records ≡ true
      pub heads-within : heads_within heads ≡ true
      pub input-good : input ≡ true
      pub lies : head_lies heads state.epoch ≡ true
      pub shape : in_shape lab state.epoch [] rs ≡ true
      pub reached : t ≤ state.epoch
      pub unclashed : clear rs ≡ true
      pub room : n ≤ length out
      pub bytes : take n (write_with input t clear proof).out ≡ proof rs

    abbrev pub write_lookup : Bytes → ℕ → Written
    write_lookup name t =
        write_with (is_name name) t
        (λ rs. unclashed lab name t rs (lookup_asked (last_version (versions_by lab name t rs))))
        (λ rs. lookup_field.bytes (lookup_proof lab name t rs heads))

    abbrev pub write_history : Bytes → ℕ → Written
    write_history name t =
        write_with (is_name name) t
        (λ rs. unclashed lab name t rs (history_asked (length (versions_by lab name t rs)) t))
        (λ rs. history_field.bytes (history_proof lab name t rs heads))

    -- "or an audit writer's new epoch is 0"
    abbrev pub write_audit : ℕ → Written
    write_audit t =
        write_with (leb 1 t) t
        (λ rs. distinct (all_at lab (t - 1) rs) && (distinct (old_at lab (t - 1) rs) && (distinct (all_at lab t rs) && distinct (old_at lab t rs))))
        (λ rs. audit_field.bytes (audit_proof heads t rs))
