-- Document 01, "Audit".
use Rattle.std.specs.Prelude.{Bool, true, false, ◌&&◌, List, [], ◌∷◌, ◌++◌, map, ℕ, zero, suc, Err, leb, eqb, length}
use Rattle.fips.specs.Sha256.{sha256}
use Rattle.paper.specs.Lists.{every}
use Rattle.paper.specs.Numbers.{wide, audit_most, INPUT, FORM, HEAD, ROOT, RULE}
use Rattle.paper.specs.Bytes.{Bytes, be, zeros, same}
use Rattle.paper.specs.Bits.{Bits, starts, ◌▹◌, lcp}
use Rattle.paper.specs.Strings.{Node, leaf, inner, node_string, Head, head_string}
use Rattle.paper.specs.Tree.{nodes, root, root_digest}
use Rattle.paper.specs.Layout.{Layout, Read, got, bad, fixed, within, seq, led, times, view, never, parse}
use Rattle.paper.specs.Fields.{digest_field, epoch_field, label_field, prefix_field, head_field, opens}
use Rattle.paper.specs.Verdict.{Test, test, verdict}
use Rattle.paper.specs.Answer.{AuditAnswer, audit_accepted}
use Rattle.paper.specs.declared.Which.{Which}
use Rattle.paper.specs.declared.Which.TheVariants.{OfAll, OfOld}

-- "Kind 0 is an unchanged leaf, 1 an unchanged inner node (length 1 to 255), 2 a new leaf"
pub data AuditRecord : Type 0 where
  unchanged : Bits → Bytes → ℕ → AuditRecord
  opened : Bits → Bytes → Bytes → AuditRecord
  fresh : Bits → Bytes → ℕ → AuditRecord

abbrev pub record_kind : AuditRecord → ℕ
record_kind (unchanged m c e) = 0
record_kind (opened p l r) = 1
record_kind (fresh m c e) = 2

-- the fields of an unchanged leaf, of an opened node, of a new leaf; those of another kind are no fields of it
abbrev pub unchanged_fields : AuditRecord → Bits × (Bytes × ℕ)
unchanged_fields (unchanged m c e) = (m, (c, e))
unchanged_fields (opened p l r) = ([], ([], 0))
unchanged_fields (fresh m c e) = ([], ([], 0))

abbrev pub opened_fields : AuditRecord → Bits × (Bytes × Bytes)
opened_fields (unchanged m c e) = ([], ([], []))
opened_fields (opened p l r) = (p, (l, r))
opened_fields (fresh m c e) = ([], ([], []))

abbrev pub fresh_fields : AuditRecord → Bits × (Bytes × ℕ)
fresh_fields (unchanged m c e) = ([], ([], 0))
fresh_fields (opened p l r) = ([], ([], 0))
fresh_fields (fresh m c e) = (m, (c, e))

-- "length 2, label .. 32, then .. commitment, epoch and 28 zero bytes"; "leaves have length 256"
abbrev pub leaf_fields : Layout (Bits × (Bytes × ℕ))
leaf_fields =
    view (seq (fixed (be 2 256)) (λ _. seq label_field (λ _. seq digest_field (λ _. seq epoch_field (λ _. fixed (zeros 28))))))
    (λ x. (x.1.0, (x.1.1.0, x.1.1.1.0)))
    (λ x. (tt, (x.0, (x.1.0, (x.1.1, tt)))))

-- "records of 99 bytes: kind, length 2, label or prefix 32, then for kind 1 two digests, for kinds 0 and 2 commitment, epoch and
-- 28 zero bytes"
unfoldable pub record_of : ℕ → Layout AuditRecord
record_of zero = view leaf_fields (λ x. unchanged x.0 x.1.0 x.1.1) unchanged_fields
record_of (suc zero) = view (seq prefix_field (λ _. seq digest_field (λ _. digest_field))) (λ x. opened x.0 x.1.0 x.1.1) opened_fields
record_of (suc (suc zero)) = view leaf_fields (λ x. fresh x.0 x.1.0 x.1.1) fresh_fields
record_of (suc (suc (suc k))) = never

abbrev pub audit_record_field : Layout AuditRecord
audit_record_field = led (within 1 0 2) record_kind record_of

-- "for *all* and for *old* a count (4) and records"
abbrev pub list_field : Layout (List AuditRecord)
list_field = led (within 4 0 audit_most) length (λ n. times n audit_record_field)

pub record Audit : Type 0 where
  pub before : Head
  pub after : Head
  pub all : List AuditRecord
  pub old : List AuditRecord

-- "a second head opening (the new one), then for *all* and for *old* .."
abbrev pub audit_field : Layout Audit
audit_field = view (seq (opens 3) (λ _. seq head_field (λ _. seq head_field (λ _. seq list_field (λ _. list_field)))))
    (λ x. record { before = x.1.0; after = x.1.1.0; all = x.1.1.1.0; old = x.1.1.1.1 })
    (λ a. (tt, (a.before, (a.after, (a.all, a.old)))))

-- "Kinds 0 and 1 build the old root, all records the new."
unfoldable pub olds : List AuditRecord → List Node
olds [] = []
olds (unchanged m c e ∷ R) = leaf m c e ∷ olds R
olds (opened p l r ∷ R) = inner p l r ∷ olds R
olds (fresh m c e ∷ R) = olds R

unfoldable pub news : List AuditRecord → List Node
news [] = []
news (unchanged m c e ∷ R) = leaf m c e ∷ news R
news (opened p l r ∷ R) = inner p l r ∷ news R
news (fresh m c e ∷ R) = leaf m c e ∷ news R

abbrev pub record_key : AuditRecord → Bits
record_key (unchanged m c e) = m
record_key (opened p l r) = p
record_key (fresh m c e) = m

-- x stands before y in bit order and neither is a prefix of the other: they part at a bit that is 0 in x and 1 in y
unfoldable pub before? : Bits → Bits → Bool
before? x y = starts (lcp x y ▹ false) x && starts (lcp x y ▹ true) y

-- "Records stand in bit order and none is a prefix of another.": asked of neighbours, it holds of all (proofs/)
unfoldable pub in_order : List AuditRecord → Bool
in_order [] = true
in_order (x ∷ []) = true
in_order (x ∷ y ∷ R) = before? (record_key x) (record_key y) && in_order (y ∷ R)

-- by the tree that a list is for: "Leaves of *old* have a zero commitment."
abbrev pub commitment_in : Which → Bytes → Bool
commitment_in OfAll c = true
commitment_in OfOld c = same c (zeros wide)

-- "new leaves bear the new epoch, unchanged leaves an epoch from 1 to the old one"
abbrev pub record_rule : Which → ℕ → ℕ → AuditRecord → Bool
record_rule w old new (unchanged m c e) = leb 1 e && (leb e old && commitment_in w c)
record_rule w old new (opened p l r) = true
record_rule w old new (fresh m c e) = eqb e new && commitment_in w c

-- "then per tree its list rules, old root, new root"
abbrev pub list_tests : Which → ℕ → ℕ → List AuditRecord → Bytes → Bytes → List Test
list_tests w old new R old_root new_root =
    test RULE (in_order R && every (record_rule w old new) R)
    ∷ test ROOT (same (root_digest (olds R)) old_root)
    ∷ test ROOT (same (root_digest (news R)) new_root)
    ∷ []

-- "Audits test the old head, the new head, the rules joining the heads, then per tree ..". "The new epoch is the old plus one
-- (nothing follows the largest), its previous head is the old head"
unfoldable pub audit_tests : Bytes → Bytes → Audit → List Test
audit_tests d d' a =
    test HEAD (same (sha256 (head_string a.before)) d)
    ∷ test HEAD (same (sha256 (head_string a.after)) d')
    ∷ test RULE (eqb a.after.epoch (suc a.before.epoch) && same a.after.previous d)
    ∷ (list_tests OfAll a.before.epoch a.after.epoch a.all a.before.all a.after.all
    ++ list_tests OfOld a.before.epoch a.after.epoch a.old a.before.old a.after.old)

-- "An audit counts its two heads and, for each tree it lists, first for the old root and then for the new, each leaf, inner node,
-- opened node and nothing that the rule builds, a nothing once for each empty side."
abbrev pub list_strings : List AuditRecord → List Bytes
list_strings R = map node_string (nodes (root (olds R))) ++ map node_string (nodes (root (news R)))

unfoldable pub audit_strings : Audit → List Bytes
audit_strings a = head_string a.before ∷ head_string a.after ∷ (list_strings a.all ++ list_strings a.old)

-- "an audit gives both epochs and its digests"
abbrev pub audit_read : Bytes → Bytes → Read Audit → AuditAnswer
audit_read d d' bad = Err FORM
audit_read d d' (got a r) = verdict Err (audit_accepted a.before.epoch a.after.epoch (length (audit_strings a))) (audit_tests d d' a)

-- "an argument breaks the bounds": heads of 32 bytes
abbrev pub audit_input_tests : Bytes → Bytes → List Test
audit_input_tests d d' = test INPUT (eqb (length d) wide && eqb (length d') wide) ∷ []

-- what the audit checker answers to two heads and proof bytes
unfoldable pub check_audit : Bytes → Bytes → Bytes → AuditAnswer
check_audit d d' b = verdict Err (audit_read d d' (parse audit_field b)) (audit_input_tests d d')
