-- An audit proof out of the trees of its new epoch alone: its bytes, and what it is laid from.
use Rattle.std.specs.Prelude.{◌≡◌, List, ◌++◌, ℕ, ◌+◌, ◌-◌, ◌*◌, ◌≤◌, length}
use Rattle.paper.specs.Numbers.{wide, audit_most}
use Rattle.paper.specs.Bytes.{Bytes, pasted}
use Rattle.paper.specs.Strings.{Node, Head}
use Rattle.paper.specs.Tree.{root, root_digest}
use Rattle.paper.specs.Fields.{head_field}
use Rattle.paper.specs.Audit.{Audit, olds, list_field, audit_field}
use Rattle.paper.specs.Table.{previous_head}
use Rattle.paper.specs.Write.{below_root}
use Rattle.tree.specs.Stored.{Kept, Lent}
use Rattle.tree.specs.declared.StoredTree.{StoredTree}

-- the head of epoch t over two roots
abbrev pub head_with : Bytes → ℕ → Bytes → Bytes → Head
head_with heads t all old = record { epoch = t; previous = previous_head heads t; all = all; old = old }

-- the root of a tree before epoch t, out of its list
abbrev pub root_before : ℕ → List Node → Bytes
root_before t S = root_digest (olds (below_root t (root S)))

-- the step into epoch t, by the trees over A and O alone
abbrev pub audit_with : Bytes → ℕ → List Node → List Node → Audit
audit_with heads t A O = record {
  before = head_with heads (t - 1) (root_before t A) (root_before t O);
  after = head_with heads t (root_digest A) (root_digest O);
  all = below_root t (root A);
  old = below_root t (root O);
}

unfoldable pub bytes_with : Bytes → ℕ → List Node → List Node → Bytes
bytes_with heads t A O = audit_field.bytes (audit_with heads t A O)

-- what stands behind the old head
unfoldable pub new_with : Bytes → ℕ → List Node → List Node → Bytes
new_with heads t A O = head_field.bytes (head_with heads t (root_digest A) (root_digest O)) ++ (list_field.bytes (below_root t (root A)) ++ list_field.bytes (below_root t (root O)))

-- it lies over o, and its second list at `next`
pub record NewLaid (heads : Bytes) (t : ℕ) (A O : List Node) (o z : Bytes) (next : ℕ) : Type 0 where
  pub laid : z ≡ pasted o 106 (new_with heads t A O)
  pub second : next ≡ 206 + length (list_field.bytes (below_root t (root A)))

-- the head table reaches to the epoch before
pub record Step (heads : Bytes) (t : ℕ) : Type 0 where
  pub later : 1 ≤ t
  pub reach : t * wide ≤ length heads

-- a tree is stored, with no more leaves than a list may have
pub record Listable (t : StoredTree) : Type 0 where
  pub tree : Kept t
  pub few : length t.leaves.now ≤ audit_most

-- the same of a tree that is lent
pub record ListableLent (t : StoredTree) : Type 0 where
  pub tree : Lent t
  pub few : length t.leaves.now ≤ audit_most
