-- What the recursion over an audit's records answers, by the definition's trees.
use Rattle.std.specs.Prelude.{◌≡◌, Bool, true, false, cond, Option, None, Some, List, [], ◌∷◌, ℕ, suc, ◌+◌, ◌≤◌, length, get_or}
use Rattle.fips.specs.Sha256.{sha256}
use Rattle.paper.specs.Lists.{All}
use Rattle.paper.specs.Bytes.{Bytes}
use Rattle.paper.specs.Bits.{Bits, Pfx, bits_of}
use Rattle.paper.specs.Strings.{Node, leaf, inner, inner_string, nothing_string}
use Rattle.paper.specs.Tree.{Tree, digest, top, nodes, build}
use Rattle.paper.specs.Audit.{AuditRecord, unchanged, opened, fresh, record_key, in_order, olds, news}
use Rattle.audit_form.specs.Places.{label_at, records_of, Rows}
use Rattle.audit_root.specs.declared.Built.{Built}

-- a tree's digest, and how many nodes are hashed for it
abbrev pub built : Tree → Built
built t = record { digest = digest (top t); count = length (nodes t) }

-- the tree below the root over these nodes, if there are any
unfoldable pub grown : List Node → Option Built
grown [] = None
grown (x ∷ S) = Some (built (build 256 (x ∷ S)))

-- how many nodes are hashed for a side
abbrev pub hashed : Option Built → ℕ
hashed None = 0
hashed (Some b) = b.count

-- "It alone may have "nothing" as a child.": the root's side, with nothing where no node is
unfoldable pub or_nothing : Option Built → Built
or_nothing None = record { digest = sha256 nothing_string; count = 1 }
or_nothing (Some b) = b

-- the inner node over two sides
abbrev pub joined : ℕ → Bytes → Built → Built → Built
joined n prefix left right = record { digest = sha256 (inner_string n prefix left.digest right.digest); count = left.count + right.count + 1 }

-- or the one side, if the other holds no node
unfoldable pub forked : ℕ → Bytes → Option Built → Option Built → Option Built
forked n prefix None right = right
forked n prefix (Some left) None = Some left
forked n prefix (Some left) (Some right) = Some (joined n prefix left right)

-- "Kinds 0 and 1 build the old root, all records the new."
abbrev pub nodes_of : Bool → List AuditRecord → List Node
nodes_of true R = news R
nodes_of false R = olds R

-- the node that stands in a record
abbrev pub record_node : AuditRecord → Node
record_node (unchanged m c e) = leaf m c e
record_node (opened p l r) = inner p l r
record_node (fresh m c e) = leaf m c e

-- how many records, from the first on, have a 0 at bit k: "left (0) or right (1)"
abbrev pub bit_of : ℕ → Bytes → Bool
bit_of k row = get_or (bits_of (label_at row 0)) k false

unfoldable pub lefts : ℕ → List Bytes → ℕ
lefts k [] = 0
lefts k (row ∷ rows) = cond (bit_of k row) 0 (suc (lefts k rows))

-- a range of the list below the root: in layout, in order, and all of it begins with the same bits, of which there are `from`
pub record Range (rows : List Bytes) (from : ℕ) : Type 0 where
  pub formed : Rows rows
  pub rises : in_order (records_of rows) ≡ true
  pub some : 1 ≤ from
  pub shared : Bits
  pub size : length shared ≡ from
  pub shares : All (λ r. Pfx shared (record_key r)) (records_of rows)
