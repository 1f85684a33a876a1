-- Document 01, "The tree over a set of labels": for leaves, and for audits, "where an opened node stands in place of its labels".
use Rattle.std.specs.Prelude.{◌↔◌, Bool, true, false, List, [], ◌∷◌, ◌++◌, ℕ, zero, suc, ◌≤◌, length}
use Rattle.fips.specs.Sha256.{sha256}
use Rattle.paper.specs.Lists.{◌∈◌, All, keep}
use Rattle.paper.specs.Bytes.{Bytes}
use Rattle.paper.specs.Bits.{Bits, Pfx, starts, ◌▹◌, lcp}
use Rattle.paper.specs.Strings.{Node, leaf, inner, nothing, node_string}

-- the label of a leaf, the prefix of an inner node
abbrev pub key : Node → Bits
key (leaf label commitment epoch) = label
key (inner prefix left right) = prefix
key nothing = []

-- the digest of a node
abbrev pub digest : Node → Bytes
digest x = sha256 (node_string x)

pub data Tree : Type 0 where
  empty : Tree
  one : Node → Tree
  fork : Bits → Tree → Tree → Tree

-- the node at a tree's top, and all nodes that are hashed for it, the top first
abbrev pub top : Tree → Node
top empty = nothing
top (one x) = x
top (fork p l r) = inner p (digest (top l)) (digest (top r))

abbrev pub nodes : Tree → List Node
nodes empty = nothing ∷ []
nodes (one x) = x ∷ []
nodes (fork p l r) = inner p (digest (top l)) (digest (top r)) ∷ (nodes l ++ nodes r)

-- the longest common prefix of the labels of x and the rest
unfoldable pub common : Node → List Node → Bits
common x [] = key x
common x (y ∷ S) = lcp (key x) (common y S)

-- those whose label begins with p
unfoldable pub side : Bits → List Node → List Node
side p S = keep (λ x. starts p (key x)) S

-- "Below it, no labels give nothing; one label gives its leaf; more give an inner node whose prefix is their longest common
-- prefix, and the bit after the prefix sends each label left (0) or right (1)." Each step down has a longer prefix, so n
-- steps reach everything where labels have fewer than n bits past the prefix (proofs/Tree.antt).
unfoldable pub build : ℕ → List Node → Tree
build zero S = empty
build (suc n) [] = empty
build (suc n) (x ∷ []) = one x
build (suc n) (x ∷ y ∷ S) =
    fork (common x (y ∷ S)) (build n (side (common x (y ∷ S) ▹ false) (x ∷ y ∷ S))) (build n (side (common x (y ∷ S) ▹ true) (x ∷ y ∷ S)))

-- "The root has prefix length 0 and is always an inner node. It alone may have "nothing" as a child."
unfoldable pub root : List Node → Tree
root S = fork [] (build 256 (side ([] ▹ false) S)) (build 256 (side ([] ▹ true) S))

abbrev pub root_digest : List Node → Bytes
root_digest S = digest (top (root S))

-- ---- words of the laws in proofs/Tree.antt

-- no label is a prefix of another: so it is with labels of one length that differ, and with audit records
abbrev pub Apart : Node → Node → Type 0
Apart x y = (¬ Pfx (key x) (key y)) × (¬ Pfx (key y) (key x))

abbrev pub Free : List Node → Type 0
Free [] = Unit {0}
Free (x ∷ S) = All (Apart x) S × Free S

-- nodes of a tree below its root: labels of at most 256 bits, of which the first is shared, and none a prefix of another
pub record Below (S : List Node) : Type 0 where
  pub free : Free S
  pub short : All (λ y. length (key y) ≤ 256) S
  pub bit : Bool
  pub shares : All (λ y. Pfx ([] ▹ bit) (key y)) S

-- "a set of labels": two lists of the same nodes, in any order
abbrev pub SameSet : List Node → List Node → Type 0
SameSet S R = (x : Node) → (x ∈ S) ↔ (x ∈ R)
