-- Document 01, "Path": a path as a value, the root that it gives for a label, the nodes that it hashes, and the rules of its end.
use Rattle.std.specs.Prelude.{Bool, true, false, cond, not, ◌&&◌, List, [], ◌∷◌, ℕ, suc, eqb, ltb, length, take, get_or}
use Rattle.paper.specs.Bytes.{Bytes, same}
use Rattle.paper.specs.Bits.{Bits, starts}
use Rattle.paper.specs.Strings.{Node, leaf, inner, nothing}
use Rattle.paper.specs.Tree.{Tree, empty, one, fork, digest, top}

-- "m steps of prefix length (2) and sibling digest (32)"
pub record Step : Type 0 where
  pub length : ℕ
  pub sibling : Bytes

-- "Ends: 0, this leaf: commitment, epoch. 1, another leaf: label, commitment, epoch. 2, another inner node. 3, nothing"
pub data End : Type 0 where
  this : Bytes → ℕ → End
  other : Bits → Bytes → ℕ → End
  off : Bits → Bytes → Bytes → End
  none : End

pub record Path : Type 0 where
  pub steps : List Step
  pub end : End

-- the node at which a path for a label ends
abbrev pub end_node : Bits → End → Node
end_node L (this commitment epoch) = leaf L commitment epoch
end_node L (other label commitment epoch) = leaf label commitment epoch
end_node L (off prefix left right) = inner prefix left right
end_node L none = nothing

-- "a step's prefix is the label's first bits", and the bit after it says on which side the digest from below stands
unfoldable pub step_node : Bits → Step → Bytes → Node
step_node L s below = inner (take s.length L) (cond (get_or L s.length false) s.sibling below) (cond (get_or L s.length false) below s.sibling)

-- the node at the top of a path, and all its nodes down to the end
unfoldable pub path_top : Bits → List Step → End → Node
path_top L [] e = end_node L e
path_top L (s ∷ ss) e = step_node L s (digest (path_top L ss e))

unfoldable pub path_nodes : Bits → List Step → End → List Node
path_nodes L [] e = end_node L e ∷ []
path_nodes L (s ∷ ss) e = step_node L s (digest (path_top L ss e)) ∷ path_nodes L ss e

-- the root that a path gives
abbrev pub path_root : Bits → Path → Bytes
path_root L p = digest (path_top L p.steps p.end)

-- "k the last step's length"
unfoldable pub last_length : List Step → ℕ
last_length [] = 0
last_length (s ∷ []) = s.length
last_length (s ∷ t ∷ ss) = last_length (t ∷ ss)

-- whether two labels are one
unfoldable pub same_bits : Bits → Bits → Bool
same_bits x y = eqb (length x) (length y) && starts x y

-- "End 0 shows presence": with a commitment, at the leaf's epoch
unfoldable pub present_with : Bytes → End → Bool
present_with commitment (this c e) = same c commitment
present_with commitment (other m c e) = false
present_with commitment (off p l r) = false
present_with commitment none = false

abbrev pub epoch_of : End → ℕ
epoch_of (this c e) = e
epoch_of (other m c e) = 0
epoch_of (off p l r) = 0
epoch_of none = 0

-- "the others absence. With k the last step's length, another leaf has the label's first k+1 bits and is not the label; another
-- inner node is longer than k+1, has those bits and is no prefix of the label."
unfoldable pub absent : Bits → ℕ → End → Bool
absent L k (this c e) = false
absent L k (other m c e) = starts (take (suc k) L) m && not (same_bits m L)
absent L k (off p l r) = ltb (suc k) (length p) && (starts (take (suc k) L) p && not (starts p L))
absent L k none = true

-- what a node that stands alone says of a label
unfoldable pub end_at : Bits → Node → End
end_at L (leaf label commitment epoch) = cond (same_bits label L) (this commitment epoch) (other label commitment epoch)
end_at L (inner prefix left right) = off prefix left right
end_at L nothing = none

-- a label's path in a tree: down the side of its bit while the prefix is the label's, to where it stands or leaves the tree
unfoldable pub way_steps : Bits → Tree → List Step
way_steps L empty = []
way_steps L (one x) = []
way_steps L (fork p l r) =
    cond (starts p L)
    (cond (get_or L (length p) false)
    (record { length = length p; sibling = digest (top l) } ∷ way_steps L r)
    (record { length = length p; sibling = digest (top r) } ∷ way_steps L l))
    []

unfoldable pub way_end : Bits → Tree → End
way_end L empty = none
way_end L (one x) = end_at L x
way_end L (fork p l r) = cond (starts p L) (cond (get_or L (length p) false) (way_end L r) (way_end L l)) (off p (digest (top l)) (digest (top r)))

abbrev pub way : Bits → Tree → Path
way L t = record { steps = way_steps L t; end = way_end L t }
