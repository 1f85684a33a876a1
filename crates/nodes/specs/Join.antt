-- A path's step from a node to the inner node above it.
use Rattle.std.specs.Prelude.{Bool, cond, ℕ}
use Rattle.paper.specs.Bytes.{Bytes}
use Rattle.paper.specs.Strings.{inner_string}

-- "the bit after the prefix sends each label left (0) or right (1)": `below` stands on the side of `bit`, and `sibling` on the other
unfoldable pub joined : Bool → ℕ → Bytes → Bytes → Bytes → Bytes
joined bit n prefix below sibling = inner_string n prefix (cond bit sibling below) (cond bit below sibling)
