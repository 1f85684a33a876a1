-- The records of an audit as they are written.
use Rattle.std.specs.Prelude.{ℕ}
use Rattle.paper.specs.Bytes.{Bytes}
use Rattle.paper.specs.Tree.{Tree}
use Rattle.paper.specs.Layout.{times_bytes}
use Rattle.paper.specs.Audit.{audit_record_field}
use Rattle.paper.specs.Write.{subtrees}

-- "the largest subtrees .. with no new leaf" at epoch t, one behind the other
unfoldable pub tree_bytes : ℕ → Tree → Bytes
tree_bytes t T = times_bytes audit_record_field.bytes (subtrees t T)
