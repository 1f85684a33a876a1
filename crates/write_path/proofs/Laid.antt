-- A way laid behind its step, a path behind its count, and nothing. Assumes nothing.
use mathlib.Core.Path.{◌≡◌, sym, ap, ◌∙◌}
use mathlib.Core.List.{List, [], ◌∷◌, ◌++◌}
use Prim.Native.Nat.{ℕ, ◌+◌, ◌≤◌, ◌<◌}
use native.Mathlib.Omega.{arith}
use lib.ListN.{length, set, length-append}
use Rattle.paper.specs.Bytes.{Bytes, be, pasted}
use Rattle.paper.specs.Bits.{Bits}
use Rattle.paper.specs.Tree.{Tree, build}
use Rattle.paper.specs.Path.{way_steps, way}
use Rattle.paper.specs.Fields.{step_field, path_field}
use Rattle.paper.specs.Strings.{Node}
use Rattle.paper.proofs.Bytes.{be-length}
use Rattle.paper.proofs.Pasted.{pasted-one}
use Rattle.tree_path.specs.Measured.{way_bytes}
use Rattle.path_fields.specs.Written.{Wrote}
use Rattle.tree.proofs.Leaves.{bare}
use Rattle.tree_path.proofs.Ends.{path-bytes, none-bytes}
use Rattle.tree_path.proofs.Ways as W
use Rattle.path_fields.proofs.Writing.{wrote-next, step-long}

-- ---- a step, and the way behind it

module _ (L : Bits) (t u : Tree) (k : ℕ) (sibling : Bytes) (e : way_bytes L t ≡ step_field.bytes (record { length = k; sibling = sibling }) ++ way_bytes L u) where
  abbrev step : Bytes
  step = step_field.bytes (record { length = k; sibling = sibling })

  pub step_room : length sibling ≡ 32 → 34 ≤ length (way_bytes L t)
  step_room size = omega (arith, ap length e, length-append step (way_bytes L u), step-long k sibling size)

  module _ (o v : Bytes) (at mid : ℕ) (h : at + length (way_bytes L t) ≤ length o) (f : Wrote o at step v mid) where
    pub way-room : mid + length (way_bytes L u) ≤ length o
    way-room = omega (arith, f.behind, ap length e, length-append step (way_bytes L u))

    pub way-wrote : (w : Bytes) (r : ℕ) → Wrote v mid (way_bytes L u) w r → Wrote o at (way_bytes L t) w r
    way-wrote w r g = wrote-next o v w step (way_bytes L u) (way_bytes L t) at mid r (omega arith) f.laid f.behind g e

-- ---- the count, and the steps and the end behind it
pub path-long : (L : Bits) (t : Tree) → length (path_field.bytes (way L t)) ≡ 2 + length (way_bytes L t)
path-long L t = ap length (path-bytes L t) ∙ omega (arith, length-append (be 2 (length (way_steps L t))) (way_bytes L t), be-length 2 (length (way_steps L t)))

pub path-wrote : (L : Bits) (t : Tree) (o v w : Bytes) (at r steps : ℕ) → at ≤ length o → steps ≡ length (way_steps L t) → v ≡ pasted o at (be 2 steps) → Wrote v (at + 2) (way_bytes L t) w r → Wrote o at (path_field.bytes (way L t)) w r
path-wrote L t o v w at r steps h q f g =
    wrote-next o v w (be 2 steps) (way_bytes L t) _ at (at + 2) r h f (omega (arith, be-length 2 steps)) g (path-bytes L t ∙ ap (λ i. be 2 i ++ way_bytes L t) (sym q))

-- ---- nothing

pub none-wrote : (L : Bits) (S : List Node) (o : Bytes) (at : ℕ) → length S ≡ 0 → at + length (way_bytes L (build 256 S)) ≤ length o → (at < length o) × Wrote o at (way_bytes L (build 256 S)) (set o at 3) (at + 1)
none-wrote L S o at e h =
    let q : way_bytes L (build 256 S) ≡ 3 ∷ [] = ap (way_bytes L) (bare S e) ∙ W.none-bytes L ∙ none-bytes in
    let l : at < length o = omega (arith, ap length q) in
    (l, record { laid = pasted-one o at 3 l ∙ ap (pasted o at) (sym q); behind = omega (arith, ap length q) })
