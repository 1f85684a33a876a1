-- Leaves in bit order are a set, and a label's way ends at its leaf exactly where it is there. Assumes nothing.
use mathlib.Core.Path.{◌≡◌, refl, sym, ap, ◌∙◌, subst}
use mathlib.Core.Logic.{inl, inr, ⊎_elim}
use mathlib.Core.Bool.{Bool, true, false, ◌||◌}
use mathlib.Core.List.{List, [], ◌∷◌}
use Prim.Native.Nat.{ℕ, ◌≤◌}
use native.Mathlib.Omega.{arith}
use lib.ListN.{length}
use Rattle.paper.specs.Lists.{◌∈◌, some}
use Rattle.paper.specs.Bytes.{Bytes}
use Rattle.paper.specs.Bits.{Bits, bits_of}
use Rattle.paper.specs.Strings.{Node, leaf, inner, nothing}
use Rattle.paper.specs.Tree.{key, root}
use Rattle.paper.specs.Path as P
use Rattle.paper.specs.Path.{End, this, other, off, none, same_bits, way_end, way_steps, way, last_length}
use Rattle.paper.specs.Fields.{path_field}
use Rattle.paper.specs.Table.{holds}
use Rattle.paper.proofs.Lists.{true-or-false, not-both, all_in}
use Rattle.paper.proofs.Bytes.{bits_of-length}
use Rattle.paper.proofs.Walk.{same_bits-eq}
use Rattle.paper.proofs.Fits.{path-fits}
use Rattle.paper.proofs.Honest.{LeafSized, LeafSet, held-not, way-present, way-absent, way-fits}
use Rattle.leaf_row.proofs.Rows.{sized-all}
use Rattle.bit_order.proofs.Sides.{ordered-free}
use Rattle.tree.specs.Stored.{Sorted}
use Rattle.bit_order.proofs.Order.{rising-ordered}
use Rattle.tree_path.specs.declared.EndKind.{EndKind}
use Rattle.tree_path.specs.declared.EndKind.TheVariants as K
use Rattle.tree_path.specs.Measured.{kind_of}
use Rattle.tree_path.proofs.Ends.{size-most, path-size}

-- leaves in bit order are a set
pub leaf-set : (S : List Node) → Sorted S → LeafSet S
leaf-set S h = record { free = ordered-free S (rising-ordered S h.rises); sized = sized-all S h.sized }

-- ---- whether a label is there

held : (L : Bits) (S : List Node) → holds L S ≡ true → (x : Node) × (x ∈ S) × (key x ≡ L)
unfolding holds some
held L [] e = not-both e refl
held L (x ∷ S) e = by (same_bits (key x) L) refl e (held L S)
  where
    by : (b : Bool) → same_bits (key x) L ≡ b → (b || some (λ y. same_bits (key y) L) S) ≡ true → (holds L S ≡ true → (y : Node) × (y ∈ S) × (key y ≡ L)) → (y : Node) × (y ∈ (x ∷ S)) × (key y ≡ L)
    by true q e f = (x, inl refl, same_bits-eq (key x) L q)
    by false q e f = let (y, m, k) = f e in (y, inr m, k)

-- whether an end is this leaf
abbrev pub is_this : EndKind → Bool
is_this K.This = true
is_this K.Other = false
is_this K.Off = false
is_this K.Nothing = false

pub this-not : (k : EndKind) → ¬ (k ≡ K.This) → is_this k ≡ false
this-not K.This n = absurd (n refl)
this-not K.Other n = refl
this-not K.Off n = refl
this-not K.Nothing n = refl

absent-kind : (L : Bits) (k : ℕ) (e : End) → P.absent L k e ≡ true → is_this (kind_of e) ≡ false
unfolding P.absent
absent-kind L k (this c e) h = sym h
absent-kind L k (other m c e) h = refl
absent-kind L k (off p l r) h = refl
absent-kind L k none h = refl

there : (S : List Node) (L : Bits) → LeafSet S → length L ≡ 256 → is_this (kind_of (way_end L (root S))) ≡ holds L S
there S L set size = ⊎_elim
    (λ e. let (x, m, q) = held L S e in found x m q (all_in LeafSized S set.sized x m) ∙ sym e)
    (λ e. absent-kind L (last_length (way_steps L (root S))) (way_end L (root S)) (way-absent S set L size (held-not L S e)) ∙ sym e)
    (true-or-false (holds L S))
  where
    found : (x : Node) → x ∈ S → key x ≡ L → LeafSized x → is_this (kind_of (way_end L (root S))) ≡ true
    found (leaf m c e) i q z = ap (λ x. is_this (kind_of x)) (way-present S set L size c e (subst (λ l. leaf l c e ∈ S) q i))
    found (inner p l r) i q z = absurd z
    found nothing i q z = absurd z

-- ---- by the bytes of a label

module _ (S : List Node) (label : Bytes) (h : Sorted S) (size : length label ≡ 32) where
  long : length (bits_of label) ≡ 256
  long = omega (arith, bits_of-length label)

  pub way-in-layout : path_field.Fits (way (bits_of label) (root S))
  way-in-layout = way-fits S (leaf-set S h) (bits_of label) long

  -- a path has 256 steps at most, and the longest end has 99 bytes
  pub path-most : length (path_field.bytes (way (bits_of label) (root S))) ≤ 8805
  path-most =
      let t = root S in
      omega (arith, path-size (bits_of label) t way-in-layout, (path-fits (way (bits_of label) t) way-in-layout).most, size-most (kind_of (way_end (bits_of label) t)))

  pub label-there : is_this (kind_of (way_end (bits_of label) (root S))) ≡ holds (bits_of label) S
  label-there = there S (bits_of label) (leaf-set S h) long
