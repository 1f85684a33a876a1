-- The bytes of steps, of ends and of a path, and how many they are. Assumes nothing.
use mathlib.Core.Path.{◌≡◌, refl, sym, ap, ap₂, ◌∙◌}
use mathlib.Core.Bool.{true, false}
use mathlib.Core.List.{List, [], ◌∷◌, ◌++◌}
use Prim.Native.Nat.{ℕ, ◌+◌, ◌*◌, ◌≤◌}
use native.Mathlib.Omega.{arith}
use lib.ListN.{length, take, drop, length-append}
use lib.Seq.{length-take-le, take-add, drop-drop}
use Rattle.paper.specs.Lists.{All}
use Rattle.paper.specs.Numbers.{wide}
use Rattle.paper.specs.Bytes.{Bytes, Bytewise, be, number}
use Rattle.paper.specs.Bits.{Bits, bits_of, pack}
use Rattle.paper.specs.Tree.{key, Tree}
use Rattle.paper.specs.Level.{entry_leaf}
use Rattle.paper.specs.Path.{Step, End, this, other, off, none, same_bits, end_at, way_steps, way_end, way}
use Rattle.paper.specs.Layout.{block, fixed, within, seq, led, times, times_bytes, such, view}
use Rattle.paper.specs.Fields.{end_kind, end_of, end_field, step_field, path_field}
use Rattle.paper.proofs.Lists.{all_take, all_drop}
use Rattle.paper.proofs.Bytes.{be-length, be-number, pack-length, pack-bits_of}
use Rattle.paper.proofs.Fits.{step_fits, path-fits}
use Rattle.ranges.proofs.Slices.{length_part}
use Rattle.tree_path.specs.declared.EndKind.{EndKind}
use Rattle.tree_path.specs.declared.EndKind.TheVariants as K
use Rattle.tree_path.specs.Measured.{kind_of, kind_number, end_size, node_bytes, end_bytes, way_bytes}

-- ---- the parts

pub step-bytes : (k : ℕ) (sibling : Bytes) → step_field.bytes (record { length = k; sibling = sibling }) ≡ be 2 k ++ sibling
unfolding view seq within block
step-bytes k sibling = refl

end-any : (m : ℕ) (e : End) → (end_field m).bytes e ≡ end_bytes e
unfolding end_bytes led end_of view such fixed
end-any m (this c e) = refl
end-any m (other l c e) = refl
end-any m (off p l r) = refl
end-any m none = refl

-- a path: its count, its steps and its end
pub path-bytes : (L : Bits) (t : Tree) → path_field.bytes (way L t) ≡ be 2 (length (way_steps L t)) ++ way_bytes L t
unfolding led within view seq such times way_bytes
path-bytes L t = ap (λ x. be 2 (length (way_steps L t)) ++ (times_bytes step_field.bytes (way_steps L t) ++ x)) (end-any (length (way_steps L t)) (way_end L t))

-- ---- the ends

this-bytes : (c : Bytes) (e : ℕ) → end_bytes (this c e) ≡ 0 ∷ (c ++ be 4 e)
unfolding end_bytes led within end_of view seq block be
this-bytes c e = refl

other-bytes : (m : Bits) (c : Bytes) (e : ℕ) → end_bytes (other m c e) ≡ 1 ∷ (pack wide m ++ (c ++ be 4 e))
unfolding end_bytes led within end_of view seq block be
other-bytes m c e = refl

pub off-bytes : (p : Bits) (l r : Bytes) → end_bytes (off p l r) ≡ 2 ∷ node_bytes p (l ++ r)
unfolding end_bytes led within end_of view seq such block be
off-bytes p l r = refl

pub none-bytes : end_bytes none ≡ 3 ∷ []
unfolding end_bytes led within end_of view such fixed be
none-bytes = refl

-- the fields of a leaf are its bytes
module _ (s : Bytes) (h : 68 ≤ length s) (w : Bytewise s) where
  epoch-bytes : be 4 (number (take 4 (drop 64 s))) ≡ take 4 (drop 64 s)
  epoch-bytes = ap (λ n. be n (number (take 4 (drop 64 s)))) (sym (length_part s 64 4 h)) ∙ be-number (take 4 (drop 64 s)) (all_take _ 4 (drop 64 s) (all_drop _ 64 s w))

  fields : take 32 (drop 32 s) ++ be 4 (number (take 4 (drop 64 s))) ≡ take 36 (drop 32 s)
  fields =
      ap (λ x. take 32 (drop 32 s) ++ x) (epoch-bytes ∙ ap (take 4) (sym (drop-drop 32 32 s)))
      ∙ sym (take-add 32 4 (drop 32 s))

  this-leaf : end_bytes (this (take 32 (drop 32 s)) (number (take 4 (drop 64 s)))) ≡ 0 ∷ take 36 (drop 32 s)
  this-leaf = this-bytes _ _ ∙ ap (λ x. 0 ∷ x) fields

  pub leaf-fields : pack wide (bits_of (take 32 s)) ++ (take 32 (drop 32 s) ++ be 4 (number (take 4 (drop 64 s)))) ≡ take 68 s
  leaf-fields =
      let e : pack wide (bits_of (take 32 s)) ≡ take 32 s = ap (λ n. pack n (bits_of (take 32 s))) (sym (length-take-le 32 s (omega arith))) ∙ pack-bits_of (take 32 s) (all_take _ 32 s w) in
      ap₂ (λ x y. x ++ y) e fields ∙ sym (take-add 32 36 s)

  other-leaf : end_bytes (other (bits_of (take 32 s)) (take 32 (drop 32 s)) (number (take 4 (drop 64 s)))) ≡ 1 ∷ take 68 s
  other-leaf = other-bytes _ _ _ ∙ ap (λ x. 1 ∷ x) leaf-fields

  pub leaf-this : (L : Bits) → same_bits (key (entry_leaf s)) L ≡ true → end_bytes (end_at L (entry_leaf s)) ≡ 0 ∷ take 36 (drop 32 s)
  unfolding end_at
  leaf-this L e = rw e this-leaf

  pub leaf-other : (L : Bits) → same_bits (key (entry_leaf s)) L ≡ false → end_bytes (end_at L (entry_leaf s)) ≡ 1 ∷ take 68 s
  unfolding end_at
  leaf-other L e = rw e other-leaf

-- ---- sizes

step-size : (s : Step) → step_field.Fits s → length (step_field.bytes s) ≡ 34
step-size s f = ap length (step-bytes s.length s.sibling) ∙ omega (arith, length-append (be 2 s.length) s.sibling, be-length 2 s.length, (step_fits s f).sibling.size)

steps-size : (l : List Step) → All step_field.Fits l → length (times_bytes step_field.bytes l) ≡ length l * 34
unfolding times_bytes
steps-size [] f = refl
steps-size (s ∷ l) f = omega (arith, length-append (step_field.bytes s) (times_bytes step_field.bytes l), step-size s f.0, steps-size l f.1)

pub node-long : (p : Bits) (d : Bytes) → length (node_bytes p d) ≡ 34 + length d
node-long p d =
    omega (arith, length-append (be 2 (length p) ++ pack wide p) d, length-append (be 2 (length p)) (pack wide p), be-length 2 (length p), pack-length wide p)

end-size : (m : ℕ) (e : End) → (end_field m).Fits e → length (end_bytes e) ≡ 1 + end_size (kind_of e)
unfolding led within end_of view seq such block
end-size m (this c e) f = ap length (this-bytes c e) ∙ omega (arith, length-append c (be 4 e), be-length 4 e, f.1.0.0.0)
end-size m (other l c e) f = ap length (other-bytes l c e) ∙ omega (arith, length-append (pack wide l) (c ++ be 4 e), length-append c (be 4 e), be-length 4 e, pack-length wide l, f.1.0.1.0.0)
end-size m (off p l r) f = ap length (off-bytes p l r) ∙ omega (arith, node-long p (l ++ r), length-append l r, f.1.0.1.0.0, f.1.0.1.1.0)
end-size m none f = ap length none-bytes

-- the number of a kind is the number of the end
kind-told : (e : End) → kind_number (kind_of e) ≡ end_kind e
kind-told (this c e) = refl
kind-told (other m c e) = refl
kind-told (off p l r) = refl
kind-told none = refl

pub size-most : (k : EndKind) → end_size k ≤ 98
size-most K.This = omega arith
size-most K.Other = omega arith
size-most K.Off = omega arith
size-most K.Nothing = omega arith

pub path-size : (L : Bits) (t : Tree) → path_field.Fits (way L t) → length (path_field.bytes (way L t)) ≡ 3 + length (way_steps L t) * 34 + end_size (kind_of (way_end L t))
unfolding way_bytes
path-size L t f =
    let g = path-fits (way L t) f in
    let l = way_steps L t in
    ap length (path-bytes L t) ∙ omega (
      arith,
      length-append (be 2 (length l)) (times_bytes step_field.bytes l ++ end_bytes (way_end L t)),
      length-append (times_bytes step_field.bytes l) (end_bytes (way_end L t)),
      be-length 2 (length l),
      steps-size l g.each,
      end-size (length l) (way_end L t) g.last,
    )
