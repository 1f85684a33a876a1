-- The bytes of an audit's records, how many they are, and that they are written one right behind the other. Assumes nothing.
use mathlib.Core.Path.{◌≡◌, refl, sym, ap, ap₂, ◌∙◌}
use mathlib.Core.Bool.{Bool, true, false, cond, ◌||◌}
use mathlib.Core.List.{List, [], ◌∷◌, ◌++◌, append_assoc}
use Prim.Native.Nat.{ℕ, ◌+◌, ◌*◌, ◌≤◌}
use native.Mathlib.Omega.{arith}
use lib.Dec.{eqb}
use lib.ListN.{length, take, drop, set, length-append}
use lib.Seq.{take_all}
use Rattle.paper.specs.Lists.{All}
use Rattle.paper.specs.Numbers.{wide}
use Rattle.paper.specs.Bytes.{Bytes, Bytewise, be, number, zeros, pasted}
use Rattle.paper.specs.Bits.{Bits, bits_of, pack, ◌▹◌}
use Rattle.paper.specs.Strings.{Node, leaf, inner, nothing, node_string}
use Rattle.paper.specs.Tree.{digest, Tree, empty, one, fork, top, side, build, root}
use Rattle.paper.specs.Layout.{block, fixed, within, seq, led, times, times_bytes, such, view}
use Rattle.paper.specs.Audit.{unchanged, opened, fresh, record_of, audit_record_field, list_field}
use Rattle.paper.specs.Write.{has_new, subtrees, below_root}
use Rattle.paper.specs.Level.{entry_leaf}
use Rattle.leaf_row.specs.Row.{LeafFits, Sized}
use Rattle.paper.proofs.Lists.{all_in, in-all, all_left, all_right}
use Rattle.paper.proofs.Fits.{digest-wide}
use Rattle.paper.proofs.Bytes.{be-length, pack-length}
use Rattle.paper.proofs.Tree.{side-in}
use Rattle.paper.proofs.Way.{entries, build-entries}
use Rattle.paper.proofs.Pasted.{pasted-none}
use Rattle.ranges.proofs.Slices.{length_part}
use Rattle.tree_path.specs.Measured.{node_bytes}
use Rattle.path_fields.specs.Written.{Wrote}
use Rattle.tree_path.proofs.Ends.{leaf-fields, node-long}
use Rattle.path_fields.proofs.Writing.{times-append, times-one, wrote-next, record-wrote}
use Rattle.subtrees.specs.Listed.{tree_bytes}
use Rattle.subtrees.proofs.News.{no-trees, old-fork, new-fork, root-fork}

-- ---- the bytes

unchanged-bytes : (m : Bits) (c : Bytes) (e : ℕ) → audit_record_field.bytes (unchanged m c e) ≡ 0 ∷ (be 2 256 ++ (pack wide m ++ (c ++ (be 4 e ++ zeros 28))))
unfolding led within record_of view seq fixed block be
unchanged-bytes m c e = refl

fresh-bytes : (m : Bits) (c : Bytes) (e : ℕ) → audit_record_field.bytes (fresh m c e) ≡ 2 ∷ (be 2 256 ++ (pack wide m ++ (c ++ (be 4 e ++ zeros 28))))
unfolding led within record_of view seq fixed block be
fresh-bytes m c e = refl

opened-bytes : (p : Bits) (l r : Bytes) → audit_record_field.bytes (opened p l r) ≡ 1 ∷ node_bytes p (l ++ r)
unfolding led within record_of view seq such block be
opened-bytes p l r = refl

module _ (t : ℕ) where
  pub none-bytes : (S : List Node) → length S ≡ 0 → tree_bytes t (build 256 S) ≡ []
  unfolding tree_bytes times_bytes
  none-bytes S e = ap (times_bytes audit_record_field.bytes) (no-trees t S e)

  leaf-bytes : (m : Bits) (c : Bytes) (e : ℕ) → tree_bytes t (one (leaf m c e)) ≡ cond (has_new t (one (leaf m c e))) 2 0 ∷ (be 2 256 ++ (pack wide m ++ (c ++ (be 4 e ++ zeros 28))))
  unfolding tree_bytes subtrees has_new
  leaf-bytes m c e = by (eqb e t)
    where
      by : (b : Bool) → times_bytes audit_record_field.bytes (cond b (fresh m c e) (unchanged m c e) ∷ []) ≡ cond b 2 0 ∷ (be 2 256 ++ (pack wide m ++ (c ++ (be 4 e ++ zeros 28))))
      by true = times-one audit_record_field.bytes (fresh m c e) ∙ fresh-bytes m c e
      by false = times-one audit_record_field.bytes (unchanged m c e) ∙ unchanged-bytes m c e

  module _ (T : Tree) (p : Bits) (l r : Tree) (e : T ≡ fork p l r) where
    pub old-bytes : has_new t T ≡ false → tree_bytes t T ≡ 1 ∷ node_bytes p (digest (top l) ++ digest (top r))
    unfolding tree_bytes
    old-bytes h =
        ap (times_bytes audit_record_field.bytes) (old-fork t T p l r e h)
        ∙ times-one audit_record_field.bytes (opened p (digest (top l)) (digest (top r)))
        ∙ opened-bytes p (digest (top l)) (digest (top r))

    pub new-bytes : has_new t T ≡ true → tree_bytes t T ≡ tree_bytes t l ++ tree_bytes t r
    unfolding tree_bytes
    new-bytes h = ap (times_bytes audit_record_field.bytes) (new-fork t T p l r e h) ∙ times-append audit_record_field.bytes (subtrees t l) (subtrees t r)

    -- "a count (4) and records"
    pub list-bytes : list_field.bytes (below_root t T) ≡ be 4 (length (below_root t T)) ++ (tree_bytes t l ++ tree_bytes t r)
    unfolding led within times tree_bytes
    list-bytes = ap (λ x. be 4 (length (below_root t T)) ++ x) (ap (times_bytes audit_record_field.bytes) (root-fork t T p l r e) ∙ times-append audit_record_field.bytes (subtrees t l) (subtrees t r))

-- ---- the fields of a leaf are its bytes

module _ (t : ℕ) (s : Bytes) (h : 68 ≤ length s) (w : Bytewise s) where
  entry-bytes : tree_bytes t (one (entry_leaf s)) ≡ cond (has_new t (one (entry_leaf s))) 2 0 ∷ (be 2 256 ++ (take 68 s ++ zeros 28))
  entry-bytes =
      let a = pack wide (bits_of (take 32 s)) in
      let b = take 32 (drop 32 s) in
      let c = be 4 (number (take 4 (drop 64 s))) in
      leaf-bytes t (bits_of (take 32 s)) b (number (take 4 (drop 64 s)))
      ∙ ap (λ x. cond (has_new t (one (entry_leaf s))) 2 0 ∷ (be 2 256 ++ x))
      (sym (append_assoc a (b ++ c) (zeros 28) ∙ ap (λ x. a ++ x) (append_assoc b c (zeros 28))) ∙ ap (λ x. x ++ zeros 28) (leaf-fields s h w))

-- ---- one right behind the other

pub wrote-both : (o v u x y z : Bytes) (at mid r : ℕ) → at ≤ length o → Wrote o at x v mid → Wrote v mid y u r → z ≡ x ++ y → Wrote o at z u r
wrote-both o v u x y z at mid r h f g q = wrote-next o v u x y z at mid r h f.laid f.behind g q

-- a count, and two parts of a list
pub list_wrote : (o v u w x y z : Bytes) (at mid r count : ℕ) → at + 4 ≤ length o → length v ≡ length o → v ≡ pasted o at (be 4 count) → Wrote v (at + 4) x u mid → Wrote u mid y w r → z ≡ be 4 count ++ (x ++ y)
    → Wrote o at z w r
list_wrote o v u w x y z at mid r count h l e f g q =
    wrote-next o v w (be 4 count) (x ++ y) z at (at + 4) r (omega arith) e (omega (arith, be-length 4 count)) (wrote-both v u w x y (x ++ y) (at + 4) mid r (omega arith) f g refl) q

pub wrote_none : (o x : Bytes) (at : ℕ) → x ≡ [] → Wrote o at x o at
wrote_none o x at e = record { laid = sym (ap (pasted o at) e ∙ pasted-none o at); behind = omega (arith, ap length e) }

pub leaf-wrote : (o a b c fill s : Bytes) (at kind t : ℕ) → at + 99 ≤ length o → length s ≡ 68 → Bytewise s → kind ≡ cond (has_new t (one (entry_leaf s))) 2 0 → fill ≡ zeros 28
    → a ≡ pasted (set o at kind) (at + 1) (be 2 256) → b ≡ pasted a (at + 3) s → c ≡ pasted b (at + 71) fill → Wrote o at (tree_bytes t (one (entry_leaf s))) c (at + 99)
leaf-wrote o a b c fill s at kind t h l w k f ea eb ec =
    let all : take 68 s ≡ s = take_all 68 s (omega (arith, l)) in
    let size = ap length all ∙ l in
    let g = record-wrote o a b c (be 2 256) (take 68 s) (zeros 28) at kind (at + 71) h (be-length 2 256) (omega (arith, size)) (omega (arith, size)) ea (eb ∙ ap (pasted a (at + 3)) (sym all)) (ec ∙ ap (pasted b (at + 71)) f) in
    let whole : kind ∷ ((be 2 256 ++ take 68 s) ++ zeros 28) ≡ tree_bytes t (one (entry_leaf s)) =
    ap₂ {C = Bytes} (λ i x. i ∷ x) k (append_assoc (be 2 256) (take 68 s) (zeros 28)) ∙ sym (entry-bytes t s (omega (arith, l)) w) in
    record { laid = g.laid ∙ ap (pasted o at) whole; behind = g.behind ∙ ap (λ x. at + length x) whole }

-- ---- sizes: "records of 99 bytes"

leaf-size : (t : ℕ) (m : Bits) (c : Bytes) (e : ℕ) → length c ≡ 32 → length (tree_bytes t (one (leaf m c e))) ≡ 99
leaf-size t m c e h = ap length (leaf-bytes t m c e) ∙ omega (
  arith,
  length-append (be 2 256) (pack wide m ++ (c ++ (be 4 e ++ zeros 28))),
  length-append (pack wide m) (c ++ (be 4 e ++ zeros 28)),
  length-append c (be 4 e ++ zeros 28),
  length-append (be 4 e) (zeros 28),
  be-length 2 256,
  pack-length wide m,
  be-length 4 e,
)

pub entry-size : (t : ℕ) (s : Bytes) → 68 ≤ length s → length (tree_bytes t (one (entry_leaf s))) ≡ 99
entry-size t s h = leaf-size t (bits_of (take 32 s)) (take 32 (drop 32 s)) (number (take 4 (drop 64 s))) (length_part s 32 32 (omega arith))

-- a leaf with a commitment of 32 bytes
abbrev Held : Node → Type 0
Held (leaf m c e) = length c ≡ 32
Held (inner p l r) = ⊥
Held nothing = ⊥

tree-size : (t : ℕ) (T : Tree) → All Held (entries T) → length (tree_bytes t T) ≡ length (subtrees t T) * 99
unfolding subtrees tree_bytes times_bytes
tree-size t empty h = refl
tree-size t (one (leaf m c e)) h = leaf-size t m c e h.0
tree-size t (one (inner p l r)) h = absurd h.0
tree-size t (one nothing) h = absurd h.0
tree-size t (fork p l r) h = by (has_new t l || has_new t r) (tree-size t l (all_left Held (entries l) (entries r) h)) (tree-size t r (all_right Held (entries l) (entries r) h))
  where
    by : (b : Bool) → length (tree_bytes t l) ≡ length (subtrees t l) * 99 → length (tree_bytes t r) ≡ length (subtrees t r) * 99
        → length (times_bytes audit_record_field.bytes (cond b (subtrees t l ++ subtrees t r) (opened p (digest (top l)) (digest (top r)) ∷ []))) ≡ length (cond b (subtrees t l ++ subtrees t r) (opened p (digest (top l)) (digest (top r)) ∷ [])) * 99
    by true x y = ap length (times-append audit_record_field.bytes (subtrees t l) (subtrees t r)) ∙ omega (
      arith,
      length-append (times_bytes audit_record_field.bytes (subtrees t l)) (times_bytes audit_record_field.bytes (subtrees t r)),
      length-append (subtrees t l) (subtrees t r),
    )
    by false x y = ap length (times-one audit_record_field.bytes (opened p (digest (top l)) (digest (top r))))
        ∙ ap length (opened-bytes p (digest (top l)) (digest (top r)))
        ∙ omega (arith, node-long p (digest (top l) ++ digest (top r)), length-append (digest (top l)) (digest (top r)), (digest-wide (node_string (top l))).size, (digest-wide (node_string (top r))).size)

fits-held : (x : Node) → LeafFits x → Held x
fits-held (leaf m c e) h = h.1.size
fits-held (inner p l r) h = h
fits-held nothing h = h

-- how many bytes a list has
pub list-size : (t : ℕ) (S : List Node) → Sized S → length (list_field.bytes (below_root t (root S))) ≡ 4 + length (below_root t (root S)) * 99
unfolding root
list-size t S h =
    let held : (b : Bool) → All Held (entries (build 256 (side ([] ▹ b) S))) = λ b.
    in-all Held (entries (build 256 (side ([] ▹ b) S))) (λ x m. fits-held x (all_in LeafFits S h x (side-in ([] ▹ b) S x (build-entries 256 (side ([] ▹ b) S) x m)))) in
    let l = build 256 (side ([] ▹ false) S) in
    let r = build 256 (side ([] ▹ true) S) in
    ap length (list-bytes t (root S) [] l r refl) ∙ omega (
      arith,
      length-append (be 4 (length (below_root t (root S)))) (tree_bytes t l ++ tree_bytes t r),
      length-append (tree_bytes t l) (tree_bytes t r),
      be-length 4 (length (below_root t (root S))),
      tree-size t l (held false),
      tree-size t r (held true),
      ap length (root-fork t (root S) [] l r refl),
      length-append (subtrees t l) (subtrees t r),
    )
