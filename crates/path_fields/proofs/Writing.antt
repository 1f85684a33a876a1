-- Writing one string right behind another, and a step and an end of a path so. Assumes nothing.
use mathlib.Core.Path.{◌≡◌, refl, sym, ap, ap₂, ◌∙◌}
use mathlib.Core.List.{List, [], ◌∷◌, ◌++◌, append-nil, append_assoc}
use Prim.Native.Nat.{ℕ, ◌+◌, ◌≤◌}
use native.Mathlib.Omega.{arith}
use lib.ListN.{length, set, length-append}
use Rattle.paper.specs.Bytes.{Bytes, be, pasted}
use Rattle.paper.specs.Layout.{times_bytes}
use Rattle.paper.specs.Fields.{step_field}
use Rattle.paper.proofs.Bytes.{be-length}
use Rattle.paper.proofs.Pasted.{pasted-one, pasted-pasted}
use Rattle.path_fields.specs.Written.{Wrote}
use Rattle.tree_path.proofs.Ends.{step-bytes}

-- y behind x
pub laid_next : (o v u x y : Bytes) (at mid : ℕ) → at ≤ length o → v ≡ pasted o at x → mid ≡ at + length x → u ≡ pasted v mid y → u ≡ pasted o at (x ++ y)
laid_next o v u x y at mid h e f g = g ∙ ap₂ (λ d i. pasted d i y) e f ∙ pasted-pasted o at x y h

pub wrote-next : (o v u x y z : Bytes) (at mid r : ℕ) → at ≤ length o → v ≡ pasted o at x → mid ≡ at + length x → Wrote v mid y u r → z ≡ x ++ y → Wrote o at z u r
wrote-next o v u x y z at mid r h e f g q = record {
  laid = laid_next o v u x y at mid h e f g.laid ∙ ap (pasted o at) (sym q);
  behind = g.behind ∙ omega (arith, length-append x y, ap length q);
}

-- ---- values one behind the other

pub times-append : {A : Type 0} (f : A → Bytes) (l m : List A) → times_bytes f (l ++ m) ≡ times_bytes f l ++ times_bytes f m
unfolding times_bytes
times-append f [] m = refl
times-append f (x ∷ l) m = ap (λ k. f x ++ k) (times-append f l m) ∙ sym (append_assoc (f x) (times_bytes f l) (times_bytes f m))

pub times-one : {A : Type 0} (f : A → Bytes) (x : A) → times_bytes f (x ∷ []) ≡ f x
unfolding times_bytes
times-one f x = append-nil (f x)

-- ---- an end

pub end-wrote : (o u x : Bytes) (at kind : ℕ) → at + 1 + length x ≤ length o → u ≡ pasted (set o at kind) (at + 1) x → Wrote o at (kind ∷ x) u (at + 1 + length x)
end-wrote o u x at kind h e = record {
  laid = laid_next o (set o at kind) u (kind ∷ []) x at (at + 1) (omega arith) (pasted-one o at kind (omega arith)) (omega arith) e;
  behind = omega arith;
}

-- kind, length, label or prefix, and the rest: 99 bytes
pub record-wrote : (o a b c x y z : Bytes) (at kind next : ℕ) → at + 99 ≤ length o → length x ≡ 2 → next ≡ at + 3 + length y → length y + length z ≡ 96
    → a ≡ pasted (set o at kind) (at + 1) x → b ≡ pasted a (at + 3) y → c ≡ pasted b next z → Wrote o at (kind ∷ ((x ++ y) ++ z)) c (at + 99)
record-wrote o a b c x y z at kind next h l n m ea eb ec =
    let first = laid_next o (set o at kind) a (kind ∷ []) x at (at + 1) (omega arith) (pasted-one o at kind (omega arith)) (omega arith) ea in
    let second = laid_next o a b (kind ∷ x) y at (at + 3) (omega arith) first (omega arith) eb in
    record {
      laid = laid_next o b c (kind ∷ (x ++ y)) z at next (omega arith) second (omega (arith, length-append x y)) ec;
      behind = omega (arith, length-append x y, length-append (x ++ y) z);
    }

-- ---- a step

pub step-long : (k : ℕ) (sibling : Bytes) → length sibling ≡ 32 → length (step_field.bytes (record { length = k; sibling = sibling })) ≡ 34
step-long k sibling h = ap length (step-bytes k sibling) ∙ omega (arith, length-append (be 2 k) sibling, be-length 2 k)

pub step-wrote : (o v u : Bytes) (at k : ℕ) (sibling : Bytes) → length sibling ≡ 32 → at ≤ length o → v ≡ pasted o at (be 2 k) → u ≡ pasted v (at + 2) sibling → Wrote o at (step_field.bytes (record { length = k; sibling = sibling })) u (at + 34)
step-wrote o v u at k sibling size h e f = record {
  laid = laid_next o v u (be 2 k) sibling at (at + 2) h e (omega (arith, be-length 2 k)) f ∙ ap (pasted o at) (sym (step-bytes k sibling));
  behind = omega (arith, step-long k sibling size);
}
