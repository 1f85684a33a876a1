-- Laws of a string laid over another: what it leaves before it, where it lies and behind it. Assumes nothing.
use mathlib.Core.Path.{◌≡◌, refl, sym, ap, ◌∙◌}
use mathlib.Core.Logic.{◌⊎◌, inl, inr}
use mathlib.Core.List.{[], ◌∷◌, ◌++◌, append-nil, append_assoc}
use Prim.Native.Nat.{ℕ, ◌+◌, ◌-◌, ◌≤◌, ◌<◌}
use native.Mathlib.Nat.{add-zero}
use native.Mathlib.Numerals.{add-one}
use native.Mathlib.Omega.{arith}
use lib.ListN.{length, take, drop, set, get_or, length-append, length-take, length-drop, take-append-drop, get_or-append}
use lib.Seq.{take-append-le, drop-append-le, drop-append-add, take_at, drop_at, drop-drop, drop-length, length-take-le, take-take, take-length, get_or-take, get_or-drop, get_or-append-add, set_split, paste}
use Rattle.paper.specs.Bytes.{Bytes, Bytewise, pasted}
use Rattle.paper.proofs.Lists.{all_append, all_take, all_drop, drop-take}

-- a copy of all of x
pub paste_all : (o : Bytes) (a : ℕ) (x : Bytes) (i : ℕ) → i ≡ length x → paste o a x i ≡ pasted o a x
unfolding pasted
paste_all o a x i h = rw (h, take-length x) (append_assoc (take a o) x (drop (a + length x) o))

-- a string laid over nothing, over one place, over the end, and right behind what is there
pub pasted-none : (o : Bytes) (a : ℕ) → pasted o a [] ≡ o
unfolding pasted
pasted-none o a = rw (add-zero a) (take-append-drop a o)

pub pasted-one : (o : Bytes) (a b : ℕ) → a < length o → set o a b ≡ pasted o a (b ∷ [])
unfolding pasted
pasted-one o a b h = rw (add-one a) (set_split o a b h)

pub pasted-end : (o : Bytes) (a : ℕ) (x : Bytes) → a + length x ≡ length o → pasted o a x ≡ take a o ++ x
unfolding pasted
pasted-end o a x h = rw (h, drop-length o, append-nil x)

pub pasted-front : (o : Bytes) (a : ℕ) (x : Bytes) → a ≤ length o → take (a + length x) (pasted o a x) ≡ take a o ++ x
unfolding pasted
pasted-front o a x h =
    let e : length (take a o ++ x) ≡ a + length x = omega (arith, length-append (take a o) x, length-take-le a o h) in
    rw (← (append_assoc (take a o) x (drop (a + length x) o))) (take_at (take a o ++ x) (drop (a + length x) o) (a + length x) e)

pub pasted_at : (f r x : Bytes) (a : ℕ) → length f ≡ a → pasted (f ++ r) a x ≡ f ++ (x ++ drop (length x) r)
unfolding pasted
pasted_at f r x a h = rw (take_at f r a h, ← h, drop-append-add f r (length x))

pub pasted-pasted : (o : Bytes) (a : ℕ) (x y : Bytes) → a ≤ length o → pasted (pasted o a x) (a + length x) y ≡ pasted o a (x ++ y)
unfolding pasted
pasted-pasted o a x y h =
    let e : length (take a o ++ x) ≡ a + length x = omega (arith, length-append (take a o) x, length-take-le a o h) in
    let k : a + length x + length y ≡ a + length (x ++ y) = omega (arith, length-append x y) in
    ap (λ l. pasted l (a + length x) y) (sym (append_assoc (take a o) x (drop (a + length x) o)))
    ∙ pasted_at (take a o ++ x) (drop (a + length x) o) y (a + length x) e
    ∙ rw (drop-drop (length y) (a + length x) o, k) (simp append_assoc)

-- a buffer holds what was laid over it
pub pasted-reach : (o : Bytes) (a : ℕ) (x : Bytes) → a ≤ length o → a + length x ≤ length (pasted o a x)
unfolding pasted
pasted-reach o a x h = simp (length-append, length-take) (omega arith)

-- ---- where it ends inside the buffer

module _ (d : Bytes) (at : ℕ) (s : Bytes) (fits : at + length s ≤ length d) where
  front : length (take at d) ≡ at
  front = length-take-le at d (omega arith)

  pub pasted_length : length (pasted d at s) ≡ length d
  unfolding pasted
  pasted_length = omega (arith, length-append (take at d) (s ++ drop (at + length s) d), length-append s (drop (at + length s) d), length-drop (at + length s) d, front)

  -- a part before it is as it was
  pub part-before : (i w : ℕ) → i + w ≤ at → take w (drop i (pasted d at s)) ≡ take w (drop i d)
  unfolding pasted
  part-before i w h =
      let T = s ++ drop (at + length s) d in
      let e : drop i (take at d) ≡ take (at - i) (drop i d) = drop-take i at d in
      ap (take w) (drop-append-le i (take at d) T (omega (arith, front)))
      ∙ take-append-le w (drop i (take at d)) T (omega (arith, length-drop i (take at d), front))
      ∙ ap (take w) e ∙ take-take w (at - i) (drop i d) (omega arith)

  -- from where it lies on, it stands first
  pub pasted-behind : drop at (pasted d at s) ≡ s ++ drop (at + length s) d
  unfolding pasted
  pasted-behind = drop_at (take at d) (s ++ drop (at + length s) d) at front

  pub part_at : take (length s) (drop at (pasted d at s)) ≡ s
  part_at = ap (take (length s)) pasted-behind ∙ take_at s (drop (at + length s) d) (length s) refl

  pub pasted-bytes : Bytewise d → Bytewise s → Bytewise (pasted d at s)
  unfolding pasted
  pasted-bytes h k = all_append _ (take at d) (s ++ drop (at + length s) d) (all_take _ at d h) (all_append _ s (drop (at + length s) d) k (all_drop _ (at + length s) d h))

  -- every byte before it and behind it is as it was
  pub pasted-other : (i : ℕ) → (i < at) ⊎ (at + length s ≤ i) → get_or (pasted d at s) i 0 ≡ get_or d i 0
  unfolding pasted
  pasted-other i (inl h) = get_or-append (take at d) (s ++ drop (at + length s) d) 0 i (omega (arith, front)) ∙ get_or-take at d i 0 h
  pasted-other i (inr h) =
      let k = i - (at + length s) in
      let e : i ≡ length (take at d) + (length s + k) = omega (arith, front) in
      let z : (at + length s) + k ≡ i = omega arith in
      ap (λ j. get_or (pasted d at s) j 0) e
      ∙ get_or-append-add (take at d) (s ++ drop (at + length s) d) (length s + k) 0
      ∙ get_or-append-add s (drop (at + length s) d) k 0
      ∙ get_or-drop (at + length s) d k 0 ∙ ap (λ j. get_or d j 0) z
