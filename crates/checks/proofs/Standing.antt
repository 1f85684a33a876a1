-- Keys and paths by their places: the k-th of a list that was read stands k times on from the first. Assumes nothing.
use mathlib.Core.Path.{◌≡◌, sym, ap, ◌∙◌, subst}
use mathlib.Core.List.{List}
use Prim.Native.Nat.{ℕ, zero, suc, ◌+◌, ◌-◌, ◌≤◌, ◌<◌}
use native.Mathlib.Omega.{arith}
use native.Mathlib.Numerals.{add-one}
use native.Mathlib.Nat.{add-zero, sub-zero}
use lib.ListN.{length, drop, get_or, length-take, length-drop}
use lib.Seq.{drop-drop, get_or-drop}
use Rattle.paper.specs.Bytes.{Bytes, Bytewise}
use Rattle.paper.specs.Layout.{Layout, got, times}
use Rattle.paper.specs.Shows.{Item, item_field}
use Rattle.paper.proofs.Lists.{all_drop}
use Rattle.paper.proofs.Layouts.{Lawful}
use Rattle.paper.proofs.Proofs.{item-lawful}
use Rattle.paper.proofs.Fits.{item-fits}
use Rattle.fields.specs.After.{after_of}
use Rattle.std.specs.Prelude.{Some}
use Rattle.fields.proofs.Behind.{First, first_of}
use Rattle.shown.proofs.Keyed.{item-told, item-after}
use Rattle.runs.specs.Runs.{onward, item_on}

-- ---- what is read at a place tells the place behind it

pub item-moves : (s : Bytes) → Bytewise s → (at next : ℕ) (x : Item) → next ≤ length s → item_field.read (drop at s) ≡ got x (drop next s) → item_on s at ≡ next
item-moves s w at next x l e =
    let (t, is) = item-told s at w x (drop next s) e in
    let f = item-fits x (item-lawful.tells (drop at s) x (drop next s) (all_drop _ at s w) e).0 in
    let low : 1 ≤ get_or s at 0 = omega (arith, f.least, ap (λ i. length i.key) is, length-take (get_or s at 0) (drop (at + 1) s)) in
    let o = item-after s at w (omega (arith, t.room)) low t.most t.room in
    let u : after_of (length s) (got x (drop next s)) ≡ Some (at + 33 + get_or s at 0) = ap (after_of (length s)) (sym e) ∙ o in
    let v : length s - length (drop next s) ≡ at + 33 + get_or s at 0 = cc in
    omega (arith, length-drop next s)

-- ---- values one behind the other

module _ {A : Type 0} {a : Layout A} (law : Lawful a) (s : Bytes) (w : Bytewise s) (on : ℕ → ℕ)
    (moves : (at next : ℕ) (x : A) → next ≤ length s → a.read (drop at s) ≡ got x (drop next s) → on at ≡ next)
    (start m : ℕ) (xs : List A) (r : Bytes) (l : start ≤ length s) (e : (times m a).read (drop start s) ≡ got xs r) where
  first-at : (k : ℕ) → k < m → (onward on start k ≤ length s) × ((times (m - k) a).read (drop (onward on start k) s) ≡ got (drop k xs) r)
      → First a s (onward on start k) (m - suc k) (drop k xs) r
  first-at k h (p, q) =
      let j : m - k ≡ suc (m - suc k) = omega arith in
      first_of law s w (onward on start k) (m - suc k) (drop k xs) r p (ap (λ n. (times n a).read (drop (onward on start k) s)) (sym j) ∙ q)

  standing : (k : ℕ) → k ≤ m → (onward on start k ≤ length s) × ((times (m - k) a).read (drop (onward on start k) s) ≡ got (drop k xs) r)
  unfolding onward
  standing zero h = (l, ap (λ n. (times n a).read (drop start s)) (sub-zero m) ∙ e)
  standing (suc k) h =
      let f = first-at k (omega arith) (standing k (omega arith)) in
      let n : on (onward on start k) ≡ f.next = moves (onward on start k) f.next f.value f.room f.reads in
      let d : drop (suc k) xs ≡ f.others = ap (λ i. drop i xs) (sym (add-one k)) ∙ sym (drop-drop 1 k xs) ∙ ap (drop 1) (sym f.is) in
      (subst (λ n. n ≤ length s) (sym n) f.room, ap (λ n. (times (m - suc k) a).read (drop n s)) n ∙ f.rest ∙ ap (λ l. got l r) (sym d))

  -- the k-th, and some place behind it
  pub nth : (k : ℕ) (d : A) → k < m → (next : ℕ) × (a.read (drop (onward on start k) s) ≡ got (get_or xs k d) (drop next s))
  nth k d h =
      let f = first-at k h (standing k (omega arith)) in
      let g : get_or xs k d ≡ f.value = ap (λ i. get_or xs i d) (sym (add-zero k)) ∙ sym (get_or-drop k xs 0 d) ∙ ap (λ l. get_or l 0 d) (sym f.is) in
      (f.next, f.reads ∙ ap (λ x. got x (drop f.next s)) (sym g))
