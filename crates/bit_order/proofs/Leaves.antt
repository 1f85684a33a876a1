-- A row of leaves, one behind the other: the leaf at a place, the leaves of two rows, a leaf laid over another. Assumes nothing.
use mathlib.Core.Path.{◌≡◌, refl, sym, ap, ap₂, ◌∙◌}
use mathlib.Core.List.{List, [], ◌∷◌, ◌++◌}
use Prim.Native.Nat.{ℕ, zero, suc, ◌+◌, ◌-◌, ◌*◌, ◌≤◌, ◌<◌}
use native.Mathlib.Nat.{zero-add, suc-add}
use native.Mathlib.Omega.{arith}
use lib.ListN.{length, get_or, set, take, drop, length-drop}
use lib.Seq.{take_at, drop_at, set_at, take-take, drop-drop, length-take-le}
use Rattle.paper.specs.Lists.{All}
use Rattle.paper.specs.Bytes.{Bytes, number, pasted}
use Rattle.paper.specs.Bits.{bits_of}
use Rattle.paper.specs.Strings.{Node, leaf, nothing}
use Rattle.paper.specs.Tree.{key}
use Rattle.paper.specs.Level.{entry_leaf, leaves_in}
use Rattle.paper.proofs.Lists.{drop-take}
use Rattle.paper.proofs.Bytes.{bits_of-length}

pub leaves_none : (s : Bytes) → leaves_in 0 s ≡ []
unfolding leaves_in
leaves_none s = refl

pub leaves-length : (n : ℕ) (s : Bytes) → length (leaves_in n s) ≡ n
unfolding leaves_in
leaves-length zero s = refl
leaves-length (suc n) s = ap suc (leaves-length n (drop 68 s))

-- labels have 256 bits
pub leaves-long : (n : ℕ) (s : Bytes) → n * 68 ≤ length s → All (λ x. length (key x) ≡ 256) (leaves_in n s)
unfolding leaves_in
leaves-long zero s h = tt
leaves-long (suc n) s h = (omega (arith, bits_of-length (take 32 s), length-take-le 32 s (omega arith)), leaves-long n (drop 68 s) (omega (arith, length-drop 68 s)))

-- the leaf at a place
next : (i : ℕ) (s : Bytes) → drop (i * 68) (drop 68 s) ≡ drop (suc i * 68) s
next i s = let e : 68 + i * 68 ≡ suc i * 68 = omega arith in drop-drop (i * 68) 68 s ∙ ap (λ k. drop k s) e

pub leaf-at : (n : ℕ) (s : Bytes) (i : ℕ) → i < n → get_or (leaves_in n s) i nothing ≡ entry_leaf (drop (i * 68) s)
unfolding leaves_in
leaf-at zero s i h = absurd (omega arith)
leaf-at (suc n) s zero h = refl
leaf-at (suc n) s (suc i) h = leaf-at n (drop 68 s) i (omega arith) ∙ ap entry_leaf (next i s)

-- "label 32, commitment 32, epoch 4": a leaf is what its 68 bytes say, whatever lies behind them
pub leaf-cut : (w : ℕ) (s : Bytes) → 68 ≤ w → entry_leaf (take w s) ≡ entry_leaf s
leaf-cut w s h =
    let a : take 32 (take w s) ≡ take 32 s = take-take 32 w s (omega arith) in
    let b : take 32 (drop 32 (take w s)) ≡ take 32 (drop 32 s) = ap (take 32) (drop-take 32 w s) ∙ take-take 32 (w - 32) (drop 32 s) (omega arith) in
    let c : take 4 (drop 64 (take w s)) ≡ take 4 (drop 64 s) = ap (take 4) (drop-take 64 w s) ∙ take-take 4 (w - 64) (drop 64 s) (omega arith) in
    (λ i. leaf (bits_of (a i)) (b i) (number (c i)))

pub leaves-cut : (n w : ℕ) (s : Bytes) → n * 68 ≤ w → leaves_in n (take w s) ≡ leaves_in n s
unfolding leaves_in
leaves-cut zero w s h = refl
leaves-cut (suc n) w s h =
    ap₂ {C = List Node} (λ x l. x ∷ l) (leaf-cut w s (omega arith)) (ap (leaves_in n) (drop-take 68 w s) ∙ leaves-cut n (w - 68) (drop 68 s) (omega arith))

-- ---- two rows

leaves-add : (m r : ℕ) (s : Bytes) → leaves_in (m + r) s ≡ leaves_in m s ++ leaves_in r (drop (m * 68) s)
unfolding leaves_in
leaves-add zero r s = rw (zero-add r) refl
leaves-add (suc m) r s =
    ap (λ i. leaves_in i s) (suc-add m r)
    ∙ ap {B = List Node} (λ l. entry_leaf s ∷ l) (leaves-add m r (drop 68 s) ∙ ap (λ b. leaves_in m (drop 68 s) ++ leaves_in r b) (next m s))

pub leaves-append : (m r : ℕ) (a b : Bytes) → length a ≡ m * 68 → leaves_in (m + r) (a ++ b) ≡ leaves_in m a ++ leaves_in r b
leaves-append m r a b h =
    leaves-add m r (a ++ b)
    ∙ ap₂ (λ x y. x ++ y) (sym (leaves-cut m (m * 68) (a ++ b) (omega arith)) ∙ ap (leaves_in m) (take_at a b (m * 68) h)) (ap (leaves_in r) (drop_at a b (m * 68) h))

pub leaves-split : (m n : ℕ) (s : Bytes) → m ≤ n → leaves_in n s ≡ leaves_in m (take (m * 68) s) ++ leaves_in (n - m) (drop (m * 68) s)
leaves-split m n s h =
    let e : n ≡ m + (n - m) = omega arith in
    ap (λ i. leaves_in i s) e ∙ leaves-add m (n - m) s ∙ ap (λ l. l ++ leaves_in (n - m) (drop (m * 68) s)) (sym (leaves-cut m (m * 68) s (omega arith)))

-- ---- a leaf laid over another

leaves-first : (n : ℕ) (e r : Bytes) → length e ≡ 68 → leaves_in (suc n) (e ++ r) ≡ entry_leaf e ∷ leaves_in n r
unfolding leaves_in
leaves-first n e r h =
    ap₂ {C = List Node} (λ x l. x ∷ l) (sym (leaf-cut 68 (e ++ r) (omega arith)) ∙ ap entry_leaf (take_at e r 68 h)) (ap (leaves_in n) (drop_at e r 68 h))

pub leaves-pasted : (i m : ℕ) (s e : Bytes) → i * 68 ≤ length s → length e ≡ 68 → leaves_in (i + suc m) (pasted s (i * 68) e) ≡ leaves_in i s ++ (entry_leaf e ∷ leaves_in m (drop (i * 68 + 68) s))
unfolding pasted
leaves-pasted i m s e h k =
    leaves-append i (suc m) (take (i * 68) s) (e ++ drop (i * 68 + length e) s) (length-take-le (i * 68) s h)
    ∙ ap₂ (λ x y. x ++ y) (leaves-cut i (i * 68) s (omega arith))
    (leaves-first m e (drop (i * 68 + length e) s) k ∙ ap {B = List Node} (λ j. entry_leaf e ∷ leaves_in m (drop (i * 68 + j) s)) k)

pub leaves-set : (i n : ℕ) (s e : Bytes) → i < n → length s ≡ n * 68 → length e ≡ 68 → leaves_in n (pasted s (i * 68) e) ≡ set (leaves_in n s) i (entry_leaf e)
unfolding leaves_in
leaves-set i n s e h hs he =
    let m = n - suc i in
    let q : n ≡ i + suc m = omega arith in
    let rest = drop (i * 68) s in
    ap (λ j. leaves_in j (pasted s (i * 68) e)) q
    ∙ leaves-pasted i m s e (omega arith) he
    ∙ ap {B = List Node} (λ b. leaves_in i s ++ (entry_leaf e ∷ leaves_in m b)) (sym (drop-drop 68 (i * 68) s))
    ∙ sym (ap (λ l. set l i (entry_leaf e)) (ap (λ j. leaves_in j s) q ∙ leaves-add i (suc m) s) ∙ set_at (leaves_in i s) (entry_leaf rest) (leaves_in m (drop 68 rest)) (entry_leaf e) i (leaves-length i s))
