-- A leaf laid behind those that a row has. Assumes nothing.
use mathlib.Core.Path.{◌≡◌, refl, sym, ap, ◌∙◌}
use mathlib.Core.List.{List, [], ◌∷◌, ◌++◌, append_assoc, append-nil}
use Prim.Native.Nat.{ℕ, ◌+◌, ◌*◌, ◌^◌, ◌≤◌, ◌<◌}
use native.Mathlib.Nat.{add-zero}
use native.Mathlib.Omega.{arith}
use lib.ListN.{length, take, drop, length-append}
use lib.Seq.{take_at, drop_at, drop-drop}
use Rattle.paper.specs.Bytes.{Bytes, be, number, pasted}
use Rattle.paper.specs.Bits.{bits_of}
use Rattle.paper.specs.Strings.{Node, leaf}
use Rattle.paper.specs.Level.{entry_leaf, leaves_in}
use Rattle.paper.proofs.Bytes.{be-length, number-be}
use Rattle.paper.proofs.Pasted.{pasted-pasted, pasted_length, pasted-behind}
use Rattle.bit_order.proofs.Leaves.{leaves_none, leaves-pasted}
use Rattle.gather.specs.Gathered.{Gained}

-- an entry's bytes hold the leaf
abbrev pub entry_bytes : Bytes → Bytes → ℕ → Bytes
entry_bytes label commitment epoch = label ++ (commitment ++ be 4 epoch)

entry_length : (label commitment : Bytes) (epoch : ℕ) → length label ≡ 32 → length commitment ≡ 32 → length (entry_bytes label commitment epoch) ≡ 68
entry_length l c e h k = omega (arith, length-append l (c ++ be 4 e), length-append c (be 4 e), be-length 4 e)

entry-leaf : (label commitment : Bytes) (epoch : ℕ) → length label ≡ 32 → length commitment ≡ 32 → epoch < 2 ^ 32
    → entry_leaf (entry_bytes label commitment epoch) ≡ leaf (bits_of label) commitment epoch
entry-leaf l c e h k w =
    let second = ap (take 32) (drop_at l (c ++ be 4 e) 32 h) ∙ take_at c (be 4 e) 32 k in
    let back = sym (drop-drop 32 32 (l ++ (c ++ be 4 e))) ∙ ap (drop 32) (drop_at l (c ++ be 4 e) 32 h) ∙ drop_at c (be 4 e) 32 k in
    let third = ap number (ap (take 4) back ∙ ap (take 4) (sym (append-nil (be 4 e))) ∙ take_at (be 4 e) [] 4 (be-length 4 e)) ∙ number-be 4 e w in
    rw (take_at l (c ++ be 4 e) 32 h, second, third)

entry-gained : (s : Bytes) (n : ℕ) (x : Bytes) → length x ≡ 68 → n * 68 ≤ length s → leaves_in (n + 1) (pasted s (n * 68) x) ≡ leaves_in n s ++ (entry_leaf x ∷ [])
entry-gained s n x h room = leaves-pasted n 0 s x room h ∙ ap {B = List Node} (λ l. leaves_in n s ++ (entry_leaf x ∷ l)) (leaves_none (drop (n * 68 + 68) s))

-- and nothing behind the entry is touched
entry-rest : (s : Bytes) (n : ℕ) (x : Bytes) → length x ≡ 68 → (n + 1) * 68 ≤ length s → drop ((n + 1) * 68) (pasted s (n * 68) x) ≡ drop ((n + 1) * 68) s
entry-rest s n x h room =
    let e : (n + 1) * 68 ≡ n * 68 + 68 = omega arith in
    rw e (sym (drop-drop 68 (n * 68) _) ∙ ap (drop 68) (pasted-behind s (n * 68) x (omega arith)) ∙ drop_at x _ 68 h ∙ ap (λ i. drop (n * 68 + i) s) h)

-- a leaf, written in three parts
pub gain-one : (s : Bytes) (n : ℕ) (l c : Bytes) (e : ℕ) → length l ≡ 32 → length c ≡ 32 → e < 2 ^ 32 → (n + 1) * 68 ≤ length s
    → Gained s (pasted (pasted (pasted s (n * 68) l) (n * 68 + 32) c) (n * 68 + 64) (be 4 e)) n (n + 1) (leaf (bits_of l) c e ∷ [])
gain-one s n l c e h k w room =
    let a = n * 68 in
    let x = entry_bytes l c e in
    let long = entry_length l c e h k in
    let two : pasted (pasted s a l) (a + 32) c ≡ pasted s a (l ++ c) = ap (λ i. pasted (pasted s a l) (a + i) c) (sym h) ∙ pasted-pasted s a l c (omega arith) in
    let i : 64 ≡ length (l ++ c) = omega (arith, length-append l c) in
    let three : pasted (pasted (pasted s a l) (a + 32) c) (a + 64) (be 4 e) ≡ pasted s a x =
    ap (λ o. pasted o (a + 64) (be 4 e)) two ∙ ap (λ i. pasted (pasted s a (l ++ c)) (a + i) (be 4 e)) i ∙ pasted-pasted s a (l ++ c) (be 4 e) (omega arith) ∙ ap (pasted s a) (append_assoc l c (be 4 e)) in
    rw three (record {
      leaves = entry-gained s n x long (omega arith) ∙ ap {B = List Node} (λ y. leaves_in n s ++ (y ∷ [])) (entry-leaf l c e h k w);
      number = refl;
      size = pasted_length s a x (omega (arith, long));
      rest = entry-rest s n x long room;
    })

-- ---- more and more leaves

pub gain-none : (s : Bytes) (n : ℕ) → Gained s s n n []
gain-none s n = record { leaves = sym (append-nil (leaves_in n s)); number = sym (add-zero n); size = refl; rest = refl }

pub gain-more : {s t u : Bytes} {n m k : ℕ} {S R : List Node} → Gained s t n m S → Gained t u m k R → Gained s u n k (S ++ R)
gain-more {s} {t} {u} {n} {m} {k} {S} {R} g h =
    let e : k * 68 ≡ m * 68 + length R * 68 = omega (arith, h.number) in
    record {
      leaves = h.leaves ∙ ap (λ l. l ++ R) g.leaves ∙ append_assoc (leaves_in n s) S R;
      number = omega (arith, g.number, h.number, length-append S R);
      size = h.size ∙ g.size;
      rest = h.rest ∙ rw e (sym (drop-drop (length R * 68) (m * 68) t) ∙ ap (drop (length R * 68)) g.rest ∙ drop-drop (length R * 68) (m * 68) s);
    }
