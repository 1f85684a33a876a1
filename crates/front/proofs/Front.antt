-- Header, head and number, one part behind the other. Assumes nothing.
use mathlib.Core.Path.{◌≡◌, refl, ap, ◌∙◌}
use mathlib.Core.List.{List, [], ◌∷◌, ◌++◌, append_assoc}
use Prim.Native.Nat.{ℕ, suc, ◌+◌, ◌*◌}
use native.Mathlib.Omega.{arith}
use lib.ListN.{length, take, drop, length-append}
use Rattle.paper.specs.Bytes.{Bytes, be, pasted}
use Rattle.paper.specs.Strings.{Head}
use Rattle.paper.specs.Layout.{view, seq, within, block, fixed, times, times_bytes}
use Rattle.paper.specs.Fields.{head_field, path_field}
use Rattle.paper.specs.Shows.{Asked, Proof, proof_field}
use Rattle.paper.specs.Table.{head_at, previous_head}
use Rattle.paper.proofs.Bytes.{be-length}
use Rattle.path_fields.proofs.Writing.{laid_next}
use Rattle.front.specs.Front.{front_bytes, item_bytes}

pub head-parts : (h : Head) → head_field.bytes h ≡ be 4 h.epoch ++ (h.previous ++ (h.all ++ h.old))
unfolding view seq within block
head-parts h = refl

-- six parts
pub front-laid : (kind : ℕ) (h : Head) (n : ℕ) (o a b c d e f : Bytes) → length h.previous ≡ 32 → length h.all ≡ 32 → length h.old ≡ 32
    → a ≡ pasted o 0 (0x56 ∷ 0x4B ∷ 0x44 ∷ 0 ∷ 1 ∷ kind ∷ []) → b ≡ pasted a 6 (be 4 h.epoch) → c ≡ pasted b 10 h.previous → d ≡ pasted c 42 h.all → e ≡ pasted d 74 h.old → f ≡ pasted e 106 (be 2 n)
    → f ≡ pasted o 0 (front_bytes kind h n)
unfolding front_bytes
front-laid kind h n o a b c d e f lp la lo ea eb ec ed ee ef =
    let x : Bytes = 0x56 ∷ 0x4B ∷ 0x44 ∷ 0 ∷ 1 ∷ kind ∷ [] in
    let x1 = x ++ be 4 h.epoch in
    let x2 = x1 ++ h.previous in
    let x3 = x2 ++ h.all in
    let x4 = x3 ++ h.old in
    let s1 : 10 ≡ 0 + length x1 = omega (arith, length-append x (be 4 h.epoch), be-length 4 h.epoch) in
    let s2 : 42 ≡ 0 + length x2 = omega (arith, length-append x1 h.previous) in
    let s3 : 74 ≡ 0 + length x3 = omega (arith, length-append x2 h.all) in
    let s4 : 106 ≡ 0 + length x4 = omega (arith, length-append x3 h.old) in
    let q1 = laid_next o a b x (be 4 h.epoch) 0 6 (omega arith) ea refl eb in
    let q2 = laid_next o b c x1 h.previous 0 10 (omega arith) q1 s1 ec in
    let q3 = laid_next o c d x2 h.all 0 42 (omega arith) q2 s2 ed in
    let q4 = laid_next o d e x3 h.old 0 74 (omega arith) q3 s3 ee in
    let q5 = laid_next o e f x4 (be 2 n) 0 106 (omega arith) q4 s4 ef in
    let whole : x4 ++ be 2 n ≡ x ++ (head_field.bytes h ++ be 2 n) = rw (head-parts h) (simp append_assoc) in
    q5 ∙ ap (pasted o 0) whole

pub front_length : (kind : ℕ) (h : Head) (n : ℕ) → length h.previous ≡ 32 → length h.all ≡ 32 → length h.old ≡ 32 → length (front_bytes kind h n) ≡ 108
unfolding front_bytes
front_length kind h n lp la lo =
    let x : Bytes = 0x56 ∷ 0x4B ∷ 0x44 ∷ 0 ∷ 1 ∷ kind ∷ [] in
    omega (
      arith,
      length-append x (head_field.bytes h ++ be 2 n),
      length-append (head_field.bytes h) (be 2 n),
      ap length (head-parts h),
      length-append (be 4 h.epoch) (h.previous ++ (h.all ++ h.old)),
      length-append h.previous (h.all ++ h.old),
      length-append h.all h.old,
      be-length 4 h.epoch,
      be-length 2 n,
    )

-- a proof is its front, its keys and its paths
pub proof-bytes : (kind : ℕ) (keys : ℕ → ℕ) (asked : ℕ → ℕ → List Asked) (p : Proof)
    → (proof_field kind keys asked).bytes p ≡ front_bytes kind p.head p.number ++ (item_bytes p.items ++ times_bytes path_field.bytes p.paths)
unfolding front_bytes item_bytes view seq fixed within times be
proof-bytes kind keys asked p = simp append_assoc refl

-- the previous head
pub previous-some : (heads : Bytes) (t : ℕ) → previous_head heads (suc t) ≡ take 32 (drop (t * 32) heads)
unfolding head_at
previous-some heads t = refl
