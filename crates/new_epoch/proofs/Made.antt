-- A new record's bytes, from an update's. Assumes nothing.
use mathlib.Core.Path.{◌≡◌, sym, ap, ap₂, ◌∙◌}
use mathlib.Core.List.{◌++◌, append_assoc}
use Prim.Native.Nat.{ℕ, ◌+◌, ◌≤◌}
use native.Mathlib.Omega.{arith}
use lib.ListN.{length, take, drop, length-append}
use lib.Seq.{length-take-le, take_at, drop_at}
use Rattle.paper.specs.Bytes.{Bytes, be, pasted}
use Rattle.paper.specs.Layout.{view, seq, such, within, block}
use Rattle.paper.specs.Table.{Update, filled_field, record_field, update_field}
use Rattle.paper.proofs.Bytes.{be-length}
use Rattle.paper.proofs.Kept.{filled-length}
use Rattle.paper.proofs.Pasted.{pasted-pasted}
use Rattle.new_epoch.specs.Prepared.{record_over}

-- four parts, one behind the other
pub laid : (o u : Bytes) (at v e : ℕ) → 162 ≤ length u → at ≤ length o
    → pasted (pasted (pasted (pasted o at (take 65 u)) (at + 65) (be 2 v)) (at + 67) (be 4 e)) (at + 71) (take 97 (drop 65 u))
    ≡ pasted o at (record_over u v e)
unfolding record_over
laid o u at v e h k =
    let a = take 65 u in
    let d = take 97 (drop 65 u) in
    let front : length a ≡ 65 = length-take-le 65 u (omega arith) in
    let i : 67 ≡ length (a ++ be 2 v) = omega (arith, length-append a (be 2 v), be-length 2 v) in
    let j : 71 ≡ length ((a ++ be 2 v) ++ be 4 e) = omega (arith, length-append (a ++ be 2 v) (be 4 e), length-append a (be 2 v), be-length 2 v, be-length 4 e) in
    let one = ap (λ m. pasted (pasted o at a) (at + m) (be 2 v)) (sym front) ∙ pasted-pasted o at a (be 2 v) k in
    let two = ap₂ (λ x m. pasted x (at + m) (be 4 e)) one i ∙ pasted-pasted o at (a ++ be 2 v) (be 4 e) k in
    let three = ap₂ (λ x m. pasted x (at + m) d) two j ∙ pasted-pasted o at ((a ++ be 2 v) ++ be 4 e) d k in
    three ∙ ap (pasted o at) (append_assoc (a ++ be 2 v) (be 4 e) d ∙ append_assoc a (be 2 v) (be 4 e ++ d))

-- "a record without version and epoch", and back
pub over-bytes : (u : Update) (rest : Bytes) (v e : ℕ) → update_field.Fits u
    → record_over (update_field.bytes u ++ rest) v e ≡ record_field.bytes (record { name = u.name; version = v; epoch = e; key = u.key; opening = u.opening })
unfolding record_over view seq such within block
over-bytes u rest v e f =
    let n = filled_field.bytes u.name in
    let k = filled_field.bytes u.key in
    let tail = k ++ u.opening in
    let size : length tail ≡ 97 = omega (arith, length-append k u.opening, filled-length u.key f.0.1.0, f.0.1.1.0) in
    let whole : (n ++ tail) ++ rest ≡ n ++ (tail ++ rest) = append_assoc n tail rest in
    let first : take 65 ((n ++ tail) ++ rest) ≡ n = ap (take 65) whole ∙ take_at n (tail ++ rest) 65 (filled-length u.name f.0.0.0) in
    let second : take 97 (drop 65 ((n ++ tail) ++ rest)) ≡ tail = ap (λ x. take 97 (drop 65 x)) whole ∙ ap (take 97) (drop_at n (tail ++ rest) 65 (filled-length u.name f.0.0.0)) ∙ take_at tail rest 97 size in
    rw (first, second)
