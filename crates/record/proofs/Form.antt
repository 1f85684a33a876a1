-- The layout of a record by places: it is read in 168 bytes, and what is read is the record that stands there. Assumes nothing.
use mathlib.Core.Path.{◌≡◌, refl, sym, ap, ap₂, ◌∙◌}
use mathlib.Core.Bool.{Bool, ◌&&◌, and-true}
use mathlib.Core.List.{List, [], ◌∷◌, ◌++◌, append_assoc, append-nil}
use Prim.Native.Nat.{ℕ, suc, ◌+◌, ◌-◌, ◌≤◌}
use native.Mathlib.Omega.{arith}
use lib.Dec.{leb}
use lib.ListN.{length, take, drop, get_or, length-replicate}
use lib.Seq.{get_or-drop, drop-drop, take-take}
use borrow.Author.Tests.{leb-true}
use Rattle.paper.specs.Lists.{All}
use Rattle.paper.specs.Numbers.{wide, version_most, record_size}
use Rattle.paper.specs.Bytes.{Bytes, number, same, zeros}
use Rattle.paper.specs.Layout.{within, times_bytes}
use Rattle.paper.specs.Fields.{is_name, epoch_field}
use Rattle.paper.specs.Table.{Record, filled_body, filled_field, name_field, record_field}
use Rattle.paper.proofs.Lists.{and_right}
use Rattle.paper.proofs.Proofs.{record-lawful}
use Rattle.paper.proofs.Kept.{record-bytewise, record-length}
use Rattle.fields.proofs.Flat.{Flat, flat-as, flat-got, block-flat, fixed-flat, within-flat, epoch-flat, seq-flat, led-flat-where, view-flat, such-flat}
use Rattle.record.specs.Places.{record_in, record_at, records_in}
use Rattle.record.proofs.Places.{record-append, at_zero, records-none, records-snoc, records-append}

-- a byte as a number
first-number : (s : Bytes) → number (take 1 s) ≡ get_or s 0 0
unfolding number
first-number [] = refl
first-number (b ∷ s) = omega arith

-- "name length 1, name 64", "unused bytes zero": what is tested of a length and the 64 bytes behind it
abbrev pub filled_test : Bytes → Bool
filled_test s = (leb 1 (get_or s 0 0) && leb (get_or s 0 0) 64) && same (take (64 - get_or s 0 0) (drop (1 + get_or s 0 0) s)) (zeros (64 - get_or s 0 0))

abbrev pub filled_in : Bytes → Bytes
filled_in s = take (get_or s 0 0) (take 64 (drop 1 s))

body-flat : (n : ℕ) → n ≤ 64 → Flat (filled_body n).read 64 (λ s. same (take (64 - n) (drop n s)) (zeros (64 - n))) (λ s. take n (take 64 s))
body-flat n h =
    let e = length-replicate {A = ℕ} (64 - n) 0 in
    flat-as (omega (arith, e)) (λ s. rw e) (λ s. sym (take-take n 64 s h)) (view-flat _ _ _ (seq-flat _ _ (block-flat n) (λ _. fixed-flat (zeros (64 - n)))))

pub filled-flat : Flat filled_field.read 65 filled_test filled_in
filled-flat = flat-as refl
    (λ s. rw (first-number s, drop-drop (get_or s 0 0) 1 s))
    (λ s. rw (first-number s))
    (led-flat-where (within 1 1 64) length filled_body (λ n. n ≤ 64) (within-flat 1 1 64)
    (λ s e. leb-true (number (take 1 s)) 64 (and_right (leb 1 (number (take 1 s))) _ e))
    body-flat)

-- what is tested of a record
abbrev pub record_test : Bytes → Bool
record_test s =
    (filled_test s && is_name (filled_in s))
    && ((leb 1 (number (take 2 (drop 65 s))) && leb (number (take 2 (drop 65 s))) version_most) && filled_test (drop 71 s))

pub record-flat : Flat record_field.read record_size record_test record_in
unfolding record_in
record-flat = flat-as refl
    (λ s. rw (drop-drop 2 65 s, drop-drop 4 67 s, and-true (filled_test (drop 71 s))))
    (λ s. rw (drop-drop 2 65 s, drop-drop 4 67 s, drop-drop 65 71 s, drop-drop 1 71 s, get_or-drop 71 s 0 0))
    (view-flat _ _ _
    (seq-flat name_field _ (such-flat filled_field is_name filled-flat)
    (λ _. seq-flat (within 2 1 version_most) _ (within-flat 2 1 version_most)
    (λ _. seq-flat epoch_field _ epoch-flat (λ _. seq-flat filled_field _ filled-flat (λ _. block-flat wide))))))

-- a record's bytes are read back as that record, whatever stands behind them
pub record-back : (r : Record) (rest : Bytes) → record_field.Fits r → record_in (record_field.bytes r ++ rest) ≡ r
record-back r rest f =
    let b = record_field.bytes r in
    record-append b rest (omega (arith, record-length r f))
    ∙ ap record_in (sym (append-nil b))
    ∙ (flat-got record-flat (b ++ []) (rw (append-nil b) (record-bytewise r f)) r [] (record-lawful.reads r [] f)).2

-- and so are the bytes of many
pub records-back : (rs : List Record) (rest : Bytes) → All record_field.Fits rs → records_in (length rs) (times_bytes record_field.bytes rs ++ rest) ≡ rs
unfolding times_bytes
records-back [] rest f = records-none rest
records-back (r ∷ rs) rest f =
    let b = record_field.bytes r in
    let t = times_bytes record_field.bytes rs in
    let e : suc (length rs) ≡ 1 + length rs = omega arith in
    ap₂ records_in e (append_assoc b t rest)
    ∙ records-append 1 (length rs) b (t ++ rest) (omega (arith, record-length r f.0))
    ∙ ap₂ {C = List Record} (λ x l. x ++ l) (one r f.0) (records-back rs rest f.1)
  where
    one : (r : Record) → record_field.Fits r → records_in 1 (record_field.bytes r) ≡ r ∷ []
    one r f =
        let b = record_field.bytes r in
        records-snoc 0 b
        ∙ ap (λ l. l ++ (record_at b 0 ∷ [])) (records-none b)
        ∙ ap (λ x. x ∷ []) (at_zero b ∙ ap record_in (sym (append-nil b)) ∙ record-back r [] f)
