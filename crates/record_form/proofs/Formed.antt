-- The layout of a record, as it is tested. Assumes nothing.
use mathlib.Core.Path.{◌≡◌, sym, ap, ◌∙◌}
use mathlib.Core.Logic.{◌⊎◌}
use mathlib.Core.Bool.{Bool, true, false, ◌&&◌, and-true, and-false}
use Prim.Native.Nat.{ℕ, suc, ◌+◌, ◌-◌, ◌*◌, ◌≤◌, ◌<◌}
use native.Mathlib.Omega.{arith}
use lib.Dec.{eqb, leb}
use lib.ListN.{length, take, drop, get_or, length-drop}
use lib.Seq.{get_or-drop, drop-drop}
use borrow.Author.Tests.{leb-true}
use Rattle.paper.specs.Lists.{every}
use Rattle.paper.specs.Numbers.{record_size, version_most}
use Rattle.paper.specs.Bytes.{Bytes, Bytewise, number}
use Rattle.paper.specs.Layout.{in_layout}
use Rattle.paper.specs.Fields.{is_name}
use Rattle.paper.specs.Table.{filled_field, record_field}
use Rattle.paper.proofs.Lists.{and_left, and_right, all_drop}
use Rattle.ranges.proofs.Compare.{zeros-same}
use Rattle.ranges.proofs.Slices.{length_part}
use Rattle.fields.proofs.Flat.{flat_in, inside, outside}
use Rattle.record.specs.Places.{record_in, record_at, Stands}
use Rattle.record.proofs.Form.{filled_test, filled-flat, record-flat}

-- ---- a length, so many bytes, and zeros up to 64

module _ (s : Bytes) (at : ℕ) (w : Bytewise s) (room : at + 65 ≤ length s) where
  abbrev size : ℕ
  size = get_or s at 0

  size_is : get_or (drop at s) 0 0 ≡ size
  size_is = let e : at + 0 ≡ at = omega arith in get_or-drop at s 0 0 ∙ ap (λ i. get_or s i 0) e

  pub filled_is : in_layout (filled_field.read (drop at s)) ≡ filled_test (drop at s)
  filled_is = flat_in filled-flat (drop at s) (all_drop _ at s w) (omega (arith, length-drop at s))

  pub filled-out : (size < 1) ⊎ (64 < size) → in_layout (filled_field.read (drop at s)) ≡ false
  filled-out o = filled_is ∙ rw (size_is, outside 1 64 size o)

  pub filled-rest : 1 ≤ size → size ≤ 64 → in_layout (filled_field.read (drop at s)) ≡ every (λ b. eqb b 0) (take (at + 65 - (at + 1 + size)) (drop (at + 1 + size) s))
  filled-rest l h =
      let e : at + (1 + size) ≡ at + 1 + size = omega arith in
      let n : at + 65 - (at + 1 + size) ≡ 64 - size = omega arith in
      let z : length (take (64 - size) (drop (at + 1 + size) s)) ≡ 64 - size = length_part s (at + 1 + size) (64 - size) (omega arith) in
      filled_is
      ∙ rw (size_is, inside 1 64 size l h, drop-drop (1 + size) at s, e, n) (sym (rw z at (zeros-same (take (64 - size) (drop (at + 1 + size) s)))))

  pub filled-short : in_layout (filled_field.read (drop at s)) ≡ true → size ≤ 64
  filled-short e = rw size_is at (leb-true (get_or (drop at s) 0 0) 64 (and_right (leb 1 (get_or (drop at s) 0 0)) _ (and_left _ _ (sym filled_is ∙ e))))

-- ---- a record

-- whether record i is in layout
abbrev pub formed : Bytes → ℕ → Bool
formed s i = in_layout (record_field.read (drop (i * record_size) s))

-- whether its name is, and its key
abbrev pub name_formed : Bytes → ℕ → Bool
name_formed s i = in_layout (filled_field.read (drop (i * record_size) s))

abbrev pub key_formed : Bytes → ℕ → Bool
key_formed s i = in_layout (filled_field.read (drop (i * record_size + 71) s))

module _ (s : Bytes) (i : ℕ) (w : Bytewise s) (room : suc i * record_size ≤ length s) where
  abbrev version : ℕ
  version = number (take 2 (drop (i * record_size + 65) s))

  formed-is : formed s i ≡ ((name_formed s i && is_name (record_at s i).name) && ((leb 1 version && leb version version_most) && key_formed s i))
  unfolding record_at record_in
  formed-is =
      let n = filled_is s (i * record_size) w (omega arith) in
      let k = filled_is s (i * record_size + 71) w (omega arith) in
      flat_in record-flat (drop (i * record_size) s) (all_drop _ (i * record_size) s w) (omega (arith, length-drop (i * record_size) s))
      ∙ rw (n, k, drop-drop 65 (i * record_size) s, drop-drop 71 (i * record_size) s)

  pub formed-nameless : name_formed s i ≡ false → formed s i ≡ false
  formed-nameless e = formed-is ∙ rw e

  pub formed-keyless : key_formed s i ≡ false → formed s i ≡ false
  formed-keyless e = formed-is ∙ rw (e, and-false, and-false)

  pub formed-out : (version < 1) ⊎ (version_most < version) → formed s i ≡ false
  formed-out o = formed-is ∙ rw (outside 1 version_most version o, and-false)

  pub formed-name : name_formed s i ≡ true → key_formed s i ≡ true → 1 ≤ version → version ≤ version_most → formed s i ≡ is_name (record_at s i).name
  formed-name e k l h = formed-is ∙ rw (e, k, inside 1 version_most version l h) (and-true (is_name (record_at s i).name))

  pub stands_by : name_formed s i ≡ true → key_formed s i ≡ true → Stands s i
  stands_by e k = record {
    reach = room;
    name-short = filled-short s (i * record_size) w (omega arith) e;
    key-short = filled-short s (i * record_size + 71) w (omega arith) k;
  }

  -- a record in layout stands
  pub formed-stands : formed s i ≡ true → Stands s i
  formed-stands e =
      let f = sym formed-is ∙ e in
      stands_by (and_left _ _ (and_left _ _ f)) (and_right (leb 1 version && leb version version_most) _ (and_right (name_formed s i && is_name (record_at s i).name) _ f))
