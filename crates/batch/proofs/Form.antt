-- The layout of a batch by places: each update is tested at its place, and what is read are the updates that stand there. Assumes nothing.
use mathlib.Core.Path.{◌≡◌, refl, sym, ap, ◌∙◌}
use mathlib.Core.Logic.{⊎_elim}
use mathlib.Core.Bool.{Bool, true, false, ◌&&◌, and-true, and-false}
use mathlib.Core.List.{[], ◌++◌}
use Prim.Native.Nat.{ℕ, suc, ◌+◌, ◌*◌, ◌≤◌, ◌<◌}
use native.Mathlib.Omega.{arith}
use lib.ListN.{length, drop, length-drop, drop_of_length-le}
use lib.Seq.{drop-drop, get_or-drop}
use Rattle.paper.specs.Numbers.{wide, update_size}
use Rattle.paper.specs.Bytes.{Bytes, Bytewise}
use Rattle.paper.specs.Layout.{got, bad, in_layout, times, whole, parse}
use Rattle.paper.specs.Fields.{is_name}
use Rattle.paper.specs.Table.{filled_field, name_field, update_field}
use Rattle.paper.proofs.Proofs.{update-lawful}
use Rattle.paper.proofs.Lists.{true-or-false, not-both, and_left, all_drop}
use Rattle.fields.proofs.Flat.{Flat, flat-as, flat_in, flat-yes, block-flat, seq-flat, view-flat, such-flat}
use Rattle.fields.proofs.Many.{many-yes, many-no}
use Rattle.record.proofs.Form.{filled_test, filled_in, filled-flat}
use Rattle.record_form.proofs.Formed.{filled_is, filled-short}
use Rattle.batch.specs.Places.{update_in, update_at, updates_in, Lies}

-- what is tested of an update
abbrev update_test : Bytes → Bool
update_test s = (filled_test s && is_name (filled_in s)) && (filled_test (drop 65 s) && true)

update-flat : Flat update_field.read update_size update_test update_in
unfolding update_in
update-flat = flat-as refl (λ s. refl)
    (λ s. rw (drop-drop 65 65 s, drop-drop 1 65 s, get_or-drop 65 s 0 0))
    (view-flat _ _ _ (seq-flat name_field _ (such-flat filled_field is_name filled-flat) (λ _. seq-flat filled_field _ filled-flat (λ _. block-flat wide))))

-- ---- an update

-- whether update i is in layout, its name, and its key
abbrev pub formed : Bytes → ℕ → Bool
formed s i = in_layout (update_field.read (drop (i * update_size) s))

abbrev pub name_formed : Bytes → ℕ → Bool
name_formed s i = in_layout (filled_field.read (drop (i * update_size) s))

abbrev pub key_formed : Bytes → ℕ → Bool
key_formed s i = in_layout (filled_field.read (drop (i * update_size + 65) s))

module _ (s : Bytes) (i : ℕ) (w : Bytewise s) (room : suc i * update_size ≤ length s) where
  tested-is : formed s i ≡ update_test (drop (i * update_size) s)
  tested-is = flat_in update-flat (drop (i * update_size) s) (all_drop _ (i * update_size) s w) (omega (arith, length-drop (i * update_size) s))

  formed-is : formed s i ≡ ((name_formed s i && is_name (update_at s i).name) && key_formed s i)
  unfolding update_at update_in
  formed-is =
      let n = filled_is s (i * update_size) w (omega arith) in
      let k = filled_is s (i * update_size + 65) w (omega arith) in
      tested-is ∙ rw (n, k, drop-drop 65 (i * update_size) s, and-true (filled_test (drop (i * update_size + 65) s)))

  pub formed-nameless : name_formed s i ≡ false → formed s i ≡ false
  formed-nameless e = formed-is ∙ rw e

  pub formed-keyless : key_formed s i ≡ false → formed s i ≡ false
  formed-keyless e = formed-is ∙ rw (e, and-false)

  pub formed-name : name_formed s i ≡ true → key_formed s i ≡ true → formed s i ≡ is_name (update_at s i).name
  formed-name e k = formed-is ∙ rw (e, k) (and-true (is_name (update_at s i).name))

  pub lies-by : name_formed s i ≡ true → Lies s i
  lies-by e = record { reach = room; short = filled-short s (i * update_size) w (omega arith) e }

  pub formed-lies : formed s i ≡ true → Lies s i
  formed-lies e = let f = sym formed-is ∙ e in lies-by (and_left _ _ (and_left _ _ f))

  -- an update in layout, and its bytes
  pub update-told : formed s i ≡ true → update_field.Fits (update_at s i) × (update_field.bytes (update_at s i) ++ drop update_size (drop (i * update_size) s) ≡ drop (i * update_size) s)
  unfolding update_at
  update-told e =
      let t = drop (i * update_size) s in
      let b = all_drop _ (i * update_size) s w in
      update-lawful.tells t (update_in t) (drop update_size t) b (flat-yes update-flat t b (omega (arith, length-drop (i * update_size) s)) (sym tested-is ∙ e))

-- ---- all updates

module _ (s : Bytes) (n : ℕ) (w : Bytewise s) (size : length s ≡ n * update_size) where
  -- all in layout: what is read are the updates that stand there
  pub batch-read : ((i : ℕ) → i < n → formed s i ≡ true) → parse (times n update_field) s ≡ got (updates_in n s) []
  unfolding times updates_in update_at
  batch-read f =
      let e : drop (n * update_size) s ≡ [] = drop_of_length-le s {i = n * update_size} (omega arith) in
      ap whole (many-yes update-flat s w n (omega arith) f ∙ ap (got (updates_in n s)) e)

  pub batch-bad : (i : ℕ) → i < n → formed s i ≡ false → parse (times n update_field) s ≡ bad
  unfolding times
  batch-bad i h e = ap whole (many-no update-flat s w n (omega arith) i h e)

  -- and back: if something is read, each update is in layout
  pub batch-formed : in_layout (parse (times n update_field) s) ≡ true → (i : ℕ) → i < n → formed s i ≡ true
  batch-formed e i h = ⊎_elim (λ t. t) (λ t. not-both e (ap in_layout (batch-bad i h t))) (true-or-false (formed s i))

  pub batch-lies : in_layout (parse (times n update_field) s) ≡ true → (i : ℕ) → i < n → Lies s i
  batch-lies e i h = formed-lies s i w (omega arith) (batch-formed e i h)
