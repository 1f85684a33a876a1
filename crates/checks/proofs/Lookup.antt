-- A lookup's rows are asked what it is asked, on its terms. Assumes nothing.
use mathlib.Core.Path.{◌≡◌, refl, sym}
use mathlib.Core.List.{List, [], map}
use Prim.Native.Nat.{ℕ, zero, suc, ◌≤◌}
use native.Mathlib.Omega.{arith}
use lib.ListN.{length, drop}
use Rattle.std.specs.Prelude.{Some}
use Rattle.paper.specs.Lists.{All}
use Rattle.paper.specs.Bytes.{Bytes, Bytewise}
use Rattle.paper.specs.Layout.{got, times}
use Rattle.paper.specs.Fields.{path_field}
use Rattle.paper.specs.Shows.{item_field, Proof, epoch_at, commitment_at}
use Rattle.paper.specs.Lookup.{lookup_asked, lookup_keys, lookup_terms}
use Rattle.paper.proofs.Proofs.{item-lawful, path-lawful}
use Rattle.plan.specs.Asked.{asked_by}
use Rattle.plan.specs.Kinds.{keys_in}
use Rattle.plan.specs.declared.Kind.TheVariants.{Lookup}
use Rattle.shown.specs.Form.{front_at, head_in, ItemStands, commitment_in}
use Rattle.shown.specs.Terms.{asked_of}
use Rattle.shown.specs.declared.Asked.{Asked}
use Rattle.fields.proofs.Behind.{First, first_of}
use Rattle.shown.proofs.Keyed.{item-told}
use Rattle.shown.proofs.Fronts.{front-told}
use Rattle.shown.proofs.Formed.{Formed}
use Rattle.walks.proofs.Walked.{Suits}
use Rattle.runs.specs.Runs.{onward, epoch_from, ItemsStand}
use Rattle.rows.specs.Rows.{rows_ask}
use Rattle.runs.proofs.Cursors.{path-epoch}

module _ (s : Bytes) (w : Bytewise s) (n t : ℕ) (front : front_at 1 s ≡ Some (record { number = n; epoch = t })) (start : ℕ) (f : Formed 1 (keys_in Lookup) (asked_by Lookup) s w n t front start) where
  -- the proof that is read
  abbrev pub read : Proof
  read = record { head = head_in s; number = n; items = f.items; paths = f.paths }

  -- its key stands behind the front
  key-first : 1 ≤ n → First item_field s 108 0 f.items (drop start s)
  key-first h = first_of item-lawful s w 108 0 f.items (drop start s) (front-told 1 s w n t front).room (by n h f.keyed)
    where
      by : (n : ℕ) → 1 ≤ n → (times (lookup_keys n) item_field).read (drop 108 s) ≡ got f.items (drop start s) → (times 1 item_field).read (drop 108 s) ≡ got f.items (drop start s)
      by zero h e = absurd (omega arith)
      by (suc v) h e = e

  pub key-stands : 1 ≤ n → ItemStands s 108
  key-stands h = let k = key-first h in (item-told s 108 w k.value _ k.reads).0

  pub keys-stand : ItemsStand s (lookup_keys n)
  unfolding onward
  keys-stand = by n key-stands
    where
      by : (n : ℕ) → (1 ≤ n → ItemStands s 108) → ItemsStand s (lookup_keys n)
      by zero h k l = absurd (omega arith)
      by (suc v) h zero l = h (omega arith)
      by (suc v) h (suc k) l = absurd (omega arith)

  key-commitment : 1 ≤ n → commitment_at read 1 ≡ commitment_in s 108
  unfolding commitment_at commitment_in
  key-commitment h =
      let k = key-first h in
      rw (← k.is, ← (item-told s 108 w k.value _ k.reads).1)

  -- the first path shows the version's leaf
  path-first : 1 ≤ n → First path_field s start 2 f.paths []
  path-first h = first_of path-lawful s w start 2 f.paths [] f.room (by n h f.walks)
    where
      by : (n : ℕ) → 1 ≤ n → (times (length (lookup_asked n)) path_field).read (drop start s) ≡ got f.paths [] → (times 3 path_field).read (drop start s) ≡ got f.paths []
      by zero h e = absurd (omega arith)
      by (suc v) h e = e

  leaf-epoch : 1 ≤ n → epoch_at read 1 ≡ epoch_from s start 1
  unfolding epoch_at epoch_from onward
  leaf-epoch h = let k = path-first h in rw (← k.is) (sym (path-epoch s start k.value _ k.reads))

  -- ---- what is asked, in order

  abbrev pub asks : ℕ → List Asked
  asks m = rows_ask s start (record { kind = Lookup; number = m; epoch = t })

  pub asks-are : (m : ℕ) → map asked_of (asks m) ≡ lookup_asked m
  asks-are zero = refl
  asks-are (suc v) = refl

  pub asks-suit : (m : ℕ) → (1 ≤ m → 1 ≤ n) → All (Suits (lookup_terms read)) (asks m)
  asks-suit zero h = (tt, tt)
  asks-suit (suc v) h = (
    (key-commitment (h (omega arith)), λ e. rw (front-told 1 s w n t front).epoch),
    (
      tt,
      (
        (refl, λ e. rw (leaf-epoch (h (omega arith)))),
        tt,
      ),
    ),
  )
