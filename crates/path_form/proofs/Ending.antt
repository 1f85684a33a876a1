-- What parsing an end gives, by its kind and its bytes. Assumes nothing.
use mathlib.Core.Path.{◌≡◌, ◌∙◌}
use mathlib.Core.Bool.{Bool, true, false}
use Prim.Native.Nat.{ℕ, ◌+◌, ◌-◌, ◌≤◌, ◌<◌}
use native.Mathlib.Omega.{arith}
use native.Mathlib.Nat.{add-zero}
use lib.ListN.{length, drop, get_or, length-drop}
use lib.Seq.{drop-drop}
use borrow.Author.Tests.{le-leb, lt-leb, eq-eqb, ne_eqb}
use Rattle.paper.specs.Numbers.{wide}
use Rattle.paper.specs.Bytes.{Bytes, Bytewise, zeros}
use Rattle.path_form.specs.Places.{commitment_of}
use Rattle.paper.specs.Layout.{Layout, led}
use Rattle.paper.specs.Fields.{end_of, end_field}
use Rattle.paper.specs.Path.{End}
use Rattle.paper.proofs.Lists.{all_drop}
use Rattle.words.proofs.Number.{number-one}
use Rattle.std.specs.Prelude.{Some, None}
use Rattle.path_form.specs.Parsed.{placed, ended_at}
use Rattle.path_form.specs.declared.End.TheVariants.{Nothing}
use Rattle.fields.proofs.Flat.{Flat, flat-yes, flat-short, flat-no, within-flat}
use Rattle.path_form.proofs.Fields.{none-flat}

-- ---- an end of a fixed size

module _ (a : Layout End) {n : ℕ} {ok : Bytes → Bool} {value : Bytes → End} (f : Flat a.read n ok value) (s : Bytes) (at fields : ℕ) (w : Bytewise s) where
  pub ended-yes : at + n ≤ length s → ok (drop at s) ≡ true
      → ended_at a s at fields ≡ Some (record { «end» = placed fields (value (drop at s)); commitment = commitment_of (value (drop at s)); next = at + n })
  ended-yes h e =
      let k : n ≤ length (drop at s) = omega (arith, length-drop at s) in
      let z : length s - length (drop n (drop at s)) ≡ at + n = omega (arith, length-drop n (drop at s), length-drop at s) in
      rw (flat-yes f (drop at s) (all_drop _ at s w) k e, z)

  pub ended-short : at ≤ length s → length s - at < n → ended_at a s at fields ≡ None
  ended-short l h = rw (flat-short f (drop at s) (all_drop _ at s w) (omega (arith, length-drop at s)))

  pub ended-no : ok (drop at s) ≡ false → ended_at a s at fields ≡ None
  ended-no e = rw (flat-no f (drop at s) (all_drop _ at s w) e)

-- ---- an end by its kind

module _ (m : ℕ) (s : Bytes) (at : ℕ) (w : Bytewise s) where
  pub kind-missing : length s ≤ at → ended_at (end_field m) s at (at + 1) ≡ None
  unfolding led
  kind-missing h = rw (flat-short (within-flat 1 0 3) (drop at s) (all_drop _ at s w) (omega (arith, length-drop at s)))

  pub kind-good : (k : ℕ) → at < length s → get_or s at 0 ≡ k → k ≤ 3 → ended_at (end_field m) s at (at + 1) ≡ ended_at (end_of m k) s (at + 1) (at + 1)
  unfolding led
  kind-good k h e l =
      let i = number-one s at h ∙ e in
      rw (flat-yes (within-flat 1 0 3) (drop at s) (all_drop _ at s w) (omega (arith, length-drop at s)) (rw (i, le-leb 0 k (omega arith), le-leb k 3 l)), i, drop-drop 1 at s)

  pub kind-bad : at < length s → 3 < get_or s at 0 → ended_at (end_field m) s at (at + 1) ≡ None
  unfolding led
  kind-bad h l =
      let k = get_or s at 0 in
      let i = number-one s at h in
      rw (flat-no (within-flat 1 0 3) (drop at s) (all_drop _ at s w) (rw (i, le-leb 0 k (omega arith), lt-leb k 3 l)))

-- "3, nothing, only with m = 1."
pub none-yes : (m : ℕ) (s : Bytes) (fields : ℕ) → Bytewise s → fields ≤ length s → m ≡ 1
    → ended_at (end_of m 3) s fields fields ≡ Some (record { «end» = Nothing; commitment = zeros wide; next = fields })
none-yes m s fields w h e = rw (add-zero fields) at (ended-yes (end_of m 3) (none-flat m) s fields fields w (omega arith) (eq-eqb m 1 e))

pub none-no : (m : ℕ) (s : Bytes) (fields : ℕ) → Bytewise s → (m ≡ 1 → ⊥) → ended_at (end_of m 3) s fields fields ≡ None
none-no m s fields w e = ended-no (end_of m 3) (none-flat m) s fields fields w (ne_eqb m 1 e)
