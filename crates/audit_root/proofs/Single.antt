-- A single record: the digest of its node, and the tree over it. Assumes nothing.
use mathlib.Core.Path.{◌≡◌, refl, sym, ap, ap₂, ◌∙◌}
use mathlib.Core.Bool.{Bool, true, false}
use mathlib.Core.List.{List, [], ◌∷◌}
use Prim.Native.Nat.{ℕ, zero, suc, ◌≤◌, ◌<◌}
use native.Mathlib.Omega.{arith}
use lib.ListN.{length, take, drop, get_or}
use lib.Seq.{length-take-le}
use Rattle.std.specs.Prelude.{None, Some}
use Rattle.fips.specs.Sha256.{sha256}
use Rattle.paper.specs.Numbers.{wide}
use Rattle.paper.specs.Bytes.{Bytes, number}
use Rattle.paper.specs.Bits.{bits_of}
use Rattle.paper.specs.Strings.{leaf_string, inner_string}
use Rattle.paper.specs.Tree.{digest}
use Rattle.paper.specs.Audit.{olds, news}
use Rattle.paper.proofs.Lists.{not-both}
use Rattle.paper.proofs.Tree.{below_one}
use Rattle.audit_form.specs.Places.{label_at, key_at, record_by, record_at, records_of, Formed}
use Rattle.audit_form.proofs.Places.{label-bits}
use Rattle.audit_root.specs.Built.{built, grown, nodes_of, record_node}

module _ (s : Bytes) (f : Formed s 0) where
  key-size : length (key_at s 0) ≡ number (take 2 (drop 1 s))
  unfolding key_at
  key-size = length-take-le (number (take 2 (drop 1 s))) (bits_of (label_at s 0)) (omega (arith, f.most, label-bits s 0 f.reach))

  -- "The record is opened.": its prefix is hashed with its digests
  pub opened-digest : get_or s 0 0 ≡ 1
      → sha256 (inner_string (number (take 2 (drop 1 s))) (take wide (drop 3 s)) (take wide (drop 35 s)) (take wide (drop 67 s)))
      ≡ digest (record_node (record_at s 0))
  unfolding record_at record_by label_at
  opened-digest e =
      rw e (ap₂ (λ n x. sha256 (inner_string n x (take wide (drop 35 s)) (take wide (drop 67 s)))) (sym key-size) (sym f.packed))

  pub leaf-digest : (get_or s 0 0 ≡ 1 → ⊥)
      → sha256 (leaf_string (take wide (drop 3 s)) (take wide (drop 35 s)) (number (take 4 (drop 67 s)))) ≡ digest (record_node (record_at s 0))
  unfolding record_at record_by label_at
  leaf-digest n = by (get_or s 0 0) n
    where
      by : (k : ℕ) → (k ≡ 1 → ⊥)
          → sha256 (leaf_string (take wide (drop 3 s)) (take wide (drop 35 s)) (number (take 4 (drop 67 s)))) ≡ digest (record_node (record_by k s 0))
      by zero n = ap (λ x. sha256 (leaf_string x (take wide (drop 35 s)) (number (take 4 (drop 67 s))))) (sym f.packed)
      by (suc zero) n = absurd (n refl)
      by (suc (suc k)) n = ap (λ x. sha256 (leaf_string x (take wide (drop 35 s)) (number (take 4 (drop 67 s))))) (sym f.packed)

  -- a new leaf has no part in the old tree
  pub one-skipped : get_or s 0 0 ≡ 2 → grown (nodes_of false (records_of (s ∷ []))) ≡ None
  unfolding record_at record_by olds grown
  one-skipped e = rw e

  one_kept : (new : Bool) → (get_or s 0 0 ≡ 2 → new ≡ true) → nodes_of new (records_of (s ∷ [])) ≡ record_node (record_at s 0) ∷ []
  unfolding record_at record_by olds news
  one_kept new h = by (get_or s 0 0) new f.kind h
    where
      by : (k : ℕ) (new : Bool) → k ≤ 2 → (k ≡ 2 → new ≡ true) → nodes_of new (record_by k s 0 ∷ []) ≡ record_node (record_by k s 0) ∷ []
      by zero true l h = refl
      by zero false l h = refl
      by (suc zero) true l h = refl
      by (suc zero) false l h = refl
      by (suc (suc k)) true l h = refl
      by (suc (suc zero)) false l h = not-both (h refl) refl
      by (suc (suc (suc k))) false l h = absurd (omega arith)

  pub one-grown : (new : Bool) → (get_or s 0 0 ≡ 2 → new ≡ true) → grown (nodes_of new (records_of (s ∷ []))) ≡ Some (record { digest = digest (record_node (record_at s 0)); count = 1 })
  unfolding grown
  one-grown new h = ap grown (one_kept new h) ∙ ap (λ t. Some (built t)) (below_one (record_node (record_at s 0)))

pub none-grown : (new : Bool) → grown (nodes_of new []) ≡ None
unfolding olds news grown
none-grown true = refl
none-grown false = refl

pub none-of : (rows : List Bytes) → length rows < 1 → rows ≡ []
none-of [] h = refl
none-of (r ∷ rows) h = absurd (omega arith)
