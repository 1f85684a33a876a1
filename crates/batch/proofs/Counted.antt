-- Tests of the updates one by one, by their numbers. Assumes nothing.
use mathlib.Core.Path.{◌≡◌, refl, sym, ap, ◌∙◌}
use mathlib.Core.Logic.{by_cases, ⊎_elim}
use mathlib.Core.Bool.{Bool, true, false, not, ◌||◌, ◌&&◌}
use Prim.Native.Nat.{ℕ, zero, suc, ◌+◌, ◌*◌, ◌≤◌, ◌<◌}
use native.Mathlib.Omega.{arith}
use native.Mathlib.Decide.{ℕ_discrete}
use lib.ListN.{length, drop}
use Rattle.std.specs.List.{list_all, list_any, range_with_len}
use Rattle.paper.specs.Numbers.{update_size}
use Rattle.paper.specs.Bytes.{Bytes, Bytewise, same}
use Rattle.paper.specs.Labelling.{plain}
use Rattle.paper.specs.Layout.{in_layout, times, parse}
use Rattle.paper.specs.Table.{update_field}
use Rattle.paper.specs.Publish.{once}
use Rattle.paper.proofs.Lists.{true-or-false, and_left, and_right}
use Rattle.batch.specs.Places.{update_at, updates_in, bears_from}
use Rattle.batch.proofs.Form.{formed, batch-read, batch-bad}
use Rattle.batch.proofs.Places.{bears-none, bears-pass, bears-hit, once-end, once-pass, once-hit}

-- a test that all numbers pass, or one of them fails
module _ (t : ℕ → Bool) where
  all-pass : (a n : ℕ) → list_all t (range_with_len a n) ≡ true → (i : ℕ) → a ≤ i → i < a + n → t i ≡ true
  all-pass a zero e i h l = absurd (omega arith)
  all-pass a (suc n) e i h l = by_cases (ℕ_discrete a i)
      (λ q. rw (← q) (and_left _ _ e))
      (λ q. all-pass (a + 1) n (and_right (t a) _ e) i (omega arith) (omega arith))

  one-fails : (a n : ℕ) → list_all t (range_with_len a n) ≡ false → (i : ℕ) × (i < a + n) × (t i ≡ false)
  one-fails a zero e = cc
  one-fails a (suc n) e = by (t a) refl e (one-fails (a + 1) n)
    where
      by : (b : Bool) → t a ≡ b → (b && list_all t (range_with_len (a + 1) n)) ≡ false → (list_all t (range_with_len (a + 1) n) ≡ false → (i : ℕ) × (i < a + 1 + n) × (t i ≡ false)) → (i : ℕ) × (i < a + suc n) × (t i ≡ false)
      by true q e f = let (i, l, h) = f e in (i, omega (arith, l), h)
      by false q e f = (a, omega arith, q)

-- "each of n updates is in layout"
pub all-formed : (s : Bytes) (n : ℕ) → Bytewise s → length s ≡ n * update_size → list_all (formed s) (range_with_len 0 n) ≡ in_layout (parse (times n update_field) s)
all-formed s n w size = ⊎_elim
    (λ e. e ∙ sym (ap in_layout (batch-read s n w size (λ i h. all-pass (formed s) 0 n e i (omega arith) (omega arith)))))
    (λ e. let (i, l, h) = one-fails (formed s) 0 n e in e ∙ sym (ap in_layout (batch-bad s n w size i (omega (arith, l)) h)))
    (true-or-false (list_all (formed s) (range_with_len 0 n)))

-- the updates from one on that have a name, and those whose name is there again
module _ (n : ℕ) (s : Bytes) where
  pub bears-any : (i k j : ℕ) → j + k ≡ n → list_any (λ j. same (update_at s j).name (update_at s i).name) (range_with_len j k) ≡ bears_from s n i j
  bears-any i zero j e = sym (bears-none n s i j (omega arith))
  bears-any i (suc k) j e = by (same (update_at s j).name (update_at s i).name) refl (bears-any i k (j + 1) (omega arith))
    where
      by : (b : Bool) → same (update_at s j).name (update_at s i).name ≡ b → list_any (λ j. same (update_at s j).name (update_at s i).name) (range_with_len (j + 1) k) ≡ bears_from s n i (j + 1)
          → (b || list_any (λ j. same (update_at s j).name (update_at s i).name) (range_with_len (j + 1) k)) ≡ bears_from s n i j
      by true q f = sym (bears-hit n s i j (omega arith) q)
      by false q f = f ∙ sym (bears-pass n s i j (omega arith) q)

  pub once-any : (k i : ℕ) → i + k ≡ n → not (list_any (λ i. bears_from s n i (suc i)) (range_with_len i k)) ≡ once plain (drop i (updates_in n s))
  once-any zero i e = sym (once-end n s i (omega arith))
  once-any (suc k) i e = by (bears_from s n i (suc i)) refl (once-any k (i + 1) (omega arith))
    where
      by : (b : Bool) → bears_from s n i (suc i) ≡ b → not (list_any (λ i. bears_from s n i (suc i)) (range_with_len (i + 1) k)) ≡ once plain (drop (i + 1) (updates_in n s))
          → not (b || list_any (λ i. bears_from s n i (suc i)) (range_with_len (i + 1) k)) ≡ once plain (drop i (updates_in n s))
      by true q f = sym (once-hit n s i (omega arith) q)
      by false q f = f ∙ sym (once-pass n s i (omega arith) q)
