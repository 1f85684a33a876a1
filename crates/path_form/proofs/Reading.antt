-- Reading a path, field by field from its place on. Assumes nothing.
use mathlib.Core.Path.{◌≡◌, refl, sym, ap, ◌∙◌, subst}
use mathlib.Core.Logic.{◌⊎◌}
use mathlib.Core.Bool.{true, false}
use mathlib.Core.List.{List}
use Prim.Native.Nat.{ℕ, ◌+◌, ◌*◌, ◌≤◌, ◌<◌}
use native.Mathlib.Omega.{arith}
use lib.Dec.{leb}
use lib.ListN.{length, take, drop, length-drop}
use lib.Seq.{drop-drop}
use borrow.Author.Tests.{leb-true}
use Rattle.paper.specs.Bytes.{Bytes, Bytewise, number}
use Rattle.paper.specs.Layout.{Read, got, bad, and_then, within, seq, led, times, such, view}
use Rattle.paper.specs.Fields.{step_field, rise, end_field, path_body, path_field}
use Rattle.paper.specs.Path.{Step, End}
use Rattle.paper.specs.Path as P
use Rattle.paper.proofs.Lists.{and_left, and_right, all_drop}
use Rattle.path_form.specs.Places.{steps_in, rising}
use Rattle.std.specs.Prelude.{Option, Some, None}
use Rattle.path_form.specs.Parsed.{count_of, count_at, path_of, path_at, ended_of, ended_at}
use Rattle.path_form.specs.declared.Path.{Path}
use Rattle.path_form.specs.declared.ends.Ended.{Ended}
use Rattle.fields.proofs.Flat.{flat-yes, flat-short, flat-no, flat-got, within-flat, inside, outside}
use Rattle.path_form.proofs.Fields.{steps-flat}
use Rattle.path_form.proofs.Steps.{steps-length}

-- steps and the end that is read behind them
abbrev pub with_steps : List Step → Read End → Read P.Path
with_steps l e = and_then e (λ x r. got (record { steps = l; end = x }) r)

-- two fields, one behind the other, and what they are taken over to
module _ {A B C : Type 0} (next : A → Bytes → Read B) (to : A × B → C) where
  seq-view : (x : Read A) → and_then {A = A × B} (and_then x (λ a r. and_then (next a r) (λ b q. got (a, b) q))) (λ y r. got (to y) r) ≡ and_then x (λ a r. and_then (next a r) (λ b q. got (to (a, b)) q))
  seq-view bad = refl
  seq-view (got a r) = one (next a r)
    where
      one : (y : Read B) → and_then {A = A × B} (and_then y (λ b q. got (a, b) q)) (λ y r. got (to y) r) ≡ and_then y (λ b q. got (to (a, b)) q)
      one bad = refl
      one (got b q) = refl

pub body_reads : (m : ℕ) (t : Bytes) → (path_body m).read t ≡ and_then ((such (times m step_field) rise).read t) (λ l q. with_steps l ((end_field m).read q))
unfolding view seq
body_reads m t = seq-view (λ l q. (end_field m).read q) (λ y. record { steps = y.0; end = y.1 }) ((such (times m step_field) rise).read t)

-- a path out of its steps and its end as they were parsed
abbrev pub path_with : ℕ → ℕ → Option Ended → Option Path
path_with at m None = None
path_with at m (Some e) = Some (record { steps = at + 2; count = m; «end» = e.«end»; commitment = e.commitment; next = e.next })

-- a count that was read, and the path behind it
pub record Counted (s : Bytes) (at m : ℕ) : Type 0 where
  pub there : at + 2 ≤ length s
  pub low : 1 ≤ m
  pub high : m ≤ 256
  pub reads : path_field.read (drop at s) ≡ (path_body m).read (drop (at + 2) s)

module _ (s : Bytes) (at : ℕ) (w : Bytewise s) where
  abbrev at_count : Read ℕ
  at_count = (within 2 1 256).read (drop at s)

  pub counted : (m : ℕ) (r : Bytes) → at_count ≡ got m r → Counted s at m
  unfolding led
  counted m r e =
      let (n, g, v, b) = flat-got (within-flat 2 1 256) (drop at s) (all_drop _ at s w) m r e in
      let k = number (take 2 (drop at s)) in
      record {
        there = omega (arith, length-drop at s);
        low = omega (arith, leb-true 1 k (and_left (leb 1 k) (leb k 256) g));
        high = omega (arith, leb-true k 256 (and_right (leb 1 k) (leb k 256) g));
        reads = rw e (ap (path_body m).read (sym b ∙ drop-drop 2 at s));
      }

  -- ---- the count as it is tested

  pub count-short : length s < at + 2 → count_at s at ≡ None
  unfolding count_at
  count-short h = rw (flat-short (within-flat 2 1 256) (drop at s) (all_drop _ at s w) (omega (arith, length-drop at s)))

  module _ (m : ℕ) (count : m ≡ number (take 2 (drop at s))) where
    pub count-out : (m < 1) ⊎ (256 < m) → count_at s at ≡ None
    unfolding count_at
    count-out h = rw (flat-no (within-flat 2 1 256) (drop at s) (all_drop _ at s w) (rw (← count) (outside 1 256 m h)))

    pub count-read : at + 2 ≤ length s → 1 ≤ m → m ≤ 256 → count_at s at ≡ Some m
    unfolding count_at
    count-read h k l = rw (flat-yes (within-flat 2 1 256) (drop at s) (all_drop _ at s w) (omega (arith, length-drop at s)) (rw (← count) (inside 1 256 m k l)), ← count)

  -- ---- a path by its count

  -- no count, no path
  pub path-countless : count_at s at ≡ None → path_at s at ≡ None
  unfolding count_at path_at led
  path-countless h = by at_count h
    where
      by : (x : Read ℕ) → count_of x ≡ None → path_of (length s) at (and_then x (λ k r. (path_body k).read r)) ≡ None
      by bad h = refl
      by (got m r) h = let z : ◌≡◌ {A = ℕ} 0 1 = cc in absurd (omega arith)

  pub path-counted : (m : ℕ) → count_at s at ≡ Some m → Counted s at m
  unfolding count_at
  path-counted m c = by at_count refl c
    where
      by : (x : Read ℕ) → at_count ≡ x → count_of x ≡ Some m → Counted s at m
      by bad e c = let z : ◌≡◌ {A = ℕ} 0 1 = cc in absurd (omega arith)
      by (got k r) e c = let k-is : k ≡ m = cc in subst (Counted s at) k-is (counted k r e)

  module _ (m : ℕ) (c : Counted s at m) where
    -- steps that are not all there, or whose lengths do not rise from 0, are none of a path
    pub path-falls : rising m (drop (at + 2) s) ≡ false → path_at s at ≡ None
    unfolding path_at rising
    path-falls e = rw (c.reads, body_reads m (drop (at + 2) s), (steps-flat m).reads (drop (at + 2) s) (all_drop _ (at + 2) s w), e)

    -- and with the others the end decides
    pub path-rest : rising m (drop (at + 2) s) ≡ true → path_at s at ≡ path_with at m (ended_at (end_field m) s (at + 2 + 34 * m) (at + 2 + 34 * m + 1))
    unfolding path_at rising
    path-rest e =
        rw (c.reads, body_reads m (drop (at + 2) s), (steps-flat m).reads (drop (at + 2) s) (all_drop _ (at + 2) s w), e, drop-drop (34 * m) (at + 2) s)
        (by ((end_field m).read (drop (at + 2 + 34 * m) s)))
      where
        by : (x : Read End) → path_of (length s) at (with_steps (steps_in m (drop (at + 2) s)) x) ≡ path_with at m (ended_of (length s) (at + 2 + 34 * m + 1) x)
        by bad = refl
        by (got x r) = rw (steps-length m (drop (at + 2) s))
