-- A row of paths as a loop takes it: what is left of the row decides, and the count has room for it. Assumes nothing.
use mathlib.Core.Path.{◌≡◌, refl, sym, ap, ◌∙◌}
use mathlib.Core.List.{[], ◌∷◌, map}
use Prim.Native.Nat.{ℕ, suc, ◌+◌, ◌-◌, ◌*◌, ◌≤◌, ◌<◌}
use native.Mathlib.Omega.{arith}
use native.Mathlib.Numerals.{add-one}
use lib.ListN.{length, length-map}
use Rattle.std.specs.Prelude.{Ok, Err}
use Rattle.paper.specs.Lists.{up_from}
use Rattle.paper.specs.declared.Refusal.{Refusal}
use Rattle.paper.proofs.Lists.{up_from-length}
use Rattle.walks.specs.Walk.{stepped, walks, Ahead}
use Rattle.walks.specs.declared.Reader.{Reader}
use Rattle.walks.proofs.Walked.{step-passed, walks-refused}
use Rattle.shown.specs.declared.Asked.{Asked}
use Rattle.runs.specs.Runs.{row}

pub row-length : (f : ℕ → Asked) (a b : ℕ) → length (row f a b) ≡ b - a
row-length f a b = length-map (up_from a (b - a)) f ∙ up_from-length a (b - a)

-- the numbers from a up to b are asked by f, and those up to i were taken
pub record Going (f : ℕ → Asked) (a b : ℕ) (r₀ : Reader) (i : ℕ) (r : Reader) : Type 0 where
  pub same : walks (row f a b) (Ok r₀) ≡ walks (row f i b) (Ok r)
  pub proof : r.proof ≡ r₀.proof
  pub name : r.name ≡ r₀.name
  pub count : r.digests + 258 * (b - i) ≤ r₀.digests + 258 * (b - a)

module _ (f : ℕ → Asked) (a b : ℕ) where
  pub going-starts : (r : Reader) → Going f a b r a r
  going-starts r = record { same = refl; proof = refl; name = refl; count = omega arith }

  module _ (r₀ : Reader) (i : ℕ) (r : Reader) (g : Going f a b r₀ i r) where
    pub going-ready : (k : ℕ) → b - a ≤ k → Ahead k r₀ → i < b → Ahead 1 r
    going-ready k m h l = record { front = rw g.proof h.front; short = rw g.name h.short; room = omega (arith, g.count, h.room) }

    -- one path more
    next : i < b → walks (row f i b) (Ok r) ≡ walks (row f (i + 1) b) (stepped (f i) r)
    unfolding walks up_from
    next l =
        let e : b - i ≡ suc (b - (i + 1)) = omega arith in
        ap (λ k. walks (map f (up_from i k)) (Ok r)) e ∙ ap (λ j. walks (map f (up_from j (b - (i + 1)))) (stepped (f i) r)) (sym (add-one i))

    pub going_on : (x : Asked) (q : Reader) → i < b → x ≡ f i → stepped x r ≡ Ok q → q.digests ≤ r.digests + 258 → Going f a b r₀ (i + 1) q
    going_on x q l is took few =
        let p = step-passed x r q took in
        record {
          same = g.same ∙ next l ∙ ap (walks (row f (i + 1) b)) (ap (λ x. stepped x r) (sym is) ∙ took);
          proof = p.proof ∙ g.proof;
          name = p.name ∙ g.name;
          count = omega (arith, g.count);
        }

    pub going-fails : (x : Asked) (e : Refusal) → i < b → x ≡ f i → stepped x r ≡ Err e → walks (row f a b) (Ok r₀) ≡ Err e
    going-fails x e l is took = g.same ∙ next l ∙ ap (walks (row f (i + 1) b)) (ap (λ x. stepped x r) (sym is) ∙ took) ∙ walks-refused (row f (i + 1) b) e

    pub going-ends : b ≤ i → Ok r ≡ walks (row f a b) (Ok r₀)
    unfolding walks up_from
    going-ends h = let e : b - i ≡ 0 = omega arith in sym (g.same ∙ ap (λ k. walks (map f (up_from i k)) (Ok r)) e)

-- the same, whatever is asked of the numbers: proof and name stay, and the count has room
pub record Steady (a b : ℕ) (r₀ : Reader) (i : ℕ) (r : Reader) : Type 0 where
  pub proof : r.proof ≡ r₀.proof
  pub name : r.name ≡ r₀.name
  pub count : r.digests + 258 * (b - i) ≤ r₀.digests + 258 * (b - a)

module _ (a b : ℕ) where
  pub steady-starts : (r : Reader) → Steady a b r a r
  steady-starts r = record { proof = refl; name = refl; count = omega arith }

  module _ (r₀ : Reader) (i : ℕ) (r : Reader) (g : Steady a b r₀ i r) where
    pub steady-ready : Ahead (b - a) r₀ → i < b → Ahead 1 r
    steady-ready h l = record { front = rw g.proof h.front; short = rw g.name h.short; room = omega (arith, g.count, h.room) }

    pub steady_on : (x : Asked) (q : Reader) → i < b → stepped x r ≡ Ok q → q.digests ≤ r.digests + 258 → Steady a b r₀ (i + 1) q
    steady_on x q l took few = let p = step-passed x r q took in record { proof = p.proof ∙ g.proof; name = p.name ∙ g.name; count = omega (arith, g.count) }

-- no path, and one
pub walks-none : (r : Reader) → Ok r ≡ walks [] (Ok r)
unfolding walks
walks-none r = refl

pub walks-one : (a : Asked) (r : Reader) → stepped a r ≡ walks (a ∷ []) (Ok r)
unfolding walks
walks-one a r = refl
