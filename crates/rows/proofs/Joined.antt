-- Row after row is all that is asked. Assumes nothing.
use mathlib.Core.Path.{◌≡◌, refl, ap, ◌∙◌}
use mathlib.Core.List.{List, [], ◌∷◌, ◌++◌}
use Prim.Native.Nat.{ℕ, zero, suc, ◌+◌, ◌*◌, ◌≤◌}
use native.Mathlib.Omega.{arith}
use Rattle.std.specs.Prelude.{Result, Ok, Err}
use Rattle.paper.specs.declared.Refusal.{Refusal}
use Rattle.plan.specs.declared.Place.TheVariants.{InAll, InOld}
use Rattle.shown.specs.Form.{commitment_in}
use Rattle.shown.specs.declared.Asked.{Asked}
use Rattle.walks.specs.Walk.{stepped, walked, walks, Ahead}
use Rattle.walks.specs.declared.Reader.{Reader}
use Rattle.walks.proofs.Walked.{step-passed, walks-refused}
use Rattle.runs.specs.Runs.{epoch_from, lack}
use Rattle.rows.specs.Rows.{of_version, of_marker, lookup_row, history_row, all_rows}

-- a walk over what is asked, and then over more
walks-append : (l m : List Asked) (r : Result Reader Refusal) → walks (l ++ m) r ≡ walks m (walks l r)
unfolding walks
walks-append [] m r = refl
walks-append (a ∷ l) m r = walks-append l m (walked a r)

module _ (l m : List Asked) (r : Reader) where
  pub rows-on : (q : Reader) → walks l (Ok r) ≡ Ok q → walks (l ++ m) (Ok r) ≡ walks m (Ok q)
  rows-on q e = walks-append l m (Ok r) ∙ ap (walks m) e

  pub rows-stop : (e : Refusal) → walks l (Ok r) ≡ Err e → walks (l ++ m) (Ok r) ≡ Err e
  rows-stop e h = walks-append l m (Ok r) ∙ ap (walks m) h ∙ walks-refused m e

-- a reader keeps the proof and the name
pub record Kept (r q : Reader) : Type 0 where
  pub proof : q.proof ≡ r.proof
  pub name : q.name ≡ r.name

pub kept : (l : List Asked) (r q : Reader) → walks l (Ok r) ≡ Ok q → Kept r q
unfolding walks
kept [] r q e = let u : q ≡ r = cc in record { proof = ap (λ (x : Reader). x.proof) u; name = ap (λ (x : Reader). x.name) u }
kept (a ∷ l) r q e = by (stepped a r) refl e (λ p h. kept l p q h)
  where
    by : (x : Result Reader Refusal) → stepped a r ≡ x → walks l x ≡ Ok q → ((p : Reader) → walks l (Ok p) ≡ Ok q → Kept p q) → Kept r q
    by (Err f) h e more = let z : ◌≡◌ {A = ℕ} 0 1 = cc (walks-refused l f) in absurd (omega arith)
    by (Ok p) h e more =
        let s = step-passed a r p h in
        let k = more p e in
        record { proof = k.proof ∙ s.proof; name = k.name ∙ s.name }

-- and what is left of its room
pub ahead-behind : (l : List Asked) (r q : Reader) → walks l (Ok r) ≡ Ok q → (c j k : ℕ) → Ahead k r → q.digests ≤ r.digests + 258 * c → c + j ≤ k → Ahead j q
ahead-behind l r q e c j k h d m =
    let p = kept l r q e in
    record { front = rw p.proof h.front; short = rw p.name h.short; room = omega (arith, h.room) }

pub ahead-step : (a : Asked) (r q : Reader) → stepped a r ≡ Ok q → q.digests ≤ r.digests + 258 → (j k : ℕ) → Ahead k r → j + 1 ≤ k → Ahead j q
ahead-step a r q e d j k h m =
    let p = step-passed a r q e in
    record { front = rw p.proof h.front; short = rw p.name h.short; room = omega (arith, h.room) }

-- what the rows of a history are asked that a reader stands before
abbrev pub history_asks : Reader → ℕ → ℕ → ℕ → List Asked
history_asks r t n = history_row r.proof.now r.at t n

-- what is left behind each row
module _ (f : ℕ → List Asked) where
  abbrev pub from_1 : List Asked
  from_1 = f 1 ++ (f 2 ++ (f 3 ++ (f 4 ++ f 5)))

  abbrev pub from_2 : List Asked
  from_2 = f 2 ++ (f 3 ++ (f 4 ++ f 5))

  abbrev pub from_3 : List Asked
  from_3 = f 3 ++ (f 4 ++ f 5)

  abbrev pub from_4 : List Asked
  from_4 = f 4 ++ f 5

-- ---- a lookup's paths

module _ (r : Reader) (t : ℕ) where
  -- all that the lookup of version v is asked
  abbrev pub lookup_asks : ℕ → List Asked
  lookup_asks v = all_rows (lookup_row r.proof.now r.at t v)

  pub lookup-none : (v : ℕ) → v ≡ 0 → stepped (lack (InAll 1)) r ≡ walks (lookup_asks v) (Ok r)
  unfolding walks
  lookup-none zero e = refl
  lookup-none (suc v) e = absurd (omega arith)

  pub lookup-some : (v : ℕ) → (v ≡ 0 → ⊥)
      → walks (lookup_asks v) (Ok r) ≡ walked (of_marker v (epoch_from r.proof.now r.at 1)) (walked (lack (InOld v)) (stepped (of_version (commitment_in r.proof.now 108) v t) r))
  unfolding walks
  lookup-some zero h = absurd (h refl)
  lookup-some (suc v) h = refl
