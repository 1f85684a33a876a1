-- Records in shape: each name's own records run 1, 2, 3 with rising epochs, at every epoch; and their leaves stand in the trees.
-- Assumes nothing.
use mathlib.Core.Path.{◌≡◌, refl, sym, ap, ◌∙◌, subst}
use mathlib.Core.Logic.{inl, inr}
use mathlib.Core.Bool.{Bool, true, false, cond}
use mathlib.Core.List.{List, [], ◌∷◌, ◌++◌, append-nil}
use Prim.Native.Nat.{ℕ, zero, suc, ◌+◌, ◌<◌, ◌≤◌}
use native.Mathlib.Omega.{arith}
use lib.Dec.{eqb, leb, ltb}
use lib.ListN.{length, get_or, length-append}
use borrow.Author.Tests.{leb-true, leb-false, ltb-true, eqb-true, lt-leb}
use Rattle.paper.specs.Lists.{◌∈◌, All, every, keep}
use Rattle.paper.specs.Bytes.{Bytes, same}
use Rattle.paper.specs.Labelling.{Labelling, same_name}
use Rattle.paper.specs.Table.{Record, own_records, follows, in_shape, by_epoch, last_version}
use Rattle.paper.proofs.Lists.{and_left, and_right, all_in, in-all, every-all, keep_append, keep_one, keep-keep}
use Rattle.paper.proofs.Bytes.{same-eq}

-- versions run on from k, with epochs that rise from e on
abbrev pub Runs : ℕ → ℕ → List Record → Type 0
Runs k e [] = Unit {0}
Runs k e (r ∷ rs) = (r.version ≡ suc k) × (e < r.epoch) × Runs (suc k) r.epoch rs

-- the epoch of the last record, or 0
unfoldable pub last_epoch : List Record → ℕ
last_epoch [] = 0
last_epoch (r ∷ []) = r.epoch
last_epoch (r ∷ q ∷ rs) = last_epoch (q ∷ rs)

last-in : (r : Record) (rs : List Record) → (q : Record) × (q ∈ (r ∷ rs)) × (last_epoch (r ∷ rs) ≡ q.epoch)
unfolding last_epoch
last-in r [] = (r, inl refl, refl)
last-in r (q ∷ rs) = let (x, m, e) = last-in q rs in (x, inr m, e)

last_snoc : (rs : List Record) (r : Record) → last_epoch (rs ++ (r ∷ [])) ≡ r.epoch
unfolding last_epoch
last_snoc [] r = refl
last_snoc (q ∷ []) r = refl
last_snoc (q ∷ x ∷ rs) r = last_snoc (x ∷ rs) r

-- above all epochs of a list, and at least 1: above its last
above-last : (l : List Record) (e : ℕ) → 1 ≤ e → All (λ q. ltb q.epoch e ≡ true) l → last_epoch l < e
unfolding last_epoch
above-last [] e h a = h
above-last (r ∷ l) e h a = let (q, m, z) = last-in r l in omega (arith, z, ltb-true q.epoch e (all_in _ (r ∷ l) a q m))

module _ (lab : Labelling) (name : Bytes) where
  abbrev own : List Record → List Record
  own = own_records lab name

  -- the records of one name are those of another spelling of it
  own_same : (n : Bytes) (rs : List Record) → same_name lab n name ≡ true → own_records lab n rs ≡ own rs
  unfolding own_records same_name
  own_same n rs e = ap (λ p. keep (λ r. same (lab.person r.name) p) rs) (same-eq _ _ e)

  own-snoc : (earlier : List Record) (r : Record) → own (earlier ++ (r ∷ [])) ≡ own earlier ++ cond (same_name lab r.name name) (r ∷ []) []
  unfolding own_records
  own-snoc earlier r = keep_append (λ q. same_name lab q.name name) earlier (r ∷ []) ∙ ap (λ l. keep (λ q. same_name lab q.name name) earlier ++ l) (keep_one (λ q. same_name lab q.name name) r)

  own-nil : own [] ≡ []
  unfolding own_records keep
  own-nil = refl

  -- what is asked of a record behind those before it
  pub record Follows (current : ℕ) (earlier : List Record) (r : Record) : Type 0 where
    pub low : 1 ≤ r.epoch
    pub high : r.epoch ≤ current
    pub level : All (λ q. leb q.epoch r.epoch ≡ true) earlier
    pub next : r.version ≡ suc (length (own_records lab r.name earlier))
    pub rising : All (λ q. ltb q.epoch r.epoch ≡ true) (own_records lab r.name earlier)

  pub follows-facts : (current : ℕ) (earlier : List Record) (r : Record) → follows lab current earlier r ≡ true → Follows current earlier r
  unfolding follows
  follows-facts current earlier r e =
      let a = and_right (leb 1 r.epoch) _ e in
      let b = and_right (leb r.epoch current) _ a in
      let c = and_right (every (λ q. leb q.epoch r.epoch) earlier) _ b in
      record {
        low = leb-true 1 _ (and_left _ _ e);
        high = leb-true _ current (and_left _ _ a);
        level = every-all _ earlier (and_left _ _ b);
        next = eqb-true _ _ (and_left _ _ c);
        rising = every-all _ (own_records lab r.name earlier) (and_right (eqb r.version (suc (length (own_records lab r.name earlier)))) _ c);
      }

  -- a record of the name goes on with its own records
  runs_on : (current : ℕ) (earlier : List Record) (r : Record) (rs : List Record) → Follows current earlier r → same_name lab r.name name ≡ true
      → Runs (length (own (earlier ++ (r ∷ [])))) (last_epoch (own (earlier ++ (r ∷ [])))) rs → Runs (length (own earlier)) (last_epoch (own earlier)) (r ∷ rs)
  runs_on current earlier r rs f q h =
      let e : own (earlier ++ (r ∷ [])) ≡ own earlier ++ (r ∷ []) = own-snoc earlier r ∙ ap (λ b. own earlier ++ cond b (r ∷ []) []) q in
      let n : length (own (earlier ++ (r ∷ []))) ≡ suc (length (own earlier)) = ap length e ∙ omega (arith, length-append (own earlier) (r ∷ [])) in
      let l : last_epoch (own (earlier ++ (r ∷ []))) ≡ r.epoch = ap last_epoch e ∙ last_snoc (own earlier) r in
      let o = own_same r.name earlier q in (
        f.next ∙ ap (λ l. suc (length l)) o,
        above-last (own earlier) r.epoch f.low (subst (λ l. All (λ q. ltb q.epoch r.epoch ≡ true) l) o f.rising),
        subst (λ k. Runs k r.epoch rs) n (subst (λ x. Runs (length (own (earlier ++ (r ∷ [])))) x rs) l h),
      )

  -- another name's record is passed over
  runs_by : (earlier : List Record) (r : Record) (rs : List Record) → same_name lab r.name name ≡ false
      → Runs (length (own (earlier ++ (r ∷ [])))) (last_epoch (own (earlier ++ (r ∷ [])))) rs → Runs (length (own earlier)) (last_epoch (own earlier)) rs
  runs_by earlier r rs q h =
      let e : own (earlier ++ (r ∷ [])) ≡ own earlier = own-snoc earlier r ∙ ap (λ b. own earlier ++ cond b (r ∷ []) []) q ∙ append-nil (own earlier) in
      subst (λ l. Runs (length l) (last_epoch l) rs) e h

  pub own-cons : (r : Record) (rs : List Record) → own (r ∷ rs) ≡ cond (same_name lab r.name name) (r ∷ own rs) (own rs)
  unfolding own_records keep
  own-cons r rs = refl

  shape-runs : (current : ℕ) (earlier rs : List Record) → in_shape lab current earlier rs ≡ true → Runs (length (own earlier)) (last_epoch (own earlier)) (own rs)
  unfolding in_shape
  shape-runs current earlier [] e = subst (λ l. Runs (length (own earlier)) (last_epoch (own earlier)) l) (sym own-nil) tt
  shape-runs current earlier (r ∷ rs) e =
      subst (λ l. Runs (length (own earlier)) (last_epoch (own earlier)) l) (sym (own-cons r rs))
      (by (same_name lab r.name name) refl (shape-runs current (earlier ++ (r ∷ [])) rs (and_right (follows lab current earlier r) _ e)))
    where
      by : (b : Bool) → same_name lab r.name name ≡ b → Runs (length (own (earlier ++ (r ∷ [])))) (last_epoch (own (earlier ++ (r ∷ [])))) (own rs)
          → Runs (length (own earlier)) (last_epoch (own earlier)) (cond b (r ∷ own rs) (own rs))
      by true q h = runs_on current earlier r (own rs) (follows-facts current earlier r (and_left _ _ e)) q h
      by false q h = runs_by earlier r (own rs) q h

  -- "each name's versions run 1, 2, 3 with rising epochs"
  pub own_runs : (current : ℕ) (rs : List Record) → in_shape lab current [] rs ≡ true → Runs 0 0 (own rs)
  unfolding last_epoch
  own_runs current rs e = subst (λ l. Runs (length l) (last_epoch l) (own rs)) own-nil (shape-runs current [] rs e)

-- ---- by an epoch

-- where the first epochs are past t, all are
runs_past : (t k e : ℕ) (l : List Record) → t ≤ e → Runs k e l → by_epoch t l ≡ []
unfolding by_epoch keep
runs_past t k e [] h r = refl
runs_past t k e (x ∷ l) h r = rw (lt-leb x.epoch t (omega arith)) (runs_past t (suc k) x.epoch l (omega arith) r.2)

pub runs-by-epoch : (t k e : ℕ) (l : List Record) → Runs k e l → Runs k e (by_epoch t l)
unfolding by_epoch keep
runs-by-epoch t k e [] r = tt
runs-by-epoch t k e (x ∷ l) r = by (leb x.epoch t) refl (runs-by-epoch t (suc k) x.epoch l r.2)
  where
    by : (b : Bool) → leb x.epoch t ≡ b → Runs (suc k) x.epoch (by_epoch t l) → Runs k e (cond b (x ∷ by_epoch t l) (by_epoch t l))
    by true q h = (r.0, r.1, h)
    by false q h =
        let z : t ≤ x.epoch = omega (arith, leb-false x.epoch t q) in
        subst (λ l. Runs k e l) (sym (runs_past t (suc k) x.epoch l z r.2)) tt

-- a name's own records by an epoch
pub own-by-epoch : (lab : Labelling) (name : Bytes) (t : ℕ) (rs : List Record) → own_records lab name (by_epoch t rs) ≡ by_epoch t (own_records lab name rs)
unfolding own_records by_epoch
own-by-epoch lab name t rs = keep-keep (λ r. same_name lab r.name name) (λ r. leb r.epoch t) rs

pub versions-run : (lab : Labelling) (name : Bytes) (current t : ℕ) (rs : List Record) → in_shape lab current [] rs ≡ true → Runs 0 0 (own_records lab name (by_epoch t rs))
versions-run lab name current t rs e = rw (own-by-epoch lab name t rs) (runs-by-epoch t 0 0 _ (own_runs lab name current rs e))

-- ---- what a run says of its records

-- version k + i + 1 stands in place i, and no version is above its epoch
pub runs-at : (k e : ℕ) (l : List Record) (d : Record) → k ≤ e → Runs k e l → (i : ℕ) → i < length l → ((get_or l i d).version ≡ suc (k + i)) × ((get_or l i d).version ≤ (get_or l i d).epoch)
runs-at k e [] d h r i n = absurd (omega arith)
runs-at k e (x ∷ l) d h r zero n = (omega arith, omega arith)
runs-at k e (x ∷ l) d h r (suc i) n =
    let (a, b) = runs-at (suc k) x.epoch l d (omega arith) r.2 i (omega arith) in
    (omega arith, b)

pub runs-most : (k e : ℕ) (l : List Record) → Runs k e l → All (λ r. r.version ≤ k + length l) l
runs-most k e [] r = tt
runs-most k e (x ∷ l) r = (omega (arith, r.0), in-all _ l (λ q m. omega (arith, all_in _ l (runs-most (suc k) x.epoch l r.2) q m)))

pub runs-above : (k e : ℕ) (l : List Record) → Runs k e l → All (λ r. k < r.version) l
runs-above k e [] r = tt
runs-above k e (x ∷ l) r = (omega (arith, r.0), in-all _ l (λ q m. omega (arith, all_in _ l (runs-above (suc k) x.epoch l r.2) q m)))

pub runs-rise : (k e : ℕ) (l : List Record) (d : Record) → Runs k e l → (i : ℕ) → suc i < length l → (get_or l i d).epoch < (get_or l (suc i) d).epoch
runs-rise k e [] d r i n = absurd (omega arith)
runs-rise k e (x ∷ []) d r i n = absurd (omega arith)
runs-rise k e (x ∷ y ∷ l) d r zero n = r.2.1
runs-rise k e (x ∷ y ∷ l) d r (suc i) n = runs-rise (suc k) x.epoch (y ∷ l) d r.2 i (omega arith)

pub runs_last : (k e : ℕ) (l : List Record) → Runs k e l → 0 < length l → last_version l ≡ k + length l
unfolding last_version
runs_last k e [] r n = absurd (omega arith)
runs_last k e (x ∷ []) r n = omega arith
runs_last k e (x ∷ y ∷ l) r n = omega (arith, runs_last (suc k) x.epoch (y ∷ l) r.2 (omega arith))

pub run-count : (l : List Record) → Runs 0 0 l → last_version l ≡ length l
unfolding last_version
run-count [] r = refl
run-count (x ∷ l) r = omega (arith, runs_last 0 0 (x ∷ l) r (omega arith))
