-- The leaves of the epoch before: they are those of the epoch that are not new, no two of them share a label where no two of the epoch
-- do, and an audit's list without its new leaves gives their root. Stated once over what a record puts into a tree. Assumes nothing.
use mathlib.Core.Path.{◌≡◌, refl, sym, ap, ◌∙◌}
use mathlib.Core.Logic.{inl, inr, ⊎_elim}
use mathlib.Core.Bool.{Bool, true, false, cond, not}
use mathlib.Core.List.{List, [], ◌∷◌, ◌++◌, flat_map}
use Prim.Native.Nat.{ℕ, suc, ◌-◌, ◌^◌, ◌≤◌}
use native.Mathlib.Omega.{arith}
use lib.Dec.{eqb, leb, ltb}
use borrow.Author.Tests.{leb-true, le-leb, eqb-false, ne_eqb, not-true}
use Rattle.paper.specs.Lists.{◌∈◌, All, some, keep}
use Rattle.paper.specs.Numbers.{wide}
use Rattle.paper.specs.Bytes.{zeros}
use Rattle.paper.specs.Bits.{Bits, log2}
use Rattle.paper.specs.Strings.{Node, leaf, inner, nothing, version, marker}
use Rattle.paper.specs.Labelling.{Labelling}
use Rattle.paper.specs.Path.{same_bits}
use Rattle.paper.specs.Tree.{key, root, root_digest}
use Rattle.paper.specs.Audit.{olds}
use Rattle.paper.specs.Table.{Record, by_epoch, leaf_of, all_leaves, old_leaves, holds, distinct}
use Rattle.paper.specs.Write.{below_root}
use Rattle.paper.proofs.Lists.{all_in, in-all, and_left, and_right, and_both, or_left, or_right, not-both, keep-in, in-keep, keep-passes, in-append}
use Rattle.paper.proofs.Tree.{SameSet}
use Rattle.paper.proofs.Honest.{LeafSized, distinct-set}
use Rattle.paper.proofs.Leaves.{in-flat}
use Rattle.paper.proofs.Cut.{is_old}
use Rattle.paper.proofs.Audited.{list-old}

-- ---- leaves left out

-- Y is X without some of its leaves: it has labels of X alone, and none twice if X has none twice
record Fewer (X Y : List Node) : Type 0 where
  labels : (L : Bits) → holds L X ≡ false → holds L Y ≡ false
  clear : distinct X ≡ true → distinct Y ≡ true

fewer-left : (A X Y : List Node) → Fewer X Y → Fewer (A ++ X) Y
unfolding holds some distinct
fewer-left [] X Y f = f
fewer-left (x ∷ A) X Y f =
    let g = fewer-left A X Y f in
    record { labels = λ L e. g.labels L (or_right (same_bits (key x) L) _ e); clear = λ e. g.clear (and_right (not (holds (key x) (A ++ X))) _ e) }

fewer-both : (A X Y : List Node) → Fewer X Y → Fewer (A ++ X) (A ++ Y)
unfolding holds some distinct
fewer-both [] X Y f = f
fewer-both (x ∷ A) X Y f =
    let g = fewer-both A X Y f in
    record {
      labels = λ L e. rw (or_left (same_bits (key x) L) _ e) (g.labels L (or_right (same_bits (key x) L) _ e));
      clear = λ e. and_both (ap not (g.labels (key x) (not-true _ (and_left _ _ e)))) (g.clear (and_right (not (holds (key x) (A ++ X))) _ e));
    }

keep-fewer : {R : Type 0} (f : R → List Node) (p q : R → Bool) → ((r : R) → q r ≡ true → p r ≡ true) → (rs : List R) → Fewer (flat_map f (keep p rs)) (flat_map f (keep q rs))
unfolding keep flat_map
keep-fewer f p q h [] = record { labels = λ L e. e; clear = λ e. e }
keep-fewer f p q h (r ∷ rs) = by (p r) refl (q r) refl (keep-fewer f p q h rs)
  where
    by : (a : Bool) → p r ≡ a → (b : Bool) → q r ≡ b → Fewer (flat_map f (keep p rs)) (flat_map f (keep q rs)) → Fewer (flat_map f (cond a (r ∷ keep p rs) (keep p rs))) (flat_map f (cond b (r ∷ keep q rs) (keep q rs)))
    by true i true j g = fewer-both (f r) _ _ g
    by true i false j g = fewer-left (f r) _ _ g
    by false i true j g = not-both (h r j) i
    by false i false j g = g

-- ---- the leaves of an epoch and of the one before

flat_in : {A B : Type 0} (f : A → List B) (l : List A) (b : B) → b ∈ flat_map f l → (a : A) × (a ∈ l) × (b ∈ f a)
unfolding flat_map
flat_in f (x ∷ l) b m = ⊎_elim (λ k. (x, inl refl, k)) (λ k. let (a, i, j) = flat_in f l b k in (a, inr i, j)) (in-append (f x) (flat_map f l) b m)
flat_in {A = A} {B = B} f [] b m = elim m [ ]

-- a leaf of epoch e
abbrev pub Dated : ℕ → Node → Type 0
Dated e (leaf m c d) = d ≡ e
Dated e (inner p l r) = ⊥
Dated e nothing = ⊥

-- leaves that records put into a tree, each with its record's epoch
module _ (f : Record → List Node) (dated : (r : Record) → All (Dated r.epoch) (f r)) (old : ℕ) (rs : List Record) where
  abbrev at : ℕ → List Node
  at t = flat_map f (by_epoch t rs)

  old-test : (e : ℕ) (x : Node) → Dated e x → is_old (suc old) x ≡ not (eqb e (suc old))
  unfolding is_old
  old-test e (leaf m c d) q = ap (λ d. not (eqb d (suc old))) q
  old-test e (inner p l r) q = absurd q
  old-test e nothing q = absurd q

  -- those that are not new are those of the epoch before
  pub old-leaves : SameSet (keep (is_old (suc old)) (at (suc old))) (at old)
  unfolding by_epoch
  old-leaves x = (to, fro)
    where
      to : x ∈ keep (is_old (suc old)) (at (suc old)) → x ∈ at old
      to m =
          let o = all_in (λ y. is_old (suc old) y ≡ true) (keep (is_old (suc old)) (at (suc old))) (keep-passes (is_old (suc old)) (at (suc old))) x m in
          let (r, i, j) = flat_in f (by_epoch (suc old) rs) x (keep-in (is_old (suc old)) (at (suc old)) x m) in
          let n : eqb r.epoch (suc old) ≡ false = not-true _ (sym (old-test r.epoch x (all_in (Dated r.epoch) (f r) (dated r) x j)) ∙ o) in
          let u = leb-true _ (suc old) (all_in (λ q. leb q.epoch (suc old) ≡ true) (by_epoch (suc old) rs) (keep-passes (λ q. leb q.epoch (suc old)) rs) r i) in
          let d : r.epoch ≤ old = below r.epoch u (eqb-false _ _ n) in
          in-flat f (by_epoch old rs) r x (in-keep (λ q. leb q.epoch old) rs r (keep-in _ rs r i) (le-leb _ _ d)) j
        where
          below : (e : ℕ) → e ≤ suc old → ¬ (e ≡ suc old) → e ≤ old
          below e u q = omega arith

      fro : x ∈ at old → x ∈ keep (is_old (suc old)) (at (suc old))
      fro m =
          let (r, i, j) = flat_in f (by_epoch old rs) x m in
          let u = leb-true _ old (all_in (λ q. leb q.epoch old ≡ true) (by_epoch old rs) (keep-passes (λ q. leb q.epoch old) rs) r i) in
          let n : eqb r.epoch (suc old) ≡ false = ne_eqb r.epoch (suc old) (λ q. omega arith) in
          let o : is_old (suc old) x ≡ true = old-test r.epoch x (all_in (Dated r.epoch) (f r) (dated r) x j) ∙ ap not n in
          in-keep (is_old (suc old)) (at (suc old)) x (in-flat f (by_epoch (suc old) rs) r x (in-keep (λ q. leb q.epoch (suc old)) rs r (keep-in _ rs r i) (le-leb r.epoch (suc old) (omega arith))) j) o

  -- "two leaves of a needed tree share a label": not before, if not now
  pub clear-before : distinct (at (suc old)) ≡ true → distinct (at old) ≡ true
  unfolding by_epoch
  clear-before = (keep-fewer f (λ r. leb r.epoch (suc old)) (λ r. leb r.epoch old) (λ r e. le-leb r.epoch (suc old) (omega (arith, leb-true r.epoch old e))) rs).clear

  -- "Kinds 0 and 1 build the old root"
  pub root-before : All LeafSized (at (suc old)) → distinct (at (suc old)) ≡ true → root_digest (olds (below_root (suc old) (root (at (suc old))))) ≡ root_digest (at old)
  root-before s e =
      let sized : All LeafSized (at old) = in-all _ (at old) (λ x m. all_in LeafSized (at (suc old)) s x (keep-in (is_old (suc old)) (at (suc old)) x ((old-leaves x).1 m))) in
      list-old (suc old) (at (suc old)) (distinct-set _ s e) (at old) (distinct-set _ sized (clear-before e)).free old-leaves

-- ---- what a record puts into either tree bears its epoch

module _ (lab : Labelling) where
  pub all-dated : (r : Record) → All (Dated r.epoch) (all_leaves lab r)
  unfolding all_leaves
  all-dated r = (refl, by (eqb (2 ^ log2 r.version) r.version))
    where
      by : (b : Bool) → All (Dated r.epoch) (cond b (leaf_of lab marker (log2 r.version) r.name (zeros wide) r.epoch ∷ []) [])
      by true = (refl, tt)
      by false = tt

  pub old-dated : (r : Record) → All (Dated r.epoch) (old_leaves lab r)
  unfolding old_leaves
  old-dated r = by (ltb 1 r.version)
    where
      by : (b : Bool) → All (Dated r.epoch) (cond b (leaf_of lab version (r.version - 1) r.name (zeros wide) r.epoch ∷ []) [])
      by true = (refl, tt)
      by false = tt
