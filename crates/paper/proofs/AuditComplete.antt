-- Demand 2, the honest way, for audits: the step into an epoch, from records in shape, is accepted between the two heads. Stated once
-- over the labelling. Assumes nothing.
use mathlib.Core.Path.{◌≡◌, refl, sym, subst}
use mathlib.Core.Bool.{Bool, true, false, cond}
use mathlib.Core.List.{List, [], ◌∷◌, ◌++◌, flat_map}
use Prim.Native.Nat.{ℕ, suc, ◌-◌, ◌*◌, ◌^◌, ◌<◌, ◌≤◌}
use native.Mathlib.Omega.{arith}
use native.Mathlib.Nat.{suc-mul}
use lib.Dec.{eqb, leb, ltb}
use lib.ListN.{length, length-append}
use borrow.Author.Tests.{leb-true, eq-eqb}
use Rattle.fips.proofs.Size.{sha256-length}
use Rattle.paper.specs.Lists.{All, keep}
use Rattle.paper.specs.Numbers.{wide, records_most}
use Rattle.paper.specs.Bytes.{Bytes, zeros}
use Rattle.paper.specs.Bits.{log2}
use Rattle.paper.specs.Strings.{version, marker}
use Rattle.paper.specs.Labelling.{Labelling, Sized}
use Rattle.paper.specs.Tree.{root}
use Rattle.paper.specs.Layout.{fixed, seq, view}
use Rattle.paper.specs.Audit.{Audit, audit_field, audit_input_tests, audit_tests, audit_strings, check_audit}
use Rattle.paper.specs.declared.Which.TheVariants.{OfAll, OfOld}
use Rattle.paper.specs.Table.{Record, in_shape, follows, by_epoch, leaf_of, all_leaves, old_leaves, all_at, old_at, head_of, head_digest, head_at, previous_head, distinct}
use Rattle.paper.specs.Write.{below_root, audit_proof}
use Rattle.paper.specs.Answer.{audit_accepted}
use Rattle.paper.proofs.Lists.{all_in, in-all, and_left, and_right, and_both, keep-in, keep-passes}
use Rattle.paper.proofs.Bytes.{same_refl, eq-same}
use Rattle.paper.proofs.Verdicts.{Hold}
use Rattle.paper.proofs.Layouts.{parse-bytes}
use Rattle.paper.proofs.Proofs.{audit-lawful}
use Rattle.paper.proofs.Accepted.{audit-accept}
use Rattle.paper.proofs.Fits.{Wide, digest-wide}
use Rattle.paper.proofs.Fit.{head-fit}
use Rattle.paper.proofs.Honest.{LeafSet, distinct-set}
use Rattle.paper.proofs.Records.{follows-facts}
use Rattle.paper.proofs.Leaves.{RecordFits, all-at-sized, old-at-sized, all-flat}
use Rattle.paper.proofs.Before.{root-before, all-dated, old-dated}
use Rattle.paper.proofs.Audited.{list-order, list-new, list-fit, LeafRuled, list-rules, list-few}

-- ---- how many leaves there are

flat-few : {A B : Type 0} (f : A → List B) (k : ℕ) (l : List A) → ((a : A) → length (f a) ≤ k) → length (flat_map f l) ≤ length l * k
unfolding flat_map
flat-few f k [] h = omega arith
flat-few f k (x ∷ l) h = omega (arith, length-append (f x) (flat_map f l), h x, flat-few f k l h, suc-mul (length l) k)

keep-few : {A : Type 0} (t : A → Bool) (l : List A) → length (keep t l) ≤ length l
unfolding keep
keep-few t [] = omega arith
keep-few t (a ∷ l) = by (t a) (keep-few t l)
  where
    by : (b : Bool) → length (keep t l) ≤ length l → length (cond b (a ∷ keep t l) (keep t l)) ≤ suc (length l)
    by true h = omega arith
    by false h = omega arith

-- ---- the step into an epoch

module _ (lab : Labelling) (sized : Sized lab) (current old : ℕ) (rs : List Record) (fits : All RecordFits rs) (few : length rs ≤ records_most) (shape : in_shape lab current [] rs ≡ true) where
  all-length : (r : Record) → length (all_leaves lab r) ≤ 2
  unfolding all_leaves
  all-length r = by (eqb (2 ^ log2 r.version) r.version)
    where
      by : (b : Bool) → suc (length (cond b (leaf_of lab marker (log2 r.version) r.name (zeros wide) r.epoch ∷ []) [])) ≤ 2
      by true = omega arith
      by false = omega arith

  old-length : (r : Record) → length (old_leaves lab r) ≤ 2
  unfolding old_leaves
  old-length r = by (ltb 1 r.version)
    where
      by : (b : Bool) → length (cond b (leaf_of lab version (r.version - 1) r.name (zeros wide) r.epoch ∷ []) []) ≤ 2
      by true = omega arith
      by false = omega arith

  -- every epoch is at least 1
  epochs-low : (earlier l : List Record) → in_shape lab current earlier l ≡ true → All (λ r. 1 ≤ r.epoch) l
  unfolding in_shape
  epochs-low earlier [] e = tt
  epochs-low earlier (r ∷ l) e = ((follows-facts lab [] current earlier r (and_left _ _ e)).low, epochs-low (earlier ++ (r ∷ [])) l (and_right (follows lab current earlier r) _ e))

  abbrev t : ℕ
  t = suc old

  reached : All (λ r. (1 ≤ r.epoch) × (r.epoch ≤ t)) (by_epoch t rs)
  unfolding by_epoch
  reached = in-all _ (by_epoch t rs) (λ r m. (
    all_in (λ r. 1 ≤ r.epoch) rs (epochs-low [] rs shape) r (keep-in _ rs r m),
    leb-true _ t (all_in (λ q. leb q.epoch t ≡ true) (by_epoch t rs) (keep-passes (λ q. leb q.epoch t) rs) r m),
  ))

  all-ruled : All (LeafRuled t OfAll) (all_at lab t rs)
  unfolding all_leaves
  all-ruled = all-flat _ (all_leaves lab) (by_epoch t rs) (in-all _ (by_epoch t rs) (λ r m. let (l, u) = all_in _ (by_epoch t rs) reached r m in ((l, u, refl), by r l u (eqb (2 ^ log2 r.version) r.version))))
    where
      by : (r : Record) → 1 ≤ r.epoch → r.epoch ≤ t → (b : Bool) → All (LeafRuled t OfAll) (cond b (leaf_of lab marker (log2 r.version) r.name (zeros wide) r.epoch ∷ []) [])
      by r l u true = ((l, u, refl), tt)
      by r l u false = tt

  old-ruled : All (LeafRuled t OfOld) (old_at lab t rs)
  unfolding old_leaves
  old-ruled = all-flat _ (old_leaves lab) (by_epoch t rs) (in-all _ (by_epoch t rs) (λ r m. let (l, u) = all_in _ (by_epoch t rs) reached r m in by r l u (ltb 1 r.version)))
    where
      by : (r : Record) → 1 ≤ r.epoch → r.epoch ≤ t → (b : Bool) → All (LeafRuled t OfOld) (cond b (leaf_of lab version (r.version - 1) r.name (zeros wide) r.epoch ∷ []) [])
      by r l u true = ((l, u, same_refl (zeros wide)), tt)
      by r l u false = tt

  by-few : (k : ℕ) → length (by_epoch k rs) ≤ length rs
  unfolding by_epoch
  by-few k = keep-few _ rs

  module _ (heads : Bytes) (short : t < 2 ^ 32) (before : Wide (previous_head heads old)) (joined : head_at heads old ≡ head_digest lab heads old rs)
      (d₁ : distinct (all_at lab t rs) ≡ true) (d₂ : distinct (old_at lab t rs) ≡ true) where
    all_set : LeafSet (all_at lab t rs)
    all_set = distinct-set _ (all-at-sized lab sized t rs fits) d₁

    old-set : LeafSet (old_at lab t rs)
    old-set = distinct-set _ (old-at-sized lab sized t rs fits) d₂

    -- the audit as a value, with the epoch before written out
    abbrev audit : Audit
    audit = record {
      before = head_of lab heads old rs;
      after = head_of lab heads t rs;
      all = below_root t (root (all_at lab t rs));
      old = below_root t (root (old_at lab t rs));
    }

    audit-is : audit_proof lab heads t rs ≡ audit
    audit-is = let e : t - 1 ≡ old = omega arith in λ i. record { before = head_of lab heads (e i) rs; after = head_of lab heads t rs; all = below_root t (root (all_at lab t rs)); old = below_root t (root (old_at lab t rs)) }

    joined-wide : Wide (head_at heads old)
    joined-wide = subst Wide (sym joined) (digest-wide _)

    audit-fits : audit_field.Fits audit
    unfolding view seq fixed
    audit-fits = (
      (
        tt,
        (
          head-fit _ (omega arith) before (digest-wide _) (digest-wide _),
          (
            head-fit _ short joined-wide (digest-wide _) (digest-wide _),
            (
              list-fit t (all_at lab t rs) all_set (omega (arith, list-few t (all_at lab t rs) all_set, flat-few (all_leaves lab) 2 (by_epoch t rs) all-length, by-few t)),
              list-fit t (old_at lab t rs) old-set (omega (arith, list-few t (old_at lab t rs) old-set, flat-few (old_leaves lab) 2 (by_epoch t rs) old-length, by-few t)),
            ),
          ),
        ),
      ),
      refl,
    )

    audit-holds : Hold (audit_tests (head_digest lab heads old rs) (head_digest lab heads t rs) audit)
    unfolding audit_tests
    audit-holds =
        let next : eqb t (suc old) ≡ true = eq-eqb t (suc old) refl in (
          same_refl _,
          (
            same_refl _,
            (
              and_both next (eq-same joined),
              (
                and_both (list-order t (all_at lab t rs) all_set) (list-rules t (all_at lab t rs) all_set OfAll old refl all-ruled),
                (
                  eq-same (root-before (all_leaves lab) (all-dated lab) old rs (all-at-sized lab sized t rs fits) d₁),
                  (
                    eq-same (list-new t (all_at lab t rs) all_set),
                    (
                      and_both (list-order t (old_at lab t rs) old-set) (list-rules t (old_at lab t rs) old-set OfOld old refl old-ruled),
                      (
                        eq-same (root-before (old_leaves lab) (old-dated lab) old rs (old-at-sized lab sized t rs fits) d₂),
                        (eq-same (list-new t (old_at lab t rs) old-set), tt),
                      ),
                    ),
                  ),
                ),
              ),
            ),
          ),
        )

    -- "the audit into t is accepted between the heads of t-1 and t"
    pub audit-complete : check_audit (head_digest lab heads old rs) (head_digest lab heads t rs) (audit_field.bytes (audit_proof lab heads t rs))
        ≡ audit_accepted old t (length (audit_strings (audit_proof lab heads t rs)))
    audit-complete =
        let input : Hold (audit_input_tests (head_digest lab heads old rs) (head_digest lab heads t rs)) = (and_both (eq-eqb _ wide (sha256-length _)) (eq-eqb _ wide (sha256-length _)), tt) in
        subst (λ a. check_audit (head_digest lab heads old rs) (head_digest lab heads t rs) (audit_field.bytes a) ≡ audit_accepted old t (length (audit_strings a))) (sym audit-is)
        (audit-accept _ _ (audit_field.bytes audit) audit (parse-bytes audit-lawful audit audit-fits) input audit-holds)
