-- The trees of the epoch as they were grown: each test of 7, and the proof out of the same trees as they are stored. Assumes nothing.
use mathlib.Core.Path.{◌≡◌, refl, sym, ap, ap₂, ◌∙◌, subst}
use mathlib.Core.Bool.{Bool, true, false, ◌&&◌}
use mathlib.Core.List.{List, flat_map}
use Prim.Native.Nat.{ℕ, zero, suc, ◌-◌, ◌≤◌}
use native.Mathlib.Omega.{arith}
use lib.ListN.{length}
use Rattle.paper.specs.Lists.{All}
use Rattle.paper.specs.Numbers.{CLASH, audit_most}
use Rattle.paper.specs.Bytes.{Bytes}
use Rattle.paper.specs.Strings.{Node}
use Rattle.paper.specs.Labelling.{plain}
use Rattle.paper.specs.Tree.{digest, top, root_digest}
use Rattle.paper.specs.Audit.{olds, audit_field}
use Rattle.paper.specs.Table.{Record, by_epoch, all_leaves, old_leaves, previous_head, all_at, old_at, distinct}
use Rattle.paper.specs.Write.{Written, below_root, audit_proof}
use Rattle.paper.specs.Standing.{RecordFits}
use Rattle.paper.specs.declared.State.{State}
use Rattle.paper.specs.Answer.{returned}
use Rattle.paper.proofs.Lists.{all_in, in-all, and_both}
use Rattle.paper.proofs.Labelling.{plain-sized}
use Rattle.paper.proofs.Leaves.{record-fits, all-at-sized, old-at-sized}
use Rattle.paper.proofs.Before.{Dated, clear-before, root-before, all-dated, old-dated}
use Rattle.paper.proofs.Honest.{LeafSized}
use Rattle.record.specs.Places.{records_in}
use Rattle.forest.specs.Grown.{Clear}
use Rattle.paper.specs.declared.Which.{Which}
use Rattle.paper.specs.declared.Which.TheVariants.{OfAll, OfOld}
use Rattle.gather.specs.Gathered.{leaves_by}
use Rattle.gather.proofs.Leaves.{by-few}
use Rattle.leaf_row.specs.Row.{as_nodes}
use Rattle.tree.specs.declared.StoredTree.{StoredTree}
use Rattle.tested.specs.Tested.{weighed, Sound}
use Rattle.tested.proofs.First.{heads-reach}
use Rattle.tested.proofs.Weighed.{clash}
use Rattle.lay_audit.specs.Audited.{root_before, bytes_with, Step, Listable}
use Rattle.write_audit.specs.Rest.{clear_at, rest_at}

-- ---- the epoch before

module _ (f : Record → List Node) (dated : (r : Record) → All (Dated r.epoch) (f r)) (rs : List Record) where
  abbrev at : ℕ → List Node
  at t = flat_map f (by_epoch t rs)

  clear-then : (t : ℕ) → 1 ≤ t → distinct (at t) ≡ true → distinct (at (t - 1)) ≡ true
  clear-then zero h e = absurd (omega arith)
  clear-then (suc k) h e = let z : k ≡ suc k - 1 = omega arith in subst (λ n. distinct (at n) ≡ true) z (clear-before f dated k rs e)

  root-then : (t : ℕ) → 1 ≤ t → All LeafSized (at t) → distinct (at t) ≡ true → root_digest (at (t - 1)) ≡ root_before t (at t)
  root-then zero h s e = absurd (omega arith)
  root-then (suc k) h s e = let z : k ≡ suc k - 1 = omega arith in subst (λ n. root_digest (at n) ≡ root_before (suc k) (at (suc k))) z (sym (root-before f dated k rs s e))

-- a test that does not hold
closed : (x y b : Bool) → b ≡ false → (x && (y && b)) ≡ false
closed true true b e = e
closed true false b e = refl
closed false y b e = refl

module _ (records heads : Bytes) (state : State) (out : Bytes) (t : ℕ) (s : Sound records heads state t) (later : 1 ≤ t) where
  abbrev rs : List Record
  rs = records_in state.count records

  abbrev clashes : Written
  clashes = record { answer = returned state CLASH; out = out }

  pub step : Step heads t
  step = record { later = later; reach = heads-reach records heads state t s }

  fits : All RecordFits rs
  fits = in-all _ rs (λ r m. record-fits r (all_in _ rs s.shaped.fits r m))

  -- ---- the epoch

  pub all-refused : distinct (all_at plain t rs) ≡ false → rest_at records heads state out t ≡ clashes
  all-refused e = clash state out (clear_at t rs) (audit_field.bytes (audit_proof plain heads t rs)) (closed (distinct (all_at plain (t - 1) rs)) (distinct (old_at plain (t - 1) rs)) _ (ap (λ x. x && distinct (old_at plain t rs)) e))

  -- as many leaves as a list may have records
  few : (which : Which) → length (leaves_by which t rs) ≤ audit_most
  few which = omega (arith, by-few which t records state.count, s.few)

  module _ (a : StoredTree) (ca : Clear (all_at plain t rs) a) where
    pub old-refused : distinct (old_at plain t rs) ≡ false → rest_at records heads state out t ≡ clashes
    old-refused e = clash state out (clear_at t rs) (audit_field.bytes (audit_proof plain heads t rs)) (closed (distinct (all_at plain (t - 1) rs)) (distinct (old_at plain (t - 1) rs)) _ (ap₂ (λ x y. x && y) ca.alone e))

    pub all-listed : Listable a
    all-listed = record { tree = ca.standing.kept; few = omega (arith, ca.standing.number, few OfAll) }

    module _ (o : StoredTree) (co : Clear (old_at plain t rs) o) where
      pub old-listed : Listable o
      old-listed = record { tree = co.standing.kept; few = omega (arith, co.standing.number, few OfOld) }

      clear : clear_at t rs ≡ true
      clear = and_both (clear-then (all_leaves plain) (all-dated plain) rs t later ca.alone) (and_both (clear-then (old_leaves plain) (old-dated plain) rs t later co.alone) (and_both ca.alone co.alone))

      -- the same trees, and those before them
      pub rest-is : rest_at records heads state out t ≡ weighed state out true (bytes_with heads t (as_nodes a.leaves.now) (as_nodes o.leaves.now))
      unfolding bytes_with
      rest-is =
          let x = ca.standing.tree in
          let y = co.standing.tree in
          let u = root-then (all_leaves plain) (all-dated plain) rs t later (all-at-sized plain plain-sized t rs fits) ca.alone ∙ ap (λ T. root_digest (olds (below_root t T))) x in
          let v = root-then (old_leaves plain) (old-dated plain) rs t later (old-at-sized plain plain-sized t rs fits) co.alone ∙ ap (λ T. root_digest (olds (below_root t T))) y in
          ap₂ (weighed state out) clear
          (λ i. audit_field.bytes (record {
            before = record { epoch = t - 1; previous = previous_head heads (t - 1); all = u i; old = v i };
            after = record { epoch = t; previous = previous_head heads t; all = digest (top (x i)); old = digest (top (y i)) };
            all = below_root t (x i);
            old = below_root t (y i);
          }))
