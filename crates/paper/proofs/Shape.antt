-- Records that publishing appends are in shape, and leave the trees of earlier epochs as they were. Assumes nothing.
use mathlib.Core.Path.{◌≡◌, refl, sym, ap, ◌∙◌, subst}
use mathlib.Core.Bool.{true, false, not}
use mathlib.Core.List.{List, [], ◌∷◌, ◌++◌, map, map-append, append_assoc, append-nil}
use Prim.Native.Nat.{ℕ, suc, ◌<◌, ◌≤◌}
use native.Mathlib.Omega.{arith}
use lib.Dec.{eqb, leb, ltb}
use lib.ListN.{length}
use borrow.Author.Tests.{leb-true, le-leb, lt-leb, lt-ltb, eq-eqb, not-true}
use Rattle.paper.specs.Lists.{◌∈◌, All, every, some, keep}
use Rattle.paper.specs.Bytes.{Bytes}
use Rattle.paper.specs.Labelling.{Labelling, same_name}
use Rattle.paper.specs.Table.{Record, Update, own_records, last_version, follows, in_shape, by_epoch}
use Rattle.paper.specs.Publish.{new_record, once}
use Rattle.paper.proofs.Lists.{all_in, in-all, all_append, all-every, and_left, and_right, and_both, or_left, or_right, keep_append, keep-none, keep-in}
use Rattle.paper.proofs.Bytes.{same-comm}
use Rattle.paper.proofs.Records.{follows-facts, own_runs, run-count}

-- records of a later epoch are none of an earlier one
pub by-epoch-append : (t : ℕ) (rs more : List Record) → All (λ r. t < r.epoch) more → by_epoch t (rs ++ more) ≡ by_epoch t rs
unfolding by_epoch
by-epoch-append t rs more h =
    keep_append (λ r. leb r.epoch t) rs more
    ∙ ap (λ l. keep (λ r. leb r.epoch t) rs ++ l) (keep-none _ more (in-all _ more (λ r m. lt-leb _ t (all_in _ more h r m))))
    ∙ append-nil _

module _ (lab : Labelling) where
  -- ---- shape, record by record

  pub shape-append : (c : ℕ) (earlier l m : List Record) → in_shape lab c earlier l ≡ true → in_shape lab c (earlier ++ l) m ≡ true → in_shape lab c earlier (l ++ m) ≡ true
  unfolding in_shape
  shape-append c earlier [] m a b = subst (λ e. in_shape lab c e m ≡ true) (append-nil earlier) b
  shape-append c earlier (r ∷ l) m a b =
      let f : follows lab c earlier r ≡ true = and_left _ _ a in
      and_both f (shape-append c (earlier ++ (r ∷ [])) l m (and_right (follows lab c earlier r) _ a) (subst (λ e. in_shape lab c e m ≡ true) (sym (append_assoc earlier (r ∷ []) l)) b))

  -- what follows by one epoch follows by a later one
  follows-later : (c d : ℕ) (earlier : List Record) (r : Record) → c ≤ d → follows lab c earlier r ≡ true → follows lab d earlier r ≡ true
  unfolding follows
  follows-later c d earlier r h e =
      let a = and_right (leb 1 r.epoch) _ e in
      let low : leb 1 r.epoch ≡ true = and_left _ _ e in
      let high : leb r.epoch d ≡ true = le-leb r.epoch d (omega (arith, leb-true r.epoch c (and_left _ _ a))) in
      and_both low (and_both high (and_right (leb r.epoch c) _ a))

  pub shape-later : (c d : ℕ) (earlier l : List Record) → c ≤ d → in_shape lab c earlier l ≡ true → in_shape lab d earlier l ≡ true
  unfolding in_shape
  shape-later c d earlier [] h e = refl
  shape-later c d earlier (r ∷ l) h e =
      let f : follows lab d earlier r ≡ true = follows-later c d earlier r h (and_left _ _ e) in
      and_both f (shape-later c d (earlier ++ (r ∷ [])) l h (and_right (follows lab c earlier r) _ e))

  pub shape-high : (c : ℕ) (earlier l : List Record) → in_shape lab c earlier l ≡ true → All (λ r. r.epoch ≤ c) l
  unfolding in_shape
  shape-high c earlier [] e = tt
  shape-high c earlier (r ∷ l) e = ((follows-facts lab [] c earlier r (and_left _ _ e)).high, shape-high c (earlier ++ (r ∷ [])) l (and_right (follows lab c earlier r) _ e))

  -- ---- a batch

  module _ (c : ℕ) (rs : List Record) (shape : in_shape lab c [] rs ≡ true) where
    abbrev new : Update → Record
    new = new_record lab rs (suc c)

    -- none of these updates is of the name
    abbrev Others : Bytes → List Update → Type 0
    Others name us = All (λ u. same_name lab u.name name ≡ false) us

    own_new : (name : Bytes) (us : List Update) → Others name us → own_records lab name (map new us) ≡ []
    unfolding own_records
    own_new name us h = keep-none _ (map new us) (go us h)
      where
        go : (us : List Update) → Others name us → All (λ r. same_name lab r.name name ≡ false) (map new us)
        go [] h = tt
        go (u ∷ us) h = (h.0, go us h.1)

    own-both : (name : Bytes) (done : List Update) → Others name done → own_records lab name (rs ++ map new done) ≡ own_records lab name rs
    unfolding own_records
    own-both name done h = keep_append (λ r. same_name lab r.name name) rs (map new done) ∙ ap (λ l. own_records lab name rs ++ l) (own_new name done h) ∙ append-nil _

    own_in : (name : Bytes) (q : Record) → q ∈ own_records lab name rs → q ∈ rs
    unfolding own_records
    own_in name q m = keep-in _ rs q m

    pub new-epochs : (done : List Update) → All (λ r. r.epoch ≡ suc c) (map new done)
    new-epochs [] = tt
    new-epochs (u ∷ done) = (refl, new-epochs done)

    -- one update more
    new-follows : (done : List Update) (u : Update) → Others u.name done → follows lab (suc c) (rs ++ map new done) (new u) ≡ true
    unfolding follows
    new-follows done u h =
        let own = own_records lab u.name rs in
        let e = own-both u.name done h in
        let high = shape-high c [] rs shape in
        let a : leb 1 (suc c) ≡ true = le-leb 1 (suc c) (omega arith) in
        let b : leb (suc c) (suc c) ≡ true = le-leb (suc c) (suc c) (omega arith) in
        let l : every (λ q. leb q.epoch (suc c)) (rs ++ map new done) ≡ true = all-every _ (rs ++ map new done) (all_append _ rs (map new done)
        (in-all _ rs (λ q m. le-leb q.epoch (suc c) (omega (arith, all_in _ rs high q m))))
        (in-all _ (map new done) (λ q m. le-leb q.epoch (suc c) (omega (arith, all_in _ (map new done) (new-epochs done) q m))))) in
        let v : eqb (suc (last_version own)) (suc (length (own_records lab u.name (rs ++ map new done)))) ≡ true =
        eq-eqb _ _ (ap suc (run-count own (own_runs lab u.name c rs shape) ∙ ap length (sym e))) in
        let r : every (λ q. ltb q.epoch (suc c)) (own_records lab u.name (rs ++ map new done)) ≡ true =
        ap (every (λ q. ltb q.epoch (suc c))) e ∙ all-every _ own (in-all _ own (λ q m. lt-ltb q.epoch (suc c) (omega (arith, all_in _ rs high q (own_in u.name q m))))) in
        and_both a (and_both b (and_both l (and_both v r)))

    -- "a name twice in a batch" is refused
    once-others : (u : Update) (us : List Update) → once lab (u ∷ us) ≡ true → Others u.name us
    unfolding once some
    once-others u us e = go us (not-true _ (and_left _ _ e))
      where
        go : (us : List Update) → some (λ w. same_name lab w.name u.name) us ≡ false → Others u.name us
        go [] n = tt
        go (w ∷ us) n = (or_left _ _ n, go us (or_right (same_name lab w.name u.name) _ n))

    same-sym : (a b : Bytes) → same_name lab a b ≡ same_name lab b a
    unfolding same_name
    same-sym a b = same-comm (lab.person a) (lab.person b)

    -- a batch with each name once
    batch-follows : (done us : List Update) → once lab us ≡ true → All (λ u. Others u.name done) us → in_shape lab (suc c) (rs ++ map new done) (map new us) ≡ true
    unfolding in_shape once
    batch-follows done [] o h = refl
    batch-follows done (u ∷ us) o h =
        let f : follows lab (suc c) (rs ++ map new done) (new u) ≡ true = new-follows done u h.0 in
        let e : rs ++ map new done ++ (new u ∷ []) ≡ rs ++ map new (done ++ (u ∷ [])) = append_assoc rs (map new done) (new u ∷ []) ∙ ap (λ l. rs ++ l) (sym (map-append new done (u ∷ []))) in
        let k : All (λ w. Others w.name (done ++ (u ∷ []))) us = in-all _ us (λ w m.
        all_append _ done (u ∷ []) (all_in (λ w. Others w.name done) us h.1 w m) (same-sym u.name w.name ∙ all_in _ us (once-others u us o) w m, tt)) in
        and_both f (subst (λ l. in_shape lab (suc c) l (map new us) ≡ true) (sym e) (batch-follows (done ++ (u ∷ [])) us (and_right (not (some (λ w. same_name lab w.name u.name) us)) _ o) k))

    -- the table after publishing is in shape
    pub published-shape : (us : List Update) → once lab us ≡ true → in_shape lab (suc c) [] (rs ++ map new us) ≡ true
    published-shape us o =
        shape-append (suc c) [] rs (map new us) (shape-later c (suc c) [] rs (omega arith) shape)
        (subst (λ l. in_shape lab (suc c) l (map new us) ≡ true) (append-nil rs) (batch-follows [] us o (in-all _ us (λ u m. tt))))
