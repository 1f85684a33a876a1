-- The audit list of an honest tree: it fits, obeys the rules, and builds the old root and the new one. Assumes nothing.
use mathlib.Core.Path.{◌≡◌, refl, sym, ap, ap₂, ◌∙◌, subst}
use mathlib.Core.Logic.{inl, inr}
use mathlib.Core.Bool.{Bool, true, false, cond, ◌||◌, false≢true}
use mathlib.Core.List.{List, [], ◌∷◌, ◌++◌}
use Prim.Native.Nat.{ℕ, zero, suc, ◌+◌, ◌<◌, ◌≤◌}
use native.Mathlib.Omega.{arith}
use lib.Dec.{eqb, leb}
use lib.ListN.{length, length-append}
use borrow.Author.Tests.{eqb-true, eq-eqb, eqb-false, le-leb}
use Rattle.paper.specs.Lists.{◌∈◌, All, every, keep}
use Rattle.paper.specs.Numbers.{audit_most}
use Rattle.paper.specs.Bytes.{Bytes}
use Rattle.paper.specs.Bits.{Bits, Pfx, starts, ◌▹◌}
use Rattle.paper.specs.Strings.{Node, leaf, inner, nothing}
use Rattle.paper.specs.Tree.{key, digest, Tree, empty, top, common, side, build, root, root_digest}
use Rattle.paper.specs.Layout.{led, within, times}
use Rattle.paper.specs.Audit.{AuditRecord, unchanged, opened, fresh, record_key, olds, news, in_order, commitment_in, record_rule, audit_record_field, list_field}
use Rattle.paper.specs.declared.Which.{Which}
use Rattle.paper.specs.Write.{has_new, subtrees, below_root}
use Rattle.paper.proofs.Lists.{all_in, in-all, all_left, all_right, all_append, and_both, all-every, keep-in, in-keep, keep-passes, in_left, in_right}
use Rattle.paper.proofs.Bits.{pfx-trans, pfx-length, length-snoc, pfx-one-way, starts-pfx}
use Rattle.paper.proofs.Tree.{Free, Apart, SameSet, common-next, common-most, side-all, side-below, in-side, side-in, side-free, keep-free, below_none, build-same, root-same}
use Rattle.paper.proofs.Fits.{digest-wide}
use Rattle.paper.proofs.Fit.{record-fit}
use Rattle.paper.proofs.Way.{Grown, single, forked, build-grown, entries, IsLeaf, grown-length, build-entries}
use Rattle.paper.proofs.Honest.{LeafSized, LeafSet, leaf-label, leaf-is}
use Rattle.paper.proofs.Rebuild.{side-low, side-high, grown-below}
use Rattle.paper.proofs.Cut.{news-append, olds-append, news-builds, is_old, Match, bare, full, olds-match, cut-keys, order-parts, cut-order, cut-few}

-- ---- what stands alone in a tree over a list is the list's

entries-build : (N n : ℕ) (q : Bits) (S : List Node) → Free S → All (λ y. length (key y) ≤ N) S → All (λ y. Pfx q (key y)) S → N < n + length q → (x : Node) → x ∈ S → x ∈ entries (build n S)
unfolding build
entries-build N zero q S f b h k x m = absurd (omega (arith, all_in (λ y. length (key y) ≤ N) S b x m, pfx-length (all_in (λ y. Pfx q (key y)) S h x m)))
entries-build N (suc n) q (y ∷ []) f b h k x m = m
entries-build N (suc n) q (y ∷ z ∷ S) f b h k x m =
    let p = common y (z ∷ S) in
    let T = y ∷ z ∷ S in
    let (d, w) = common-next y z S f x m in
    let next : x ∈ entries (build n (side (p ▹ d) T)) = entries-build N n (p ▹ d) (side (p ▹ d) T) (side-free _ T f) (side-all _ _ T b) (side-below _ T)
    (omega (arith, length-snoc p d, pfx-length (common-most q y (z ∷ S) h))) x (in-side _ T x m w) in
    pick d next
  where
    pick : (d : Bool) → x ∈ entries (build n (side (common y (z ∷ S) ▹ d) (y ∷ z ∷ S)))
        → x ∈ (entries (build n (side (common y (z ∷ S) ▹ false) (y ∷ z ∷ S))) ++ entries (build n (side (common y (z ∷ S) ▹ true) (y ∷ z ∷ S))))
    pick false m = in_left x (entries (build n (side (common y (z ∷ S) ▹ false) (y ∷ z ∷ S)))) (entries (build n (side (common y (z ∷ S) ▹ true) (y ∷ z ∷ S)))) m
    pick true m = in_right x (entries (build n (side (common y (z ∷ S) ▹ false) (y ∷ z ∷ S)))) (entries (build n (side (common y (z ∷ S) ▹ true) (y ∷ z ∷ S)))) m
entries-build N (suc n) q [] f b h k x m = elim m [ ]

free-append : (A B : List Node) → Free A → Free B → ((x y : Node) → x ∈ A → y ∈ B → Apart x y) → Free (A ++ B)
free-append [] B f g h = g
free-append (x ∷ A) B f g h = (all_append (Apart x) A B f.0 (in-all _ B (λ y m. h x y (inl refl) m)), free-append A B f.1 g (λ u v m n. h u v (inr m) n))

grown-free : (q : Bits) (t : Tree) → Grown q t → Free (entries t)
grown-free q t (single x h k) = (tt, tt)
grown-free q t (forked p l r h gl gr) =
    free-append (entries l) (entries r) (grown-free (p ▹ false) l gl) (grown-free (p ▹ true) r gr)
    (λ x y m n. apart x y (all_in _ (entries l) (grown-below (p ▹ false) l gl) x m) (all_in _ (entries r) (grown-below (p ▹ true) r gr) y n))
  where
    apart : (x y : Node) → Pfx (p ▹ false) (key x) → Pfx (p ▹ true) (key y) → Apart x y
    apart x y a b = (
      λ k. false≢true (pfx-one-way p false true (pfx-trans a k) b),
      λ k. false≢true (pfx-one-way p false true a (pfx-trans b k)),
    )

-- ---- the keys of nodes are those of records

news-keys : (q : Bits) (R : List AuditRecord) → All (λ x. Pfx q (record_key x)) R → All (λ x. Pfx q (key x)) (news R)
unfolding news
news-keys q [] h = tt
news-keys q (unchanged m c e ∷ R) h = (h.0, news-keys q R h.1)
news-keys q (opened p l r ∷ R) h = (h.0, news-keys q R h.1)
news-keys q (fresh m c e ∷ R) h = (h.0, news-keys q R h.1)

olds-keys : (q : Bits) (R : List AuditRecord) → All (λ x. Pfx q (record_key x)) R → All (λ x. Pfx q (key x)) (olds R)
unfolding olds
olds-keys q [] h = tt
olds-keys q (unchanged m c e ∷ R) h = (h.0, olds-keys q R h.1)
olds-keys q (opened p l r ∷ R) h = (h.0, olds-keys q R h.1)
olds-keys q (fresh m c e ∷ R) h = olds-keys q R h.1

-- ---- the list of a tree

-- a leaf's epoch is between 1 and t, and its commitment is one of its tree's
abbrev pub LeafRuled : ℕ → Which → Node → Type 0
LeafRuled t w (leaf m c e) = (1 ≤ e) × (e ≤ t) × (commitment_in w c ≡ true)
LeafRuled t w (inner p l r) = ⊥
LeafRuled t w nothing = ⊥

module _ (t : ℕ) (S : List Node) (set : LeafSet S) where
  abbrev half : Bool → Tree
  half b = build 256 (side ([] ▹ b) S)

  abbrev list : List AuditRecord
  list = below_root t (root S)

  list-is : list ≡ subtrees t (half false) ++ subtrees t (half true)
  unfolding below_root root
  list-is = refl

  labels : All (λ y. length (key y) ≤ 256) S
  labels = in-all _ S (λ y m. omega (arith, leaf-label y (all_in LeafSized S set.sized y m)))

  -- each half is empty or grown
  data Half (b : Bool) : Type 0 where
    nobody : side ([] ▹ b) S ≡ [] → half b ≡ empty → Half b
    grown : Grown ([] ▹ b) (half b) → Half b

  which : (b : Bool) → Half b
  which b = by (side ([] ▹ b) S) refl
    where
      by : (H : List Node) → side ([] ▹ b) S ≡ H → Half b
      by [] e = nobody e (ap (build 256) e ∙ below_none)
      by (x ∷ H) e = grown (build-grown 256 256 ([] ▹ b) (side ([] ▹ b) S) (side-free _ S set.free) (side-all _ _ S labels) (omega arith) (side-below _ S) (omega arith)
          (λ q. let z : ◌≡◌ {A = ℕ} 0 1 = cc in omega arith))

  leaves : (b : Bool) → All IsLeaf (entries (half b))
  leaves b = in-all _ (entries (half b)) (λ x m. leaf-is x (all_in LeafSized S set.sized x (side-in _ S x (build-entries 256 (side ([] ▹ b) S) x m))))

  no-trees : subtrees t empty ≡ []
  unfolding subtrees
  no-trees = refl

  keys : (b : Bool) → All (λ x. Pfx ([] ▹ b) (record_key x)) (subtrees t (half b))
  keys b = by (which b)
    where
      by : Half b → All (λ x. Pfx ([] ▹ b) (record_key x)) (subtrees t (half b))
      by (nobody e q) = subst (λ T. All (λ x. Pfx ([] ▹ b) (record_key x)) (subtrees t T)) (sym q) (subst (λ R. All (λ x. Pfx ([] ▹ b) (record_key x)) R) (sym no-trees) tt)
      by (grown g) = cut-keys t ([] ▹ b) (half b) g

  no-order : in_order [] ≡ true
  unfolding in_order
  no-order = refl

  -- "Records stand in bit order and none is a prefix of another."
  pub list-order : in_order list ≡ true
  list-order = rw list-is (order-parts [] (subtrees t (half false)) (subtrees t (half true)) (keys false) (keys true) (by false (which false)) (by true (which true)))
    where
      by : (b : Bool) → Half b → in_order (subtrees t (half b)) ≡ true
      by b (nobody e q) = ap (λ T. in_order (subtrees t T)) q ∙ ap in_order no-trees ∙ no-order
      by b (grown g) = cut-order t ([] ▹ b) (half b) g

  -- ---- the new root

  below-side : (N : List AuditRecord → List Node) → ((A B : List AuditRecord) → N (A ++ B) ≡ N A ++ N B)
      → ((q : Bits) (R : List AuditRecord) → All (λ x. Pfx q (record_key x)) R → All (λ x. Pfx q (key x)) (N R))
      → (b : Bool) → side ([] ▹ b) (N list) ≡ N (subtrees t (half b))
  below-side N app ks false =
      ap (λ R. side ([] ▹ false) (N R)) list-is ∙ ap (side ([] ▹ false)) (app (subtrees t (half false)) (subtrees t (half true)))
      ∙ side-low [] (N (subtrees t (half false))) (N (subtrees t (half true))) (ks _ _ (keys false)) (ks _ _ (keys true))
  below-side N app ks true =
      ap (λ R. side ([] ▹ true) (N R)) list-is ∙ ap (side ([] ▹ true)) (app (subtrees t (half false)) (subtrees t (half true)))
      ∙ side-high [] (N (subtrees t (half false))) (N (subtrees t (half true))) (ks _ _ (keys false)) (ks _ _ (keys true))

  -- roots whose halves have one top are one
  root-tops : (A B : List Node) → ((b : Bool) → top (build 256 (side ([] ▹ b) A)) ≡ top (build 256 (side ([] ▹ b) B))) → root_digest A ≡ root_digest B
  unfolding root
  root-tops A B h = ap₂ (λ u v. digest (inner [] (digest u) (digest v))) (h false) (h true)

  no-nodes : news [] ≡ []
  unfolding news
  no-nodes = refl

  no-olds : olds [] ≡ []
  unfolding olds
  no-olds = refl

  none_kept : keep (is_old t) [] ≡ []
  unfolding keep
  none_kept = refl

  -- "all records the new"
  pub list-new : root_digest (news list) ≡ root_digest S
  list-new = root-tops (news list) S (λ b. ap (λ A. top (build 256 A)) (below-side news news-append news-keys b) ∙ by b (which b))
    where
      by : (b : Bool) → Half b → top (build 256 (news (subtrees t (half b)))) ≡ top (half b)
      by b (nobody e q) = ap (λ T. top (build 256 (news (subtrees t T)))) q ∙ ap (λ R. top (build 256 (news R))) no-trees ∙ ap (λ A. top (build 256 A)) no-nodes ∙ ap top below_none ∙ sym (ap top q)
      by b (grown g) = news-builds t 256 ([] ▹ b) (half b) g (leaves b) (omega arith)

  -- ---- the old root

  -- the old leaves of a half
  old-half : (b : Bool) → SameSet (keep (is_old t) (entries (half b))) (side ([] ▹ b) (keep (is_old t) S))
  old-half b x = (to, fro)
    where
      H : List Node
      H = side ([] ▹ b) S

      to : x ∈ keep (is_old t) (entries (half b)) → x ∈ side ([] ▹ b) (keep (is_old t) S)
      to m =
          let k = build-entries 256 H x (keep-in (is_old t) (entries (half b)) x m) in
          let o = all_in (λ y. is_old t y ≡ true) (keep (is_old t) (entries (half b))) (keep-passes (is_old t) (entries (half b))) x m in
          in-side ([] ▹ b) (keep (is_old t) S) x (in-keep (is_old t) S x (side-in ([] ▹ b) S x k) o) (all_in (λ y. Pfx ([] ▹ b) (key y)) H (side-below ([] ▹ b) S) x k)

      fro : x ∈ side ([] ▹ b) (keep (is_old t) S) → x ∈ keep (is_old t) (entries (half b))
      fro m =
          let k = side-in ([] ▹ b) (keep (is_old t) S) x m in
          let o = all_in (λ y. is_old t y ≡ true) (keep (is_old t) S) (keep-passes (is_old t) S) x k in
          let w = all_in (λ y. Pfx ([] ▹ b) (key y)) (side ([] ▹ b) (keep (is_old t) S)) (side-below ([] ▹ b) (keep (is_old t) S)) x m in
          let i : x ∈ H = in-side ([] ▹ b) S x (keep-in (is_old t) S x k) w in
          in-keep (is_old t) (entries (half b)) x (entries-build 256 256 ([] ▹ b) H (side-free _ S set.free) (side-all _ _ S labels) (side-below _ S) (omega arith) x i) o

  half-free : (b : Bool) → Half b → Free (entries (half b))
  half-free b (nobody e q) = subst (λ T. Free (entries T)) (sym q) tt
  half-free b (grown g) = grown-free ([] ▹ b) (half b) g

  -- "Kinds 0 and 1 build the old root"
  pub list-old : (O : List Node) → Free O → SameSet (keep (is_old t) S) O → root_digest (olds list) ≡ root_digest O
  list-old O f s =
      root-tops (olds list) (keep (is_old t) S) (λ b. ap (λ A. top (build 256 A)) (below-side olds olds-append olds-keys b) ∙ by b (which b) ∙ ap top (same_half b))
      ∙ ap (λ T. digest (top T)) (root-same (keep (is_old t) S) O (keep-free (is_old t) S set.free) f s)
    where
      same_half : (b : Bool) → build 256 (keep (is_old t) (entries (half b))) ≡ build 256 (side ([] ▹ b) (keep (is_old t) S))
      same_half b = build-same 256 _ _ (keep-free (is_old t) (entries (half b)) (half-free b (which b))) (side-free _ (keep (is_old t) S) (keep-free (is_old t) S set.free)) (old-half b)

      match-top : (q : Bits) (A B : List Node) → 256 < 256 + length q → Match t q A B → top (build 256 A) ≡ top (build 256 B)
      match-top q A B k (bare x y) = ap (λ A. top (build 256 A)) (x ∙ sym y)
      match-top q A B k (full x S u y R v a c h) = h 256 k

      by : (b : Bool) → Half b → top (build 256 (olds (subtrees t (half b)))) ≡ top (build 256 (keep (is_old t) (entries (half b))))
      by b (nobody e q) = ap (λ T. top (build 256 (olds (subtrees t T)))) q ∙ ap (λ R. top (build 256 (olds R))) no-trees ∙ ap (λ A. top (build 256 A)) (no-olds ∙ sym none_kept) ∙ sym (ap (λ T. top (build 256 (keep (is_old t) (entries T)))) q)
      by b (grown g) = match-top ([] ▹ b) _ _ (omega arith) (olds-match t ([] ▹ b) (half b) g (leaves b))

  -- ---- each record

  -- what holds of new leaves, of other leaves and of opened nodes holds of the records
  cut-each : (P : Node → Type 0) (Q : AuditRecord → Type 0) → ((m : Bits) (c : Bytes) (e : ℕ) → P (leaf m c e) → e ≡ t → Q (fresh m c e))
      → ((m : Bits) (c : Bytes) (e : ℕ) → P (leaf m c e) → ¬ (e ≡ t) → Q (unchanged m c e))
      → ((p : Bits) (l r : Tree) → 1 ≤ length p → length p ≤ 255 → Q (opened p (digest (top l)) (digest (top r))))
      → (q : Bits) (T : Tree) → Grown q T → 1 ≤ length q → All IsLeaf (entries T) → All P (entries T) → All Q (subtrees t T)
  unfolding subtrees
  cut-each P Q fr un op q T (single (leaf m c e) h k) l i a = by (eqb e t) refl
    where
      by : (b : Bool) → eqb e t ≡ b → All Q (cond b (fresh m c e) (unchanged m c e) ∷ [])
      by true z = (fr m c e a.0 (eqb-true e t z), tt)
      by false z = (un m c e a.0 (eqb-false e t z), tt)
  cut-each P Q fr un op q T (single (inner p u v) h k) l i a = absurd i.0
  cut-each P Q fr un op q T (single nothing h k) l i a = absurd i.0
  cut-each P Q fr un op q T (forked p u v h gl gr) l i a =
      by (has_new t u || has_new t v)
      (cut-each P Q fr un op (p ▹ false) u gl (omega (arith, length-snoc p false)) (all_left IsLeaf (entries u) (entries v) i) (all_left P (entries u) (entries v) a))
      (cut-each P Q fr un op (p ▹ true) v gr (omega (arith, length-snoc p true)) (all_right IsLeaf (entries u) (entries v) i) (all_right P (entries u) (entries v) a))
    where
      by : (b : Bool) → All Q (subtrees t u) → All Q (subtrees t v) → All Q (cond b (subtrees t u ++ subtrees t v) (opened p (digest (top u)) (digest (top v)) ∷ []))
      by true x y = all_append Q (subtrees t u) (subtrees t v) x y
      by false x y = (op p u v (omega (arith, pfx-length h)) (omega (arith, grown-length (p ▹ false) u gl, length-snoc p false)), tt)

  list-each : (P : Node → Type 0) (Q : AuditRecord → Type 0) → ((m : Bits) (c : Bytes) (e : ℕ) → P (leaf m c e) → e ≡ t → Q (fresh m c e))
      → ((m : Bits) (c : Bytes) (e : ℕ) → P (leaf m c e) → ¬ (e ≡ t) → Q (unchanged m c e))
      → ((p : Bits) (l r : Tree) → 1 ≤ length p → length p ≤ 255 → Q (opened p (digest (top l)) (digest (top r))))
      → All P S → All Q list
  list-each P Q fr un op a = rw list-is (all_append Q (subtrees t (half false)) (subtrees t (half true)) (by false (which false)) (by true (which true)))
    where
      mine : (b : Bool) → All P (entries (half b))
      mine b = in-all _ (entries (half b)) (λ x m. all_in P S a x (side-in ([] ▹ b) S x (build-entries 256 (side ([] ▹ b) S) x m)))

      by : (b : Bool) → Half b → All Q (subtrees t (half b))
      by b (nobody e q) = subst (λ T. All Q (subtrees t T)) (sym q) (subst (λ R. All Q R) (sym no-trees) tt)
      by b (grown g) = cut-each P Q fr un op ([] ▹ b) (half b) g (omega arith) (leaves b) (mine b)

  list-fits : All audit_record_field.Fits list
  list-fits = list-each LeafSized (λ x. audit_record_field.Fits x)
      (λ m c e s _. record-fit (fresh m c e) s)
      (λ m c e s _. record-fit (unchanged m c e) s)
      (λ p l r a b. record-fit (opened p (digest (top l)) (digest (top r))) (a, b, digest-wide _, digest-wide _))
      set.sized

  -- "audit records per tree | 0 to 16,384"
  pub list-fit : length list ≤ audit_most → list_field.Fits list
  unfolding led within times
  list-fit n = ((omega arith, n, omega arith), (refl, list-fits))

  pub list-rules : (w : Which) (old : ℕ) → t ≡ suc old → All (LeafRuled t w) S → every (record_rule w old t) list ≡ true
  list-rules w old z a = all-every _ list (list-each (LeafRuled t w) (λ x. record_rule w old t x ≡ true)
      (λ m c e (l, u, k) q. let f : eqb e t ≡ true = eq-eqb e t q in and_both f k)
      (λ m c e (l, u, k) q.
      let f : leb 1 e ≡ true = le-leb 1 e l in
      let g : leb e old ≡ true = le-leb e old (below e u q) in
      and_both f (and_both g k))
      (λ p l r x y. refl)
      a)
    where
      below : (e : ℕ) → e ≤ t → ¬ (e ≡ t) → e ≤ old
      below e u q = omega arith

  -- ---- how many there are

  sides-few : (p : Bits) (X : List Node) → length (side (p ▹ false) X) + length (side (p ▹ true) X) ≤ length X
  unfolding side keep
  sides-few p [] = omega arith
  sides-few p (x ∷ X) = by (starts (p ▹ false) (key x)) refl (starts (p ▹ true) (key x)) refl (sides-few p X)
    where
      by : (b : Bool) → starts (p ▹ false) (key x) ≡ b → (c : Bool) → starts (p ▹ true) (key x) ≡ c → length (side (p ▹ false) X) + length (side (p ▹ true) X) ≤ length X
          → length (cond b (x ∷ side (p ▹ false) X) (side (p ▹ false) X)) + length (cond c (x ∷ side (p ▹ true) X) (side (p ▹ true) X)) ≤ suc (length X)
      by true e true f h = absurd (false≢true (pfx-one-way p false true (starts-pfx _ (key x) e) (starts-pfx _ (key x) f)))
      by true e false f h = omega arith
      by false e true f h = omega arith
      by false e false f h = omega arith

  entries-few : (n : ℕ) (X : List Node) → length (entries (build n X)) ≤ length X
  unfolding build
  entries-few zero X = omega arith
  entries-few (suc n) [] = omega arith
  entries-few (suc n) (x ∷ []) = omega arith
  entries-few (suc n) (x ∷ y ∷ X) =
      let p = common x (y ∷ X) in
      let Z = x ∷ y ∷ X in
      omega (
        arith,
        length-append (entries (build n (side (p ▹ false) Z))) (entries (build n (side (p ▹ true) Z))),
        entries-few n (side (p ▹ false) Z),
        entries-few n (side (p ▹ true) Z),
        sides-few p Z,
      )

  pub list-few : length list ≤ length S
  list-few =
      omega (
        arith,
        ap length list-is,
        length-append (subtrees t (half false)) (subtrees t (half true)),
        by false (which false),
        by true (which true),
        sides-few [] S,
      )
    where
      by : (b : Bool) → Half b → length (subtrees t (half b)) ≤ length (side ([] ▹ b) S)
      by b (nobody e q) = omega (arith, ap (λ T. length (subtrees t T)) q, ap length no-trees)
      by b (grown g) = omega (arith, cut-few t ([] ▹ b) (half b) g, entries-few 256 (side ([] ▹ b) S))
