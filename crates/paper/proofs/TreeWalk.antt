-- What a label's walk from the root of a tree comes to: what it comes to from the node that covers it, or absent if none does.
-- Assumes nothing.
use mathlib.Core.Path.{◌≡◌, refl, ap}
use mathlib.Core.Logic.{inr, inl, ⊎_elim}
use mathlib.Core.Bool.{Bool, true, false}
use mathlib.Core.List.{List, [], ◌∷◌}
use Prim.Native.Nat.{ℕ, zero, suc, ◌+◌, ◌<◌, ◌≤◌}
use native.Mathlib.Omega.{arith}
use lib.ListN.{length}
use Rattle.paper.specs.Lists.{◌∈◌, All}
use Rattle.paper.specs.Bits.{Bits, Pfx, starts, ◌▹◌}
use Rattle.paper.specs.Strings.{Node, leaf, inner, nothing}
use Rattle.paper.specs.Tree.{key, digest, Tree, fork, top, nodes, common, side, build, root}
use Rattle.paper.proofs.Lists.{all_in, all_left, all_right, true-or-false}
use Rattle.paper.proofs.Bits.{pfx-nil, pfx-refl, pfx-trans, pfx-next, pfx-length, length-snoc, starts-pfx, no-pfx}
use Rattle.paper.proofs.Tree.{Free, common-most, common-next, side-all, side-below, in-side, side-free}
use Rattle.paper.proofs.Walk.{absent, stop, look, look-other, look-off, look-down, look-neither, World, Walk, ends, steps, Same, same_step, same-trans}

-- a node that does not cover the label says absent
look_none : (L : Bits) (x : Node) → ¬ Pfx (key x) L → look L x ≡ stop absent
unfolding look
look_none L (leaf m c e) n = look-other L m c e (λ q. n (rw q (pfx-refl L)))
look_none L (inner p l r) n = look-off L p l r n
look_none L nothing n = refl

-- no node of the list covers the label
abbrev pub Uncovered : Bits → List Node → Type 0
Uncovered L S = All (λ x. ¬ Pfx (key x) L) S

module _ (W : World) (L : Bits) where
  -- where all nodes of the tree were hashed, the label is absent
  abbrev pub Gone : Tree → Type 0
  Gone t = All W.In (nodes t) → Walk W L (digest (top t)) absent

  -- or its walk goes on from the node x
  abbrev pub Leads : Tree → Node → Type 0
  Leads t x = All W.In (nodes t) → W.In x × Same W L (digest (top t)) (digest x)

  fork-gone : (p : Bits) (t : Bool → Tree) → ((b : Bool) → Gone (t b)) → Gone (fork p (t false) (t true))
  fork-gone p t g i = ⊎_elim
      (λ h. steps _ i.0 refl (look-down L p false _ _ (starts-pfx _ L h)) (g false (all_left W.In (nodes (t false)) _ i.1)))
      (λ n. ⊎_elim
      (λ h. steps _ i.0 refl (look-down L p true _ _ (starts-pfx _ L h)) (g true (all_right W.In (nodes (t false)) _ i.1)))
      (λ m. ends _ i.0 refl (look-neither L p _ _ (no-pfx _ L n) (no-pfx _ L m)))
      (true-or-false (starts (p ▹ true) L)))
      (true-or-false (starts (p ▹ false) L))

  fork-leads : (p : Bits) (t : Bool → Tree) (b : Bool) (x : Node) → Pfx (p ▹ b) L → Leads (t b) x → Leads (fork p (t false) (t true)) x
  fork-leads p t false x h f i =
      let (j, s) = f (all_left W.In (nodes (t false)) _ i.1) in
      (j, same-trans W L (same_step W L _ i.0 refl (look-down L p false _ _ h)) s)
  fork-leads p t true x h f i =
      let (j, s) = f (all_right W.In (nodes (t false)) _ i.1) in
      (j, same-trans W L (same_step W L _ i.0 refl (look-down L p true _ _ h)) s)

  build-gone : (n : ℕ) (S : List Node) → Uncovered L S → Gone (build n S)
  unfolding build look
  build-gone zero S u i = ends nothing i.0 refl refl
  build-gone (suc n) [] u i = ends nothing i.0 refl refl
  build-gone (suc n) (x ∷ []) u i = ends x i.0 refl (look_none L x u.0)
  build-gone (suc n) (x ∷ y ∷ S) u i =
      let p = common x (y ∷ S) in
      fork-gone p (λ e. build n (side (p ▹ e) (x ∷ y ∷ S))) (λ e. build-gone n (side (p ▹ e) (x ∷ y ∷ S)) (side-all _ _ (x ∷ y ∷ S) u)) i

  -- a label that no node of S covers is absent
  pub root-gone : (S : List Node) → Uncovered L S → Gone (root S)
  unfolding root
  root-gone S u = fork-gone [] (λ e. build 256 (side ([] ▹ e) S)) (λ e. build-gone 256 (side ([] ▹ e) S) (side-all _ _ S u))

  -- the covering node is reached, if no key is longer than N and the steps last
  build-leads : (N n : ℕ) (q : Bits) (S : List Node) → Free S → All (λ y. length (key y) ≤ N) S → All (λ y. Pfx q (key y)) S → N < n + length q
      → (x : Node) → x ∈ S → Pfx (key x) L → Leads (build n S) x
  unfolding build
  build-leads N zero q S f b h k x m c i =
      absurd (omega (arith, all_in (λ y. length (key y) ≤ N) S b x m, pfx-length (all_in (λ y. Pfx q (key y)) S h x m)))
  build-leads N (suc n) q (y ∷ []) f b h k x (inl e) c i = rw e (i.0, λ r. (λ w. w, λ w. w))
  build-leads N (suc n) q (y ∷ z ∷ S) f b h k x m c i =
      let p = common y (z ∷ S) in
      let (d, w) = common-next y z S f x m in
      fork-leads p (λ e. build n (side (p ▹ e) (y ∷ z ∷ S))) d x (pfx-trans w c)
      (build-leads N n (p ▹ d) (side (p ▹ d) (y ∷ z ∷ S)) (side-free _ (y ∷ z ∷ S) f) (side-all _ _ (y ∷ z ∷ S) b) (side-below _ (y ∷ z ∷ S))
      (omega (arith, length-snoc p d, pfx-length (common-most q y (z ∷ S) h)))
      x (in-side _ (y ∷ z ∷ S) x m w) c)
      i
  build-leads N (suc n) q [] f b h k x m c i = elim m [ ]
  build-leads N (suc n) q (y ∷ []) f b h k x (inr m) c i = elim m [ ]

  -- the walk of a label from the root comes to what it comes to from the node that covers it
  pub root-leads : (S : List Node) → Free S → All (λ y. length (key y) ≤ 256) S → All (λ y. 0 < length (key y)) S → (x : Node) → x ∈ S → Pfx (key x) L → Leads (root S) x
  unfolding root
  root-leads S f b nz x m c = ⊎_elim
      (λ e. absurd (omega (arith, ap length e, all_in _ S nz x m)))
      (λ (d, w).
      fork-leads [] (λ e. build 256 (side ([] ▹ e) S)) d x (pfx-trans w c)
      (build-leads 256 256 ([] ▹ d) (side ([] ▹ d) S) (side-free _ S f) (side-all _ _ S b) (side-below _ S) (omega arith) x (in-side _ S x m w) c))
      (pfx-next (pfx-nil (key x)))
