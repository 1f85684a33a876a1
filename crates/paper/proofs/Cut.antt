-- The largest subtrees with no new leaf: with the new leaves they build the new tree, and without them the old one. Assumes nothing.
use mathlib.Core.Path.{◌≡◌, refl, sym, ap, ap₂, ◌∙◌, subst}
use mathlib.Core.Bool.{Bool, true, false, cond, not, ◌||◌}
use mathlib.Core.List.{List, [], ◌∷◌, ◌++◌, append-nil}
use Prim.Native.Nat.{ℕ, zero, suc, ◌+◌, ◌<◌, ◌≤◌}
use native.Mathlib.Omega.{arith}
use lib.Dec.{eqb}
use lib.ListN.{length, length-append}
use Rattle.paper.specs.Lists.{All, keep}
use Rattle.paper.specs.Bits.{Bits, Pfx, ◌▹◌}
use Rattle.paper.specs.Strings.{Node, leaf, inner, nothing}
use Rattle.paper.specs.Tree.{key, digest, Tree, empty, one, fork, top, build}
use Rattle.paper.specs.Audit.{AuditRecord, unchanged, opened, fresh, record_key, olds, news, in_order, before?}
use Rattle.paper.specs.Write.{has_new, subtrees}
use Rattle.paper.proofs.Lists.{all_in, in-all, all_left, all_right, all_append, and_left, and_right, and_both, or_left, or_right, keep_append, keep-every}
use Rattle.paper.proofs.Bits.{pfx-trans, pfx-snoc, pfx-length, length-snoc}
use Rattle.paper.proofs.Order.{before-test}
use Rattle.paper.proofs.Way.{Grown, single, forked, entries, IsLeaf, grown-length}
use Rattle.paper.proofs.Rebuild.{Beyond, build-parts, grown-below, grown-some, rebuild}

pub news-append : (A B : List AuditRecord) → news (A ++ B) ≡ news A ++ news B
unfolding news
news-append [] B = refl
news-append (unchanged m c e ∷ A) B = ap (λ l. leaf m c e ∷ l) (news-append A B)
news-append (opened p l r ∷ A) B = ap (λ t. inner p l r ∷ t) (news-append A B)
news-append (fresh m c e ∷ A) B = ap (λ l. leaf m c e ∷ l) (news-append A B)

pub olds-append : (A B : List AuditRecord) → olds (A ++ B) ≡ olds A ++ olds B
unfolding olds
olds-append [] B = refl
olds-append (unchanged m c e ∷ A) B = ap (λ l. leaf m c e ∷ l) (olds-append A B)
olds-append (opened p l r ∷ A) B = ap (λ t. inner p l r ∷ t) (olds-append A B)
olds-append (fresh m c e ∷ A) B = olds-append A B

module _ (t : ℕ) where
  -- ---- the new tree, with subtrees that have no new leaf opened

  unfoldable pub cut : Tree → Tree
  cut empty = empty
  cut (one x) = one x
  cut (fork p l r) = cond (has_new t l || has_new t r) (fork p (cut l) (cut r)) (one (inner p (digest (top l)) (digest (top r))))

  pub cut-top : (T : Tree) → top (cut T) ≡ top T
  unfolding cut
  cut-top empty = refl
  cut-top (one x) = refl
  cut-top (fork p l r) = by (has_new t l || has_new t r) (cut-top l) (cut-top r)
    where
      by : (b : Bool) → top (cut l) ≡ top l → top (cut r) ≡ top r → top (cond b (fork p (cut l) (cut r)) (one (inner p (digest (top l)) (digest (top r))))) ≡ inner p (digest (top l)) (digest (top r))
      by true x y = ap₂ (λ u v. inner p (digest u) (digest v)) x y
      by false x y = refl

  pub cut-grown : (q : Bits) (T : Tree) → Grown q T → Grown q (cut T)
  unfolding cut
  cut-grown q T (single x h k) = single x h k
  cut-grown q T (forked p l r h gl gr) = by (has_new t l || has_new t r) (cut-grown (p ▹ false) l gl) (cut-grown (p ▹ true) r gr)
    where
      by : (b : Bool) → Grown (p ▹ false) (cut l) → Grown (p ▹ true) (cut r) → Grown q (cond b (fork p (cut l) (cut r)) (one (inner p (digest (top l)) (digest (top r)))))
      by true x y = forked p (cut l) (cut r) h x y
      by false x y = single (inner p (digest (top l)) (digest (top r))) h (omega (arith, grown-length (p ▹ false) l gl, length-snoc p false))

  -- the records are what stands alone in it
  pub cut-entries : (q : Bits) (T : Tree) → Grown q T → All IsLeaf (entries T) → entries (cut T) ≡ news (subtrees t T)
  unfolding cut subtrees news
  cut-entries q T (single (leaf m c e) h k) i = by (eqb e t)
    where
      by : (b : Bool) → leaf m c e ∷ [] ≡ news (cond b (fresh m c e) (unchanged m c e) ∷ [])
      by true = refl
      by false = refl
  cut-entries q T (single (inner p l r) h k) i = refl
  cut-entries q T (single nothing h k) i = absurd i.0
  cut-entries q T (forked p l r h gl gr) i =
      by (has_new t l || has_new t r) (cut-entries (p ▹ false) l gl (all_left IsLeaf (entries l) (entries r) i)) (cut-entries (p ▹ true) r gr (all_right IsLeaf (entries l) (entries r) i))
    where
      by : (b : Bool) → entries (cut l) ≡ news (subtrees t l) → entries (cut r) ≡ news (subtrees t r)
          → entries (cond b (fork p (cut l) (cut r)) (one (inner p (digest (top l)) (digest (top r))))) ≡ news (cond b (subtrees t l ++ subtrees t r) (opened p (digest (top l)) (digest (top r)) ∷ []))
      by true x y = ap₂ (λ u v. u ++ v) x y ∙ sym (news-append (subtrees t l) (subtrees t r))
      by false x y = refl

  pub news-builds : (n : ℕ) (q : Bits) (T : Tree) → Grown q T → All IsLeaf (entries T) → 256 < n + length q → top (build n (news (subtrees t T))) ≡ top T
  news-builds n q T g i k = ap (λ S. top (build n S)) (sym (cut-entries q T g i)) ∙ ap top (rebuild n q (cut T) (cut-grown q T g) k) ∙ cut-top T

  -- ---- the old tree

  -- a leaf that is not new
  unfoldable pub is_old : Node → Bool
  is_old (leaf m c e) = not (eqb e t)
  is_old (inner p l r) = true
  is_old nothing = true

  none-new : (q : Bits) (T : Tree) → Grown q T → All IsLeaf (entries T) → has_new t T ≡ false → All (λ x. is_old x ≡ true) (entries T)
  unfolding has_new is_old
  none-new q T (single (leaf m c e) h k) i n = (rw n refl, tt)
  none-new q T (single (inner p l r) h k) i n = absurd i.0
  none-new q T (single nothing h k) i n = absurd i.0
  none-new q T (forked p l r h gl gr) i n =
      all_append _ (entries l) (entries r)
      (none-new (p ▹ false) l gl (all_left IsLeaf (entries l) (entries r) i) (or_left _ _ n))
      (none-new (p ▹ true) r gr (all_right IsLeaf (entries l) (entries r) i) (or_right (has_new t l) _ n))

  -- two lists below q that are both empty, or whose trees have one top
  pub data Match (q : Bits) (A B : List Node) : Type 0 where
    bare : A ≡ [] → B ≡ [] → Match q A B
    full : (x : Node) (S : List Node) → A ≡ x ∷ S → (y : Node) (R : List Node) → B ≡ y ∷ R → All (λ z. Pfx q (key z)) A → All (λ z. Pfx q (key z)) B
        → ((n : ℕ) → 256 < n + length q → top (build n A) ≡ top (build n B)) → Match q A B

  -- from below a longer prefix to below a shorter
  match-up : (q p : Bits) (b : Bool) (A B : List Node) → Pfx q p → Match (p ▹ b) A B → Match q A B
  match-up q p b A B h (bare x y) = bare x y
  match-up q p b A B h (full x S u y R v a c f) =
      full x S u y R v
      (in-all _ A (λ z m. pfx-trans h (pfx-trans (pfx-snoc p b) (all_in _ A a z m))))
      (in-all _ B (λ z m. pfx-trans h (pfx-trans (pfx-snoc p b) (all_in _ B c z m))))
      (λ n k. f n (omega (arith, pfx-length h, length-snoc p b)))

  -- two matches, one on each side of p
  match-parts : (q p : Bits) (A B A' B' : List Node) → Pfx q p → length p ≤ 255 → Match (p ▹ false) A B → Match (p ▹ true) A' B' → Match q (A ++ A') (B ++ B')
  match-parts q p A B A' B' h k (bare x y) m = rw (x, y) (match-up q p true A' B' h m)
  match-parts q p A B A' B' h k (full x S u y R v a c f) (bare x' y') =
      rw (x', y') (subst (λ Z. Match q Z (B ++ [])) (sym (append-nil A)) (subst (λ Z. Match q A Z) (sym (append-nil B)) (match-up q p false A B h (full x S u y R v a c f))))
  match-parts q p A B A' B' h k (full x S u y R v a c f) (full x' S' u' y' R' v' a' c' f') =
      full x (S ++ A') (ap (λ l. l ++ A') u) y (R ++ B') (ap (λ l. l ++ B') v)
      (all_append _ A A' (in-all _ A (λ z m. up false z (all_in _ A a z m))) (in-all _ A' (λ z m. up true z (all_in _ A' a' z m))))
      (all_append _ B B' (in-all _ B (λ z m. up false z (all_in _ B c z m))) (in-all _ B' (λ z m. up true z (all_in _ B' c' z m))))
      tops
    where
      up : (b : Bool) (z : Node) → Pfx (p ▹ b) (key z) → Pfx q (key z)
      up b z w = pfx-trans h (pfx-trans (pfx-snoc p b) w)

      parts : (n : ℕ) (x : Node) (S A : List Node) (x' : Node) (S' A' : List Node) → A ≡ x ∷ S → A' ≡ x' ∷ S' → Beyond p false A → Beyond p true A'
          → build (suc n) (A ++ A') ≡ fork p (build n A) (build n A')
      parts n x S A x' S' A' u u' a a' =
          ap₂ (λ l r. build (suc n) (l ++ r)) u u' ∙ build-parts n p x S x' S' (subst (λ l. Beyond p false l) u a) (subst (λ l. Beyond p true l) u' a')
          ∙ ap₂ (λ l r. fork p (build n l) (build n r)) (sym u) (sym u')

      tops : (n : ℕ) → 256 < n + length q → top (build n (A ++ A')) ≡ top (build n (B ++ B'))
      tops zero l = absurd (omega (arith, pfx-length h))
      tops (suc n) l =
          ap top (parts n x S A x' S' A' u u' a a')
          ∙ ap₂ (λ c d. inner p (digest c) (digest d)) (f n (omega (arith, pfx-length h, length-snoc p false))) (f' n (omega (arith, pfx-length h, length-snoc p true)))
          ∙ sym (ap top (parts n y R B y' R' B' v v' c c'))

  pub olds-match : (q : Bits) (T : Tree) → Grown q T → All IsLeaf (entries T) → Match q (olds (subtrees t T)) (keep is_old (entries T))
  unfolding subtrees olds is_old keep has_new build
  olds-match q T (single (leaf m c e) h k) i = by (eqb e t)
    where
      by : (b : Bool) → Match q (olds (cond b (fresh m c e) (unchanged m c e) ∷ [])) (cond (not b) (leaf m c e ∷ []) [])
      by true = bare refl refl
      by false = full (leaf m c e) [] refl (leaf m c e) [] refl (h, tt) (h, tt) (λ n l. refl)
  olds-match q T (single (inner p l r) h k) i = absurd i.0
  olds-match q T (single nothing h k) i = absurd i.0
  olds-match q T (forked p l r h gl gr) i =
      subst (λ B. Match q (olds (subtrees t (fork p l r))) B) (sym (keep_append is_old (entries l) (entries r))) (by (has_new t l || has_new t r) refl
      (olds-match (p ▹ false) l gl (all_left IsLeaf (entries l) (entries r) i)) (olds-match (p ▹ true) r gr (all_right IsLeaf (entries l) (entries r) i)))
    where
      short : length p ≤ 255
      short = omega (arith, grown-length (p ▹ false) l gl, length-snoc p false)

      unopened : has_new t (fork p l r) ≡ false → Match q (inner p (digest (top l)) (digest (top r)) ∷ []) (keep is_old (entries l) ++ keep is_old (entries r))
      unopened n =
          let T' = fork p l r in
          let g : Grown q T' = forked p l r h gl gr in
          let e : keep is_old (entries l) ++ keep is_old (entries r) ≡ entries T' = sym (keep_append is_old (entries l) (entries r)) ∙ keep-every is_old (entries T') (none-new q T' g i n) in
          let (y, R, v) = grown-some q T' g in
          subst (λ B. Match q (inner p (digest (top l)) (digest (top r)) ∷ []) B) (sym e)
          (full _ [] refl y R v (h, tt) (grown-below q T' g) (λ n l. one-top n l ∙ sym (ap top (rebuild n q T' g l))))
        where
          one-top : (n : ℕ) → 256 < n + length q → top (build n (inner p (digest (top l)) (digest (top r)) ∷ [])) ≡ inner p (digest (top l)) (digest (top r))
          one-top zero k = absurd (omega (arith, pfx-length h, short))
          one-top (suc n) k = refl

      by : (b : Bool) → (has_new t l || has_new t r) ≡ b → Match (p ▹ false) (olds (subtrees t l)) (keep is_old (entries l)) → Match (p ▹ true) (olds (subtrees t r)) (keep is_old (entries r))
          → Match q (olds (cond b (subtrees t l ++ subtrees t r) (opened p (digest (top l)) (digest (top r)) ∷ []))) (keep is_old (entries l) ++ keep is_old (entries r))
      by true e x y = subst (λ A. Match q A (keep is_old (entries l) ++ keep is_old (entries r))) (sym (olds-append (subtrees t l) (subtrees t r))) (match-parts q p _ _ _ _ h short x y)
      by false e x y = unopened e

  -- ---- the records' keys, order, sizes and number

  pub cut-keys : (q : Bits) (T : Tree) → Grown q T → All (λ x. Pfx q (record_key x)) (subtrees t T)
  unfolding subtrees
  cut-keys q T (single (leaf m c e) h k) = by (eqb e t)
    where
      by : (b : Bool) → All (λ x. Pfx q (record_key x)) (cond b (fresh m c e) (unchanged m c e) ∷ [])
      by true = (h, tt)
      by false = (h, tt)
  cut-keys q T (single (inner p l r) h k) = (h, tt)
  cut-keys q T (single nothing h k) = tt
  cut-keys q T (forked p l r h gl gr) = by (has_new t l || has_new t r) (cut-keys (p ▹ false) l gl) (cut-keys (p ▹ true) r gr)
    where
      up : (b : Bool) (R : List AuditRecord) → All (λ x. Pfx (p ▹ b) (record_key x)) R → All (λ x. Pfx q (record_key x)) R
      up b R a = in-all _ R (λ x m. pfx-trans h (pfx-trans (pfx-snoc p b) (all_in _ R a x m)))

      by : (b : Bool) → All (λ x. Pfx (p ▹ false) (record_key x)) (subtrees t l) → All (λ x. Pfx (p ▹ true) (record_key x)) (subtrees t r)
          → All (λ x. Pfx q (record_key x)) (cond b (subtrees t l ++ subtrees t r) (opened p (digest (top l)) (digest (top r)) ∷ []))
      by true x y = all_append _ (subtrees t l) (subtrees t r) (up false (subtrees t l) x) (up true (subtrees t r) y)
      by false x y = (h, tt)

-- two parts in order, one on each side of p
pub order-parts : (p : Bits) (A B : List AuditRecord) → All (λ x. Pfx (p ▹ false) (record_key x)) A → All (λ x. Pfx (p ▹ true) (record_key x)) B → in_order A ≡ true → in_order B ≡ true
    → in_order (A ++ B) ≡ true
unfolding in_order
order-parts p [] B a b x y = y
order-parts p (u ∷ []) [] a b x y = refl
order-parts p (u ∷ []) (v ∷ B) a b x y =
    let k : before? (record_key u) (record_key v) ≡ true = before-test _ _ (record { at = p; low = a.0; high = b.0 }) in
    and_both k y
order-parts p (u ∷ w ∷ A) B a b x y =
    let k : before? (record_key u) (record_key w) ≡ true = and_left _ _ x in
    and_both k (order-parts p (w ∷ A) B a.1 b (and_right (before? (record_key u) (record_key w)) _ x) y)

module _ (t : ℕ) where
  pub cut-order : (q : Bits) (T : Tree) → Grown q T → in_order (subtrees t T) ≡ true
  unfolding subtrees in_order
  cut-order q T (single (leaf m c e) h k) = refl
  cut-order q T (single (inner p l r) h k) = refl
  cut-order q T (single nothing h k) = refl
  cut-order q T (forked p l r h gl gr) = by (has_new t l || has_new t r) (cut-order (p ▹ false) l gl) (cut-order (p ▹ true) r gr)
    where
      by : (b : Bool) → in_order (subtrees t l) ≡ true → in_order (subtrees t r) ≡ true → in_order (cond b (subtrees t l ++ subtrees t r) (opened p (digest (top l)) (digest (top r)) ∷ [])) ≡ true
      by true x y = order-parts p (subtrees t l) (subtrees t r) (cut-keys t (p ▹ false) l gl) (cut-keys t (p ▹ true) r gr) x y
      by false x y = refl

  -- there are no more records than leaves
  pub cut-few : (q : Bits) (T : Tree) → Grown q T → length (subtrees t T) ≤ length (entries T)
  unfolding subtrees
  cut-few q T (single (leaf m c e) h k) = omega arith
  cut-few q T (single (inner p l r) h k) = omega arith
  cut-few q T (single nothing h k) = omega arith
  cut-few q T (forked p l r h gl gr) = by (has_new t l || has_new t r) (cut-few (p ▹ false) l gl) (cut-few (p ▹ true) r gr)
    where
      by : (b : Bool) → length (subtrees t l) ≤ length (entries l) → length (subtrees t r) ≤ length (entries r)
          → length (cond b (subtrees t l ++ subtrees t r) (opened p (digest (top l)) (digest (top r)) ∷ [])) ≤ length (entries l ++ entries r)
      by true x y = omega (arith, length-append (subtrees t l) (subtrees t r), length-append (entries l) (entries r))
      by false x y =
          let (u, S, e) = grown-some (p ▹ false) l gl in
          omega (arith, ap length e, length-append (entries l) (entries r))
