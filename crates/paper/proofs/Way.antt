-- A label's own path in a tree: it gives the tree's root, its lengths rise, and its end shows the leaf that is there, or that none is.
-- Assumes nothing.
use mathlib.Core.Path.{◌≡◌, refl, sym, ap, ◌∙◌, subst}
use mathlib.Core.Logic.{inr, inl, ⊎_elim}
use mathlib.Core.Bool.{Bool, true, false, cond, not}
use mathlib.Core.List.{List, [], ◌∷◌, ◌++◌}
use Prim.Native.Nat.{ℕ, zero, suc, ◌+◌, ◌<◌, ◌≤◌}
use native.Mathlib.Omega.{arith}
use lib.Dec.{leb, ltb}
use lib.ListN.{length, take, get_or}
use lib.Seq.{take_at}
use borrow.Author.Tests.{le-leb, lt-ltb}
use Rattle.paper.specs.Lists.{◌∈◌, All}
use Rattle.paper.specs.Bytes.{Bytes}
use Rattle.paper.specs.Bits.{Bits, Pfx, starts, ◌▹◌}
use Rattle.paper.specs.Strings.{Node, leaf, inner, nothing}
use Rattle.paper.specs.Tree.{key, digest, Tree, empty, one, fork, top, common, side, build}
use Rattle.paper.specs.Path as P
use Rattle.paper.specs.Path.{Step, End, this, other, off, end_node, step_node, path_top, same_bits, last_length, end_at, way_steps, way_end}
use Rattle.paper.specs.Fields.{rise_from, step_field}
use Rattle.paper.proofs.Lists.{all_in, all_left, all_right, and_both, in-append}
use Rattle.paper.proofs.Bits.{pfx-trans, pfx-snoc, pfx-next, pfx-length, length-snoc, pfx-bit, pfx-one-way, pfx-starts, starts-pfx, no-pfx}
use Rattle.paper.proofs.Tree.{Free, common-most, common-next, side-all, side-below, in-side, side-in, side-free, sides-full}
use Rattle.paper.proofs.Fits.{digest-wide}
use Rattle.paper.proofs.Fit.{step-fit}
use Rattle.paper.proofs.Walk.{same_bits-eq, eq-same_bits, fails, no-starts}

-- a prefix is the label's first bits
pub pfx-is-take : {p x : Bits} → Pfx p x → take (length p) x ≡ p
pfx-is-take {p} h = ap (take (length p)) (sym h.eq) ∙ take_at p h.rest (length p) refl

-- ---- the path gives the root

end-node : (L : Bits) (x : Node) → end_node L (end_at L x) ≡ x
unfolding end_at
end-node L (leaf m c e) = by (same_bits m L) refl
  where
    by : (b : Bool) → same_bits m L ≡ b → end_node L (cond b (this c e) (other m c e)) ≡ leaf m c e
    by true q = ap (λ t. leaf t c e) (sym (same_bits-eq m L q))
    by false q = refl
end-node L (inner p l r) = refl
end-node L nothing = refl

step-node : (L p : Bits) (s below : Bytes) (b : Bool) → starts p L ≡ true → get_or L (length p) false ≡ b
    → step_node L (record { length = length p; sibling = s }) below ≡ inner p (cond b s below) (cond b below s)
unfolding step_node
step-node L p s below b e q = rw (pfx-is-take (starts-pfx p L e), q)

pub way-top : (L : Bits) (t : Tree) → path_top L (way_steps L t) (way_end L t) ≡ top t
unfolding path_top way_steps way_end
way-top L empty = refl
way-top L (one x) = end-node L x
way-top L (fork p l r) = by (starts p L) refl (get_or L (length p) false) refl (way-top L l) (way-top L r)
  where
    by : (b : Bool) → starts p L ≡ b → (c : Bool) → get_or L (length p) false ≡ c → path_top L (way_steps L l) (way_end L l) ≡ top l → path_top L (way_steps L r) (way_end L r) ≡ top r
        → path_top L (cond b (cond c (record { length = length p; sibling = digest (top l) } ∷ way_steps L r) (record { length = length p; sibling = digest (top r) } ∷ way_steps L l)) [])
        (cond b (cond c (way_end L r) (way_end L l)) (off p (digest (top l)) (digest (top r))))
        ≡ inner p (digest (top l)) (digest (top r))
    by false e c q hl hr = refl
    by true e true q hl hr = step-node L p _ _ true e q ∙ ap (λ x. inner p (digest (top l)) (digest x)) hr
    by true e false q hl hr = step-node L p _ _ false e q ∙ ap (λ x. inner p (digest x) (digest (top r))) hl

-- ---- trees below the root

-- all labels of the tree begin with q, and each fork parts them further down
pub data Grown : Bits → Tree → Type 0 where
  single : {q : Bits} (x : Node) → Pfx q (key x) → length (key x) ≤ 256 → Grown q (one x)
  forked : {q : Bits} (p : Bits) (l r : Tree) → Pfx q p → Grown (p ▹ false) l → Grown (p ▹ true) r → Grown q (fork p l r)

pub grown-length : (q : Bits) (t : Tree) → Grown q t → length q ≤ 256
grown-length q t (single x h k) = omega (arith, pfx-length h)
grown-length q t (forked p l r h gl gr) = omega (arith, pfx-length h, grown-length (p ▹ false) l gl, length-snoc p false)

pub fork-short : (q p : Bits) (l r : Tree) → Grown (p ▹ false) l → length p ≤ 255
fork-short q p l r g = omega (arith, grown-length (p ▹ false) l g, length-snoc p false)

pub build-grown : (N n : ℕ) (q : Bits) (S : List Node) → Free S → All (λ y. length (key y) ≤ N) S → N ≤ 256 → All (λ y. Pfx q (key y)) S → N < n + length q → ¬ (S ≡ []) → Grown q (build n S)
unfolding build
build-grown N zero q [] f b u h k ne = absurd (ne refl)
build-grown N (suc n) q [] f b u h k ne = absurd (ne refl)
build-grown N zero q (x ∷ S) f b u h k ne = absurd (omega (arith, pfx-length h.0, b.0))
build-grown N (suc n) q (x ∷ []) f b u h k ne = single x h.0 (omega (arith, b.0))
build-grown N (suc n) q (x ∷ y ∷ S) f b u h k ne =
    let p = common x (y ∷ S) in
    let half : (d : Bool) → Grown (p ▹ d) (build n (side (p ▹ d) (x ∷ y ∷ S))) = λ d.
    build-grown N n (p ▹ d) (side (p ▹ d) (x ∷ y ∷ S)) (side-free _ (x ∷ y ∷ S) f) (side-all _ _ (x ∷ y ∷ S) b) u (side-below _ (x ∷ y ∷ S))
    (omega (arith, length-snoc p d, pfx-length (common-most q x (y ∷ S) h))) (sides-full x y S f d) in
    forked p _ _ (common-most q x (y ∷ S) h) (half false) (half true)

-- the side of the label's bit is one on which the label is
bit-side : (L p : Bits) → length p < length L → starts p L ≡ true → Pfx (p ▹ get_or L (length p) false) L
bit-side L p h e = subst (λ t. Pfx (t ▹ get_or L (length p) false) L) (pfx-is-take (starts-pfx p L e)) (pfx-bit L (length p) h)

-- what one step of a label's path is, where the prefix is the label's
pub way-fork : (L p : Bits) (l r : Tree) (b : Bool) → starts p L ≡ true → get_or L (length p) false ≡ b
    → (way_steps L (fork p l r) ≡ record { length = length p; sibling = digest (top (cond b l r)) } ∷ way_steps L (cond b r l)) × (way_end L (fork p l r) ≡ way_end L (cond b r l))
unfolding way_steps way_end
way-fork L p l r true e q = rw (e, q) (refl, refl)
way-fork L p l r false e q = rw (e, q) (refl, refl)

-- and where it is not
way-off : (L p : Bits) (l r : Tree) → starts p L ≡ false → (way_steps L (fork p l r) ≡ []) × (way_end L (fork p l r) ≡ off p (digest (top l)) (digest (top r)))
unfolding way_steps way_end
way-off L p l r e = rw e (refl, refl)

-- the way down as a relation: where the label stands, where it leaves the tree, and each step on its side
pub data Down (L : Bits) : Bits → Tree → List Step → End → Type 0 where
  stands : {q : Bits} (x : Node) → Pfx q (key x) → length (key x) ≤ 256 → Down L q (one x) [] (end_at L x)
  leaves : {q : Bits} (p : Bits) (l r : Tree) → Pfx q p → length p ≤ 255 → ¬ Pfx p L → Down L q (fork p l r) [] (off p (digest (top l)) (digest (top r)))
  goes : {q : Bits} {ss : List Step} {e : End} (p : Bits) (l r : Tree) (b : Bool) → Pfx q p → length p ≤ 255 → Pfx (p ▹ b) L → Down L (p ▹ b) (cond b r l) ss e
      → Down L q (fork p l r) (record { length = length p; sibling = digest (top (cond b l r)) } ∷ ss) e

pub way_down : (L : Bits) → length L ≡ 256 → (q : Bits) (t : Tree) → Grown q t → Down L q t (way_steps L t) (way_end L t)
unfolding way_steps way_end
way_down L n q t (single x h k) = stands x h k
way_down L n q t (forked p l r h gl gr) = by (starts p L) refl (get_or L (length p) false) refl (way_down L n (p ▹ false) l gl) (way_down L n (p ▹ true) r gr)
  where
    short : length p ≤ 255
    short = omega (arith, grown-length (p ▹ false) l gl, length-snoc p false)

    by : (d : Bool) → starts p L ≡ d → (b : Bool) → get_or L (length p) false ≡ b → Down L (p ▹ false) l (way_steps L l) (way_end L l) → Down L (p ▹ true) r (way_steps L r) (way_end L r)
        → Down L q (fork p l r) (way_steps L (fork p l r)) (way_end L (fork p l r))
    by false e b f dl dr = let (x, y) = way-off L p l r e in rw (x, y) (leaves p l r h short (no-pfx p L e))
    by true e true f dl dr =
        let (x, y) = way-fork L p l r true e f in
        rw (x, y) (goes p l r true h short (subst (λ b. Pfx (p ▹ b) L) f (bit-side L p (omega (arith, short)) e)) dr)
    by true e false f dl dr =
        let (x, y) = way-fork L p l r false e f in
        rw (x, y) (goes p l r false h short (subst (λ b. Pfx (p ▹ b) L) f (bit-side L p (omega (arith, short)) e)) dl)

-- ---- the lengths rise, are at most 255, and there are few of them

pub down-rise : {L q : Bits} {t : Tree} {ss : List Step} {e : End} → Down L q t ss e → rise_from (length q) ss ≡ true
unfolding rise_from
down-rise (stands x h k) = refl
down-rise (leaves p l r h k n) = refl
down-rise {q = q} (goes {ss = ss} p l r b h k w d) =
    let low : leb (length q) (length p) ≡ true = le-leb _ _ (pfx-length h) in
    and_both low (subst (λ n. rise_from n ss ≡ true) (length-snoc p b) (down-rise d))

pub down-count : {L q : Bits} {t : Tree} {ss : List Step} {e : End} → length q ≤ 256 → Down L q t ss e → length ss + length q ≤ 256
down-count h (stands x g k) = omega arith
down-count h (leaves p l r g k n) = omega arith
down-count h (goes p l r b g k w d) = omega (arith, pfx-length g, length-snoc p b, down-count (omega (arith, length-snoc p b)) d)

pub down_fits : {L q : Bits} {t : Tree} {ss : List Step} {e : End} → Down L q t ss e → All step_field.Fits ss
down_fits (stands x h k) = tt
down_fits (leaves p l r h k n) = tt
down_fits (goes p l r b h k w d) = (step-fit _ k (digest-wide _), down_fits d)

-- ---- the end

-- the last length of the steps behind a step of length k
unfoldable pub last_from : ℕ → List Step → ℕ
last_from k [] = k
last_from k (s ∷ ss) = last_from s.length ss

pub last-from : (s : Step) (ss : List Step) → last_length (s ∷ ss) ≡ last_from s.length ss
unfolding last_length last_from
last-from s [] = refl
last-from s (t ∷ ss) = last-from t ss

-- the nodes that stand alone in a tree
abbrev pub entries : Tree → List Node
entries empty = []
entries (one x) = x ∷ []
entries (fork p l r) = entries l ++ entries r

abbrev pub IsLeaf : Node → Type 0
IsLeaf (leaf m c e) = Unit {0}
IsLeaf (inner p l r) = ⊥
IsLeaf nothing = ⊥

-- a label that no leaf has is shown absent
pub down-absent : {L q : Bits} {t : Tree} {ss : List Step} {e : End} (k : ℕ) → length q ≡ suc k → Pfx q L → All IsLeaf (entries t) → All (λ x. ¬ (key x ≡ L)) (entries t) → Down L q t ss e
    → P.absent L (last_from k ss) e ≡ true
unfolding P.absent last_from end_at
down-absent {L = L} {q = q} k n h i a (stands (leaf m c d) g l) =
    let e : take (suc k) L ≡ q = ap (λ j. take j L) (sym n) ∙ pfx-is-take h in
    let f : same_bits m L ≡ false = fails (same_bits m L) (λ u. a.0 (same_bits-eq m L u)) in
    let z : not (same_bits m L) ≡ true = rw f refl in
    rw (f, e) (and_both (pfx-starts q m g) z)
down-absent k n h i a (stands (inner p u v) g l) = absurd i.0
down-absent k n h i a (stands nothing g l) = absurd i.0
down-absent {L = L} {q = q} k n h i a (leaves p l r g s m) =
    let e : take (suc k) L ≡ q = ap (λ j. take j L) (sym n) ∙ pfx-is-take h in
    let u : ltb (suc k) (length p) ≡ true = lt-ltb (suc k) (length p) (⊎_elim
    (λ f. absurd (m (rw (← f) h)))
    (λ (b, v). omega (arith, pfx-length v, length-snoc q b))
    (pfx-next g)) in
    let w : starts (take (suc k) L) p ≡ true = rw e (pfx-starts q p g) in
    let z : not (starts p L) ≡ true = rw (no-starts p L m) refl in
    and_both u (and_both w z)
down-absent k n h i a (goes p l r true g s w d) = down-absent (length p) (length-snoc p true) w (all_right _ (entries l) _ i) (all_right _ (entries l) _ a) d
down-absent k n h i a (goes p l r false g s w d) = down-absent (length p) (length-snoc p false) w (all_left _ (entries l) _ i) (all_left _ (entries l) _ a) d

-- ---- a leaf that is there is shown

end-this : (L : Bits) (c : Bytes) (e : ℕ) → end_at L (leaf L c e) ≡ this c e
unfolding end_at
end-this L c e = rw (eq-same_bits L L refl)

-- on the way to a leaf each prefix is the label's
pub build-present : (N n : ℕ) (q L : Bits) (c : Bytes) (e : ℕ) (S : List Node) → length L ≡ 256 → Free S → All (λ y. length (key y) ≤ N) S → All (λ y. Pfx q (key y)) S → N < n + length q
    → leaf L c e ∈ S → way_end L (build n S) ≡ this c e
unfolding build way_end
build-present N zero q L c e S z f b h k m =
    absurd (omega (arith, all_in (λ y. length (key y) ≤ N) S b (leaf L c e) m, pfx-length (all_in (λ y. Pfx q (key y)) S h (leaf L c e) m)))
build-present N (suc n) q L c e (y ∷ []) z f b h k (inl w) = ap (end_at L) (sym w) ∙ end-this L c e
build-present N (suc n) q L c e (x ∷ y ∷ S) z f b h k m =
    let p = common x (y ∷ S) in
    let T = x ∷ y ∷ S in
    let (d, w) = common-next x y S f (leaf L c e) m in
    let o : starts p L ≡ true = pfx-starts p L (pfx-trans (pfx-snoc p d) w) in
    let i : length p < length L = omega (arith, pfx-length w, length-snoc p d) in
    let v : get_or L (length p) false ≡ d = pfx-one-way p _ d (bit-side L p i o) w in
    let next : way_end L (build n (side (p ▹ d) T)) ≡ this c e =
    build-present N n (p ▹ d) L c e (side (p ▹ d) T) z (side-free _ T f) (side-all _ _ T b) (side-below _ T) (omega (arith, length-snoc p d, pfx-length (common-most q x (y ∷ S) h))) (in-side _ T (leaf L c e) m w) in
    (way-fork L p (build n (side (p ▹ false) T)) (build n (side (p ▹ true) T)) d o v).1 ∙ pick d next
  where
    pick : (d : Bool) → way_end L (build n (side (common x (y ∷ S) ▹ d) (x ∷ y ∷ S))) ≡ this c e
        → way_end L (cond d (build n (side (common x (y ∷ S) ▹ true) (x ∷ y ∷ S))) (build n (side (common x (y ∷ S) ▹ false) (x ∷ y ∷ S)))) ≡ this c e
    pick true g = g
    pick false g = g
build-present N (suc n) q L c e [] z f b h k m = elim m [ ]
build-present N (suc n) q L c e (y ∷ []) z f b h k (inr m) = elim m [ ]

-- what stands alone in a tree stood in the list
pub build-entries : (n : ℕ) (S : List Node) (x : Node) → x ∈ entries (build n S) → x ∈ S
unfolding build
build-entries zero S x m = absurd m
build-entries (suc n) [] x m = absurd m
build-entries (suc n) (y ∷ []) x m = m
build-entries (suc n) (y ∷ z ∷ S) x m =
    let p = common y (z ∷ S) in
    ⊎_elim
    (λ k. side-in _ (y ∷ z ∷ S) x (build-entries n (side (p ▹ false) (y ∷ z ∷ S)) x k))
    (λ k. side-in _ (y ∷ z ∷ S) x (build-entries n (side (p ▹ true) (y ∷ z ∷ S)) x k))
    (in-append (entries (build n (side (p ▹ false) (y ∷ z ∷ S)))) _ x m)
