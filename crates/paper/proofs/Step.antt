-- One audit list that builds both roots: what was there is kept, and what is new bears the new epoch. Assumes nothing.
use mathlib.Core.Path.{◌≡◌, refl, ap, ◌∙◌, subst}
use mathlib.Core.Logic.{◌⊎◌, inl, inr, ⊎_elim}
use mathlib.Core.Bool.{true}
use mathlib.Core.List.{List, [], ◌∷◌}
use Prim.Native.Nat.{ℕ, ◌<◌, ◌≤◌}
use native.Mathlib.Omega.{arith}
use lib.ListN.{length}
use Rattle.paper.specs.Lists.{◌∈◌, All}
use Rattle.paper.specs.Bytes.{Bytes}
use Rattle.paper.specs.Bits.{Bits, Pfx, starts}
use Rattle.paper.specs.Strings.{Node, leaf, inner}
use Rattle.paper.specs.Tree.{key, digest, nodes, root, root_digest}
use Rattle.paper.specs.Audit.{AuditRecord, unchanged, opened, fresh, olds, news, record_key, in_order, before?}
use Rattle.paper.proofs.Lists.{all_in, some-or-all, true-or-false, and_left, and_right}
use Rattle.paper.proofs.Bits.{pfx-full, starts-pfx, no-pfx}
use Rattle.paper.proofs.Tree.{Free}
use Rattle.paper.proofs.Order.{Rising, rising-free, test-before}
use Rattle.paper.proofs.Walk.{Found, absent, present, look, look-leaf, World, Walk, ends, Same, walk-unique}
use Rattle.paper.proofs.TreeWalk.{Uncovered, root-gone, root-leads}

-- what is asked of one record: leaves are labels, opened nodes have a prefix below the root, new leaves bear the new epoch
abbrev pub RecordOk : ℕ → AuditRecord → Type 0
RecordOk new (unchanged m c e) = length m ≡ 256
RecordOk new (opened p l r) = (0 < length p) × (length p ≤ 255)
RecordOk new (fresh m c e) = (length m ≡ 256) × (e ≡ new)

news_cons : (x : AuditRecord) (R : List AuditRecord) → (y : Node) × (key y ≡ record_key x) × (news (x ∷ R) ≡ y ∷ news R)
unfolding news
news_cons (unchanged m c e) R = (leaf m c e, refl, refl)
news_cons (opened p l r) R = (inner p l r, refl, refl)
news_cons (fresh m c e) R = (leaf m c e, refl, refl)

-- the rule of order, of the nodes of the new tree
pub order-rising : (R : List AuditRecord) → in_order R ≡ true → Rising (news R)
unfolding in_order news
order-rising [] e = tt
order-rising (unchanged m c d ∷ []) e = tt
order-rising (opened p l r ∷ []) e = tt
order-rising (fresh m c d ∷ []) e = tt
order-rising (x ∷ y ∷ R) e =
    let (u, ku, eu) = news_cons x (y ∷ R) in
    let (v, kv, ev) = news_cons y R in
    let b = test-before (record_key x) (record_key y) (and_left _ _ e) in
    let h : Rising (v ∷ news R) = rw (← ev) (order-rising (y ∷ R) (and_right (before? (record_key x) (record_key y)) _ e)) in
    rw (eu, ev) (rw (ku, kv) b, h)

pub olds-all : (P : Node → Type 0) (R : List AuditRecord) → All P (news R) → All P (olds R)
unfolding olds news
olds-all P [] h = tt
olds-all P (unchanged m c e ∷ R) h = (h.0, olds-all P R h.1)
olds-all P (opened p l r ∷ R) h = (h.0, olds-all P R h.1)
olds-all P (fresh m c e ∷ R) h = olds-all P R h.1

pub olds-free : (R : List AuditRecord) → Free (news R) → Free (olds R)
unfolding olds news
olds-free [] h = tt
olds-free (unchanged m c e ∷ R) h = (olds-all _ R h.0, olds-free R h.1)
olds-free (opened p l r ∷ R) h = (olds-all _ R h.0, olds-free R h.1)
olds-free (fresh m c e ∷ R) h = olds-free R h.1

pub news-size : (new : ℕ) (R : List AuditRecord) → All (RecordOk new) R → All (λ y. length (key y) ≤ 256) (news R) × All (λ y. 0 < length (key y)) (news R)
unfolding news
news-size new [] h = (tt, tt)
news-size new (unchanged m c e ∷ R) h = let (a, b) = news-size new R h.1 in ((omega arith, a), (omega arith, b))
news-size new (opened p l r ∷ R) h = let (a, b) = news-size new R h.1 in ((omega arith, a), (omega arith, b))
news-size new (fresh m c e ∷ R) h = let (a, b) = news-size new R h.1 in ((omega arith, a), (omega arith, b))

-- what the new tree has is in the old one, or a new leaf
from-news : (new : ℕ) (R : List AuditRecord) → All (RecordOk new) R → (x : Node) → x ∈ news R → (x ∈ olds R) ⊎ ((m : Bits) × (c : Bytes) × (x ≡ leaf m c new) × (length m ≡ 256))
unfolding olds news
from-news new (unchanged m c e ∷ R) h x (inl q) = inl (inl q)
from-news new (unchanged m c e ∷ R) h x (inr k) = ⊎_elim (λ w. inl (inr w)) inr (from-news new R h.1 x k)
from-news new (opened p l r ∷ R) h x (inl q) = inl (inl q)
from-news new (opened p l r ∷ R) h x (inr k) = ⊎_elim (λ w. inl (inr w)) inr (from-news new R h.1 x k)
from-news new (fresh m c e ∷ R) h x (inl q) = inr (m, c, q ∙ ap (leaf m c) h.0.1, h.0.0)
from-news new (fresh m c e ∷ R) h x (inr k) = from-news new R h.1 x k
from-news new [] h x m = elim m [ ]

to-news : (R : List AuditRecord) (x : Node) → x ∈ olds R → x ∈ news R
unfolding olds news
to-news (unchanged m c e ∷ R) x (inl q) = inl q
to-news (unchanged m c e ∷ R) x (inr k) = inr (to-news R x k)
to-news (opened p l r ∷ R) x (inl q) = inl q
to-news (opened p l r ∷ R) x (inr k) = inr (to-news R x k)
to-news (fresh m c e ∷ R) x k = inr (to-news R x k)
to-news [] x k = elim k [ ]

cover : (L : Bits) (S : List Node) → ((x : Node) × (x ∈ S) × Pfx (key x) L) ⊎ Uncovered L S
cover L S = some-or-all _ _ (λ x. ⊎_elim (λ e. inl (starts-pfx (key x) L e)) (λ e. inr (no-pfx (key x) L e)) (true-or-false (starts (key x) L))) S

-- what the walk at the next epoch may be: the same, or a leaf of the new epoch where there was none
pub data Next (new : ℕ) : Found → Found → Type 0 where
  same : {r : Found} → Next new r r
  added : {c : Bytes} → Next new absent (present c new)

-- a list that the rules accept, whose trees' nodes were all hashed
pub record Listed (W : World) (new : ℕ) (R : List AuditRecord) : Type 0 where
  pub each : All (RecordOk new) R
  pub order : in_order R ≡ true
  pub in-old : All W.In (nodes (root (olds R)))
  pub in-new : All W.In (nodes (root (news R)))

module _ (W : World) (L : Bits) (size : length L ≡ 256) (new : ℕ) (R : List AuditRecord) (ok : Listed W new R) where
  pub audit-step : (r : Found) → Walk W L (root_digest (olds R)) r → (s : Found) × Next new r s × Walk W L (root_digest (news R)) s
  audit-step r w = by (cover L (olds R)) (cover L (news R))
    where
      free : Free (news R)
      free = rising-free (news R) (order-rising R ok.order)

      sizes : All (λ y. length (key y) ≤ 256) (news R) × All (λ y. 0 < length (key y)) (news R)
      sizes = news-size new R ok.each

      leads-new : (x : Node) → x ∈ news R → Pfx (key x) L → W.In x × Same W L (root_digest (news R)) (digest x)
      leads-new x m c = root-leads W L (news R) free sizes.0 sizes.1 x m c ok.in-new

      leads-old : (x : Node) → x ∈ olds R → Pfx (key x) L → W.In x × Same W L (root_digest (olds R)) (digest x)
      leads-old x m c = root-leads W L (olds R) (olds-free R free) (olds-all _ R sizes.0) (olds-all _ R sizes.1) x m c ok.in-old

      by : ((x : Node) × (x ∈ olds R) × Pfx (key x) L) ⊎ Uncovered L (olds R)
          → ((x : Node) × (x ∈ news R) × Pfx (key x) L) ⊎ Uncovered L (news R)
          → (s : Found) × Next new r s × Walk W L (root_digest (news R)) s
      by (inl (x, m, c)) d = (r, same, ((leads-new x (to-news R x m) c).1 r).1 (((leads-old x m c).1 r).0 w))
      by (inr u) (inr v) =
          (absent, subst (λ t. Next new t absent) (walk-unique W L (root-gone W L (olds R) u ok.in-old) w) same, root-gone W L (news R) v ok.in-new)
      by (inr u) (inl (x, m, c)) = ⊎_elim
          (λ k. absurd (all_in _ (olds R) u x k c))
          (λ (y, z, e, k).
          let yL : y ≡ L = pfx-full (subst (λ t. Pfx (key t) L) e c) (omega arith) in
          let xL : x ≡ leaf L z new = e ∙ ap (λ t. leaf t z new) yL in (
            present z new,
            subst (λ t. Next new t (present z new)) (walk-unique W L (root-gone W L (olds R) u ok.in-old) w) added,
            ((leads-new x m c).1 (present z new)).1 (ends x (leads-new x m c).0 refl (ap (look L) xL ∙ look-leaf L z new)),
          ))
          (from-news new R ok.each x m)
