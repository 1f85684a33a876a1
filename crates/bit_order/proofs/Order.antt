-- Of a list in bit order all keys share what its first and its last share, and go on past that. Assumes nothing.
use mathlib.Core.Path.{◌≡◌, refl, sym, ap, ◌∙◌, subst}
use mathlib.Core.Logic.{inl, inr, ⊎_elim}
use mathlib.Core.Bool.{Bool, true, false, ◌&&◌}
use mathlib.Core.List.{List, [], ◌∷◌, ◌++◌}
use Prim.Native.Nat.{◌<◌}
use native.Mathlib.Omega.{arith}
use lib.ListN.{length}
use Rattle.paper.specs.Lists.{◌∈◌, All}
use Rattle.paper.specs.Bits.{Bits, Pfx, ◌▹◌, lcp}
use Rattle.paper.specs.Strings.{Node}
use Rattle.paper.specs.Tree.{key}
use Rattle.paper.specs.Audit.{before?, in_order, record_key, AuditRecord}
use Rattle.paper.specs.Level.{rising}
use Rattle.paper.proofs.Lists.{and_left, and_right, and_both, all_in, in-all, all_left, all_right, all_append}
use Rattle.paper.proofs.Bits.{pfx-refl, pfx-trans, pfx-snoc, pfx-next, pfx-length, pfx-compare, pfx-one-way, length-snoc, lcp-left, lcp-right}
use Rattle.paper.proofs.Order.{Before, before-apart, before-trans, test-before}

-- not both ways round
pub before-once : (x y : Bits) → Before x y → Before y x → ⊥
before-once x y b c = (before-apart x x (before-trans x y x b c)).0 (pfx-refl x)

-- what lies between two has their common prefix
between : (x y z : Bits) → Before x y → Before y z → Pfx (lcp x z) y
between x y z b c = ⊎_elim
    (λ h. pfx-trans h q)
    (λ h. ⊎_elim
    (λ e. rw (← e) q)
    (λ (d, w). absurd (back (subst (λ t. Pfx (b.at ▹ t) z) (pfx-one-way b.at d false (pfx-trans w (lcp-left x z)) b.low) (pfx-trans w (lcp-right x z)))))
    (pfx-next h))
    (pfx-compare (lcp x z) b.at x (lcp-left x z) (pfx-trans (pfx-snoc b.at false) b.low))
  where
    q : Pfx b.at y
    q = pfx-trans (pfx-snoc b.at true) b.high

    back : Pfx (b.at ▹ false) z → ⊥
    back h = before-once y z c (record { at = b.at; low = h; high = b.high })

module _ {A : Type 0} (key : A → Bits) where
  -- each stands before all behind it
  abbrev pub Ordered : List A → Type 0
  Ordered [] = Unit {0}
  Ordered (x ∷ l) = All (λ y. Before (key x) (key y)) l × Ordered l

  pub ordered-right : (l m : List A) → Ordered (l ++ m) → Ordered m
  ordered-right [] m h = h
  ordered-right (x ∷ l) m h = ordered-right l m h.1

  to_last : (l : List A) (z : A) → Ordered (l ++ (z ∷ [])) → All (λ y. Before (key y) (key z)) l
  to_last [] z h = tt
  to_last (x ∷ l) z h = ((all_right (λ y. Before (key x) (key y)) l (z ∷ []) h.0).0, to_last l z h.1)

  -- all share what the first and the last share
  pub ends-share : (x : A) (l : List A) (z : A) → Ordered (x ∷ (l ++ (z ∷ []))) → All (λ y. Pfx (lcp (key x) (key z)) (key y)) (x ∷ (l ++ (z ∷ [])))
  ends-share x l z h = (
    lcp-left (key x) (key z),
    all_append _ l (z ∷ [])
        (in-all _ l (λ y m. between (key x) (key y) (key z) (all_in _ l (all_left _ l (z ∷ []) h.0) y m) (all_in _ l (to_last l z h.1) y m)))
        (lcp-right (key x) (key z), tt),
  )

  -- and go on past it
  pub ends-longer : (x : A) (l : List A) (z : A) → Ordered (x ∷ (l ++ (z ∷ []))) → All (λ y. length (lcp (key x) (key z)) < length (key y)) (x ∷ (l ++ (z ∷ [])))
  ends-longer x l z h = in-all _ (x ∷ (l ++ (z ∷ []))) (λ y m. ⊎_elim
      (λ e. absurd (no-end y m e))
      (λ (d, w). omega (arith, pfx-length w, length-snoc p d))
      (pfx-next (all_in _ (x ∷ (l ++ (z ∷ []))) (ends-share x l z h) y m)))
    where
      p : Bits
      p = lcp (key x) (key z)

      first-last : Before (key x) (key z)
      first-last = (all_right (λ y. Before (key x) (key y)) l (z ∷ []) h.0).0

      no-end : (y : A) → y ∈ (x ∷ (l ++ (z ∷ []))) → p ≡ key y → ⊥
      no-end y (inl q) e = (before-apart (key x) (key z) first-last).0 (rw (← (ap key q), ← e) (lcp-right (key x) (key z)))
      no-end y (inr k) e = (before-apart (key x) (key y) (all_in _ (l ++ (z ∷ [])) h.0 y k)).1 (rw (← e) (lcp-left (key x) (key z)))

  -- behind one with the bit 1 all that share the prefix have it
  pub ones : (p : Bits) (x : A) (l : List A) → Ordered (x ∷ l) → Pfx (p ▹ true) (key x) → All (λ y. (d : Bool) × Pfx (p ▹ d) (key y)) l → All (λ y. Pfx (p ▹ true) (key y)) l
  ones p x l h w k = in-all _ l (λ y m. pick y (all_in _ l h.0 y m) (all_in _ l k y m).0 (all_in _ l k y m).1)
    where
      pick : (y : A) → Before (key x) (key y) → (d : Bool) → Pfx (p ▹ d) (key y) → Pfx (p ▹ true) (key y)
      pick y b true v = v
      pick y b false v = absurd (before-once (key x) (key y) b (record { at = p; low = v; high = w }))

-- ---- a test of neighbours

module _ {A : Type 0} (key : A → Bits) (test : List A → Bool) (neighbours : (x y : A) (l : List A) → test (x ∷ y ∷ l) ≡ (before? (key x) (key y) && test (y ∷ l))) where
  -- asked of neighbours, it holds of all
  test-ordered : (l : List A) → test l ≡ true → Ordered key l
  test-ordered [] e = tt
  test-ordered (x ∷ []) e = (tt, tt)
  test-ordered (x ∷ y ∷ l) e =
      let f = sym (neighbours x y l) ∙ e in
      let b = test-before (key x) (key y) (and_left _ _ f) in
      let h = test-ordered (y ∷ l) (and_right (before? (key x) (key y)) _ f) in
      ((b, in-all _ l (λ z m. before-trans (key x) (key y) (key z) b (all_in _ l h.0 z m))), h)

  -- a part of a list in order is in order
  module _ (none : test [] ≡ true) (alone : (x : A) → test (x ∷ []) ≡ true) where
    test-left : (l m : List A) → test (l ++ m) ≡ true → test l ≡ true
    test-left [] m e = none
    test-left (x ∷ []) m e = alone x
    test-left (x ∷ y ∷ l) m e =
        let b = before? (key x) (key y) in
        let f = sym (neighbours x y (l ++ m)) ∙ e in
        neighbours x y l ∙ and_both {a = b} (and_left b _ f) (test-left (y ∷ l) m (and_right b _ f))

    test-right : (l m : List A) → test (l ++ m) ≡ true → test m ≡ true
    test-right [] m e = e
    test-right (x ∷ []) [] e = none
    test-right (x ∷ []) (y ∷ m) e = and_right (before? (key x) (key y)) _ (sym (neighbours x y m) ∙ e)
    test-right (x ∷ y ∷ l) m e = test-right (y ∷ l) m (and_right (before? (key x) (key y)) _ (sym (neighbours x y (l ++ m)) ∙ e))

-- "Records stand in bit order and none is a prefix of another."
pub in-order : (R : List AuditRecord) → in_order R ≡ true → Ordered record_key R
unfolding in_order
in-order = test-ordered record_key in_order (λ x y l. refl)

pub order-left : (R Q : List AuditRecord) → in_order (R ++ Q) ≡ true → in_order R ≡ true
unfolding in_order
order-left = test-left record_key in_order (λ x y l. refl) refl (λ x. refl)

pub order-right : (R Q : List AuditRecord) → in_order (R ++ Q) ≡ true → in_order Q ≡ true
unfolding in_order
order-right = test-right record_key in_order (λ x y l. refl) refl (λ x. refl)

-- leaves in bit order
pub rising-ordered : (S : List Node) → rising S ≡ true → Ordered key S
unfolding rising
rising-ordered = test-ordered key rising (λ x y l. refl)

pub rising-left : (S T : List Node) → rising (S ++ T) ≡ true → rising S ≡ true
unfolding rising
rising-left = test-left key rising (λ x y l. refl) refl (λ x. refl)

pub rising-right : (S T : List Node) → rising (S ++ T) ≡ true → rising T ≡ true
unfolding rising
rising-right = test-right key rising (λ x y l. refl) refl (λ x. refl)
