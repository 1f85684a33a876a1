-- Each test of the checkers' definitions passes exactly where its rule of specs/Rules.antt holds. Assumes nothing.
use mathlib.Core.Path.{◌≡◌, refl, ap}
use mathlib.Core.Logic.{◌⊎◌, inr, ⊎_elim, ◌↔◌}
use mathlib.Core.Bool.{Bool, true, false, not, ◌&&◌}
use mathlib.Core.List.{List, [], ◌∷◌}
use Prim.Native.Nat.{ℕ, suc, ◌≤◌, ◌<◌}
use native.Mathlib.Omega.{arith}
use lib.Dec.{eqb, ltb, leb}
use lib.ListN.{length, take}
use borrow.Author.Tests.{leb-true, le-leb, ltb-true, lt-ltb, eqb-true, eq-eqb, not-true}
use Rattle.paper.specs.Lists.{All, every}
use Rattle.paper.specs.Numbers.{wide, name_most, name_byte_low, name_byte_high}
use Rattle.paper.specs.Bytes.{Bytes, zeros, same}
use Rattle.paper.specs.Bits.{Bits, Pfx, starts}
use Rattle.paper.specs.Path.{End, this, other, off, none, same_bits, present_with, epoch_of, absent}
use Rattle.paper.specs.Fields.{is_name}
use Rattle.paper.specs.Audit.{AuditRecord, unchanged, opened, fresh, record_key, before?, in_order, commitment_in, record_rule}
use Rattle.paper.specs.declared.Which.{Which}
use Rattle.paper.specs.declared.Which.TheVariants.{OfAll, OfOld}
use Rattle.paper.specs.Rules.{NameBounds, AbsentEnd, Before, Pairs, CommitmentIn, RecordRules}
use Rattle.paper.proofs.Lists.{and_left, and_right, and_both, not-both}
use Rattle.paper.proofs.Bytes.{same-eq, eq-same}
use Rattle.paper.proofs.Bits.{starts-pfx, pfx-starts}
use Rattle.paper.proofs.Walk.{same_bits-eq, eq-same_bits, fails}
use Rattle.paper.proofs.Order.{test-before, before-test, before-apart, before-trans}

-- ---- the tests that others are made of

-- a test that passes exactly where P holds
abbrev pub Tells : Bool → Type 0 → Type 0
Tells b P = (b ≡ true) ↔ P

pub both-tell : {a b : Bool} {P Q : Type 0} → Tells a P → Tells b Q → Tells (a && b) (P × Q)
both-tell {a = a} s t = (λ e. (s.0 (and_left a _ e), t.0 (and_right a _ e)), λ (p, q). and_both (s.1 p) (t.1 q))

pub not-tells : {b : Bool} {P : Type 0} → Tells b P → Tells (not b) (¬ P)
not-tells {b = b} s = (λ e p. not-both (s.1 p) (not-true b e), λ n. let f : b ≡ false = fails b (λ e. n (s.0 e)) in rw f)

pub le-tells : (a b : ℕ) → Tells (leb a b) (a ≤ b)
le-tells a b = (leb-true a b, le-leb a b)

pub lt-tells : (a b : ℕ) → Tells (ltb a b) (a < b)
lt-tells a b = (ltb-true a b, lt-ltb a b)

pub eq-tells : (a b : ℕ) → Tells (eqb a b) (a ≡ b)
eq-tells a b = (eqb-true a b, eq-eqb a b)

pub same-tells : (s t : Bytes) → Tells (same s t) (s ≡ t)
same-tells s t = (same-eq s t, λ e. eq-same e)

starts-tells : (p x : Bits) → Tells (starts p x) (Pfx p x)
starts-tells p x = (starts-pfx p x, pfx-starts p x)

label-tells : (x y : Bits) → Tells (same_bits x y) (x ≡ y)
label-tells x y = (same_bits-eq x y, eq-same_bits x y)

every-tells : {A : Type 0} (t : A → Bool) (P : A → Type 0) → ((a : A) → Tells (t a) (P a)) → (l : List A) → Tells (every t l) (All P l)
unfolding every
every-tells t P f [] = (λ _. tt, λ _. refl)
every-tells t P f (a ∷ l) = both-tell (f a) (every-tells t P f l)

-- ---- names and ends

pub name-tells : (name : Bytes) → Tells (is_name name) (NameBounds name)
unfolding is_name
name-tells name =
    let (to, from) = both-tell (le-tells 1 (length name)) (both-tell (le-tells (length name) name_most) (every-tells _ (λ b. (name_byte_low ≤ b) × (b ≤ name_byte_high)) (λ b. both-tell (le-tells name_byte_low b) (le-tells b name_byte_high)) name)) in (
      λ e. let (l, (m, a)) = to e in record { least = l; most = m; each = a },
      λ n. from (n.least, (n.most, n.each)),
    )

pub present-tells : (c : Bytes) (x : End) → Tells (present_with c x) (x ≡ this c (epoch_of x))
unfolding present_with
present-tells c (this d e) = (λ h. ap (λ s. this s e) (same-eq d c h), λ h. let q : d ≡ c = cc in eq-same q)
present-tells c (other m d e) = (λ h. not-both h refl, λ h. let z : ◌≡◌ {A = ℕ} 0 1 = cc in absurd (omega arith))
present-tells c (off p l r) = (λ h. not-both h refl, λ h. let z : ◌≡◌ {A = ℕ} 0 1 = cc in absurd (omega arith))
present-tells c none = (λ h. not-both h refl, λ h. let z : ◌≡◌ {A = ℕ} 0 1 = cc in absurd (omega arith))

pub absent-tells : (L : Bits) (k : ℕ) (x : End) → Tells (absent L k x) (AbsentEnd L k x)
unfolding absent
absent-tells L k (this c e) = (λ h. not-both h refl, λ h. absurd h)
absent-tells L k (other m c e) = both-tell (starts-tells (take (suc k) L) m) (not-tells (label-tells m L))
absent-tells L k (off p l r) =
    let (to, from) = both-tell (lt-tells (suc k) (length p)) (both-tell (starts-tells (take (suc k) L) p) (not-tells (starts-tells p L))) in
    (λ h. let (a, (b, c)) = to h in (a, b, c), λ (a, b, c). from (a, (b, c)))
absent-tells L k none = (λ _. tt, λ _. refl)

-- ---- audit records

commitment-tells : (w : Which) (c : Bytes) → Tells (commitment_in w c) (CommitmentIn w c)
commitment-tells OfAll c = (λ _. tt, λ _. refl)
commitment-tells OfOld c = same-tells c (zeros wide)

record-tells : (w : Which) (old new : ℕ) (x : AuditRecord) → Tells (record_rule w old new x) (RecordRules w old new x)
record-tells w old new (unchanged m c e) =
    let (to, from) = both-tell (le-tells 1 e) (both-tell (le-tells e old) (commitment-tells w c)) in
    (λ h. let (a, (b, d)) = to h in (omega arith, omega arith, d), λ (a, b, d). from (omega arith, (omega arith, d)))
record-tells w old new (opened p l r) = (λ _. tt, λ _. refl)
record-tells w old new (fresh m c e) = both-tell (eq-tells e new) (commitment-tells w c)

pub records-tell : (w : Which) (old new : ℕ) (R : List AuditRecord) → Tells (every (record_rule w old new) R) (All (RecordRules w old new) R)
records-tell w old new R = every-tells _ _ (record-tells w old new) R

-- what holds of neighbours in bit order holds of all: an earlier record parts from each later one at a bit that is 0 in it
order-after : (x y : AuditRecord) (R : List AuditRecord) → Before (record_key x) (record_key y) → in_order (y ∷ R) ≡ true → All (λ z. Before (record_key x) (record_key z)) (y ∷ R)
unfolding in_order
order-after x y [] b e = (b, tt)
order-after x y (z ∷ R) b e =
    (b, order-after x z R (before-trans _ _ _ b (test-before _ _ (and_left _ _ e))) (and_right (before? (record_key y) (record_key z)) _ e))

pub order-tells : (R : List AuditRecord) → Tells (in_order R) (Pairs Before R)
unfolding in_order
order-tells [] = (λ _. tt, λ _. refl)
order-tells (x ∷ []) = (λ _. (tt, tt), λ _. refl)
order-tells (x ∷ y ∷ R) = (
  λ e.
      let r = and_right (before? (record_key x) (record_key y)) _ e in
      (order-after x y R (test-before _ _ (and_left _ _ e)) r, (order-tells (y ∷ R)).0 r),
  λ h. and_both (before-test _ _ h.0.0) ((order-tells (y ∷ R)).1 h.1),
)

-- and pairs in bit order of which none is a prefix of the other are just these
pairs-both : {P Q S : Bits → Bits → Type 0} → ((x y : Bits) → P x y → Q x y → S x y) → (R : List AuditRecord) → Pairs P R → Pairs Q R → Pairs S R
pairs-both f [] p q = tt
pairs-both {P} {Q} {S} f (x ∷ R) p q = (go R p.0 q.0, pairs-both f R p.1 q.1)
  where
    go : (R : List AuditRecord) → All (λ y. P (record_key x) (record_key y)) R → All (λ y. Q (record_key x) (record_key y)) R → All (λ y. S (record_key x) (record_key y)) R
    go [] p q = tt
    go (y ∷ R) p q = (f _ _ p.0 q.0, go R p.1 q.1)

pub pairs-tell : (R : List AuditRecord) → Pairs Before R ↔ (Pairs (λ x y. Pfx x y ⊎ Before x y) R × Pairs (λ x y. (¬ Pfx x y) × (¬ Pfx y x)) R)
pairs-tell R = (
  λ b. (pairs-both {P = Before} {Q = Before} {S = λ x y. Pfx x y ⊎ Before x y} (λ x y p q. inr p) R b b, pairs-both {P = Before} {Q = Before} {S = λ x y. (¬ Pfx x y) × (¬ Pfx y x)} (λ x y p q. before-apart x y p) R b b),
  λ (o, a). pairs-both {P = λ x y. Pfx x y ⊎ Before x y} {Q = λ x y. (¬ Pfx x y) × (¬ Pfx y x)} {S = Before} (λ x y p q. ⊎_elim (λ h. absurd (q.0 h)) (λ b. b) p) R o a,
)
