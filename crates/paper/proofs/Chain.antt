-- Heads joined by audit steps: what a label's walk at a later head may be. Assumes nothing.
use mathlib.Core.Path.{◌≡◌, refl, sym, ap, ◌∙◌, subst}
use mathlib.Core.List.{List}
use Prim.Native.Nat.{ℕ, suc, ◌+◌, ◌<◌, ◌≤◌}
use native.Mathlib.Omega.{arith}
use lib.ListN.{length}
use Rattle.fips.specs.Sha256.{sha256}
use Rattle.paper.specs.Bytes.{Bytes}
use Rattle.paper.specs.Bits.{Bits}
use Rattle.paper.specs.Strings.{Head, head_string, commitment_string}
use Rattle.paper.specs.Tree.{root_digest}
use Rattle.paper.specs.Audit.{AuditRecord, olds, news}
use Rattle.paper.specs.declared.Which.{Which}
use Rattle.paper.specs.declared.Which.TheVariants.{OfAll, OfOld}
use Rattle.paper.proofs.Walk.{Found, absent, present, World, Walk, walk-unique}
use Rattle.paper.proofs.Step.{Listed, Next, same, added, audit-step}

-- nodes, heads and commitments that were hashed, of which no two have one digest
pub record Hashed : Type 1 where
  pub trees : World
  pub HeadIn : Head → Type 0
  pub head-inj : (x y : Head) → HeadIn x → HeadIn y → sha256 (head_string x) ≡ sha256 (head_string y) → x ≡ y
  pub CommitmentIn : Bytes → Bytes → Type 0
  pub commitment-inj : (o k p l : Bytes) → CommitmentIn o k → CommitmentIn p l → sha256 (commitment_string o k) ≡ sha256 (commitment_string p l) → (o ≡ p) × (k ≡ l)

-- the head o opens the digest d
pub record Opens (F : Hashed) (d : Bytes) (o : Head) : Type 0 where
  pub inside : F.HeadIn o
  pub hash : sha256 (head_string o) ≡ d

pub opens-same : (F : Hashed) (d : Bytes) (o p : Head) → Opens F d o → Opens F d p → o ≡ p
opens-same F d o p x y = F.head-inj o p x.inside y.inside (x.hash ∙ sym y.hash)

abbrev pub root_in : Head → Which → Bytes
root_in o OfAll = o.all
root_in o OfOld = o.old

-- what an accepted audit shows between two head digests
pub record Stepped (F : Hashed) (d d' : Bytes) : Type 0 where
  pub before : Head
  pub after : Head
  pub opens : Opens F d before
  pub opens' : Opens F d' after
  pub next : after.epoch ≡ suc before.epoch
  pub lists : Which → List AuditRecord
  pub listed : (w : Which) → Listed F.trees after.epoch (lists w)
  pub builds-old : (w : Which) → root_digest (olds (lists w)) ≡ root_in before w
  pub builds-new : (w : Which) → root_digest (news (lists w)) ≡ root_in after w

-- steps one behind the other
pub data Chain (F : Hashed) : Bytes → Bytes → Type 0 where
  here : {d : Bytes} → Chain F d d
  more : {d d' d'' : Bytes} → Stepped F d d' → Chain F d' d'' → Chain F d d''

abbrev pub steps_in : {F : Hashed} {d d' : Bytes} → Chain F d d' → ℕ
steps_in here = 0
steps_in (more a c) = suc (steps_in c)

-- each step adds one to the epoch
pub chain-epochs : (F : Hashed) {d d' : Bytes} (o p : Head) (c : Chain F d d') → Opens F d o → Opens F d' p → o.epoch + steps_in c ≡ p.epoch
chain-epochs F {d} o p here x y = omega (arith, ap (λ h. h.epoch) (opens-same F d o p x y))
chain-epochs F {d} o p (more a c) x y =
    omega (arith, chain-epochs F a.after p c a.opens' y, a.next, ap (λ h. h.epoch) (opens-same F d o a.before x a.opens))

-- from epoch t to epoch T a walk is kept, or comes to a leaf of an epoch between where it was absent
pub data Later (t T : ℕ) : Found → Found → Type 0 where
  kept : {r : Found} → Later t T r r
  came : {c : Bytes} {e : ℕ} → t < e → e ≤ T → Later t T absent (present c e)

later-next : (t u T : ℕ) (r s v : Found) → u ≡ suc t → u ≤ T → Next u r s → Later u T s v → Later t T r v
later-next t u T r s v e h same kept = kept
later-next t u T r s v e h same (came {e = f} k m) = came {e = f} (omega arith) m
later-next t u T r s v e h added kept = came {e = u} (omega arith) h

module _ (F : Hashed) (L : Bits) (size : length L ≡ 256) (w : Which) where
  pub chain-walk : {d d' : Bytes} (o p : Head) (r : Found) → Chain F d d' → Opens F d o → Opens F d' p → Walk F.trees L (root_in o w) r
      → (o.epoch ≤ p.epoch) × ((s : Found) × Later o.epoch p.epoch r s × Walk F.trees L (root_in p w) s)
  chain-walk {d} o p r here x y k =
      let e = opens-same F d o p x y in
      (omega (arith, ap (λ h. h.epoch) e), (r, kept, rw e at k))
  chain-walk {d} o p r (more a c) x y k =
      let e : o ≡ a.before = opens-same F d o a.before x a.opens in
      let k₁ : Walk F.trees L (root_digest (olds (a.lists w))) r = rw (a.builds-old w, ← e) k in
      let (s, n, k₂) = audit-step F.trees L size a.after.epoch (a.lists w) (a.listed w) r k₁ in
      let (le, (v, m, k₃)) = chain-walk a.after p s c a.opens' y (rw (a.builds-new w) at k₂) in
      let f : a.after.epoch ≡ suc o.epoch = a.next ∙ ap (λ h. suc h.epoch) (sym e) in
      (omega arith, (v, later-next o.epoch a.after.epoch p.epoch r s v f le n m, k₃))

  -- two walks of one label, at an earlier head and at a later
  pub later : {d d' : Bytes} (o p : Head) (r s : Found) → Chain F d d' → Opens F d o → Opens F d' p
      → Walk F.trees L (root_in o w) r → Walk F.trees L (root_in p w) s → Later o.epoch p.epoch r s
  later o p r s c x y k m =
      let (le, (v, l, n)) = chain-walk o p r c x y k in
      subst (λ t. Later o.epoch p.epoch r t) (walk-unique F.trees L n m) l

pub later-present : {t T : ℕ} {c : Bytes} {e : ℕ} {s : Found} → Later t T (present c e) s → present c e ≡ s
later-present kept = refl

pub later-came : {t T : ℕ} {c : Bytes} {e : ℕ} → Later t T absent (present c e) → t < e
later-came (came h k) = h
