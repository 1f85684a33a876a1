-- Demand 3 over the facts that accepted proofs show: a lookup at an earlier head agrees with a history at a later one. Assumes nothing.
use mathlib.Core.Path.{◌≡◌}
use mathlib.Core.Logic.{by_cases}
use mathlib.Core.List.{[]}
use Prim.Native.Nat.{ℕ, zero, suc, ◌<◌, ◌≤◌, ◌^◌, min}
use native.Mathlib.Omega.{arith}
use native.Mathlib.Decide.{dec_le, dec_lt}
use lib.ListN.{length}
use Rattle.fips.specs.Sha256.{sha256}
use Rattle.paper.specs.Numbers.{wide, version_most}
use Rattle.paper.specs.Bytes.{Bytes, zeros}
use Rattle.paper.specs.Bits.{Bits, log2}
use Rattle.paper.specs.Strings.{Head, commitment_string}
use Rattle.paper.specs.Shows.{Place, in_all, in_old, as_marker}
use Rattle.paper.proofs.Marker.{log2-spec, pow_below}
use Rattle.paper.proofs.Walk.{Found, absent, present, Walk}
use Rattle.paper.proofs.Chain.{Hashed, Opens, Chain, root_in, later, later-present, later-came, chain-walk}
use Rattle.paper.proofs.Shown.{which_of}

-- of versions 1 to n with these epochs, v is the last whose epoch is at most t, or 0
pub record Current (eps : ℕ → ℕ) (n t v : ℕ) : Type 0 where
  pub within : v ≤ n
  pub reached : 0 < v → eps v ≤ t
  pub beyond : (i : ℕ) → v < i → i ≤ n → t < eps i

-- from one version on the epochs rise
rise : (eps : ℕ → ℕ) (n t : ℕ) → ((i : ℕ) → 0 < i → i < n → eps i < eps (suc i)) → (v : ℕ) → t < eps (suc v) → (i : ℕ) → v < i → i ≤ n → t < eps i
rise eps n t r v h zero k m = absurd (omega arith)
rise eps n t r v h (suc i) k m = by_cases (dec_lt v i)
    (λ l. omega (arith, rise eps n t r v h i l (omega arith), r i (omega arith) (omega arith)))
    (λ l. let q : v ≡ i = omega arith in rw q at h)

module _ (F : Hashed) (L : Place → Bits) where
  abbrev pub At : Head → Place → Found → Type 0
  At h x r = Walk F.trees (L x) (root_in h (which_of x)) r

  abbrev pub commitment : Bytes → Bytes → Bytes
  commitment opening key = sha256 (commitment_string opening key)

  -- what an accepted lookup of a version shows at its head
  pub record Registered (o : Head) (v : ℕ) (key : Bytes) : Type 0 where
    pub some : 0 < v
    pub small : v ≤ version_most
    pub opening : Bytes
    pub hashed : F.CommitmentIn opening key
    pub epoch : ℕ
    pub there : At o (in_all v) (present (commitment opening key) epoch)
    pub low : v ≤ epoch
    pub high : epoch ≤ o.epoch
    pub newest : At o (in_old v) absent
    pub mark-epoch : ℕ
    pub marked : At o (as_marker (log2 v)) (present (zeros wide) mark-epoch)

  pub data LookedUp (o : Head) : ℕ → Bytes → Type 0 where
    nobody : At o (in_all 1) absent → LookedUp o 0 []
    somebody : {v : ℕ} {key : Bytes} → Registered o v key → LookedUp o v key

  -- what an accepted history shows at its head
  pub record Chronicle (o : Head) (n : ℕ) (keys openings : ℕ → Bytes) (eps : ℕ → ℕ) : Type 0 where
    pub small : n ≤ version_most
    pub range : o.epoch < 2 ^ 32
    pub hashed : (i : ℕ) → 0 < i → i ≤ n → F.CommitmentIn (openings i) (keys i)
    pub there : (i : ℕ) → 0 < i → i ≤ n → At o (in_all i) (present (commitment (openings i) (keys i)) (eps i))
    pub replaced : (i : ℕ) → 0 < i → i < n → At o (in_old i) (present (zeros wide) (eps (suc i)))
    pub newest : 0 < n → At o (in_old n) absent
    pub gap : 0 < n → (i : ℕ) → n < i → i < 2 ^ suc (log2 n) → At o (in_all i) absent
    pub markers : 0 < o.epoch → (j : ℕ) → (0 < n → log2 n < j) → j ≤ min 9 (log2 o.epoch) → At o (as_marker j) absent
    pub rising : (i : ℕ) → 0 < i → i < n → eps i < eps (suc i)
    pub first : 0 < n → 0 < eps 1
    pub reached : (i : ℕ) → 0 < i → i ≤ n → eps i ≤ o.epoch

  module _ (size : (x : Place) → length (L x) ≡ 256) {d d' : Bytes} (o p : Head) (chain : Chain F d d') (a : Opens F d o) (b : Opens F d' p) where
    -- what was present stays, with its commitment and epoch
    pub stays : (x : Place) (c : Bytes) (e : ℕ) (s : Found) → At o x (present c e) → At p x s → present c e ≡ s
    stays x c e s k m = later-present (later F (L x) (size x) (which_of x) o p _ _ chain a b k m)

    -- what is new bears a later epoch
    pub comes-after : (x : Place) (c : Bytes) (e : ℕ) → At o x absent → At p x (present c e) → o.epoch < e
    comes-after x c e k m = later-came (later F (L x) (size x) (which_of x) o p _ _ chain a b k m)

    -- a present leaf is not absent later
    pub not-lost : (x : Place) (c : Bytes) (e : ℕ) → At o x (present c e) → At p x absent → ⊥
    not-lost x c e k m = let q = stays x c e absent k m in let u : ◌≡◌ {A = ℕ} 0 1 = cc in omega arith

    module _ (n : ℕ) (keys openings : ℕ → Bytes) (eps : ℕ → ℕ) (hist : Chronicle p n keys openings eps) where
      -- a version beyond the history would have shown: in the gap, or by its marker
      not_beyond : (v : ℕ) (key : Bytes) → Registered o v key → v ≤ n
      not_beyond v key g = by_cases (dec_le v n) (λ h. h) (λ h. absurd (beyond (omega arith)))
        where
          le : o.epoch ≤ p.epoch
          le = (chain-walk F (L (in_all v)) (size (in_all v)) (which_of (in_all v)) o p _ chain a b g.there).0

          T : 0 < p.epoch
          T = omega (arith, g.some, g.low, g.high, le)

          v-log : (2 ^ log2 v ≤ v) × (v < 2 ^ suc (log2 v))
          v-log = log2-spec v g.some (omega (arith, g.small))

          T-log : (2 ^ log2 p.epoch ≤ p.epoch) × (p.epoch < 2 ^ suc (log2 p.epoch))
          T-log = log2-spec p.epoch T hist.range

          j9 : log2 v ≤ 9
          j9 = pow_below (log2 v) 9 v v-log.0 (omega (arith, g.small))

          jT : log2 v ≤ log2 p.epoch
          jT = pow_below (log2 v) (log2 p.epoch) p.epoch (omega (arith, v-log.0, g.low, g.high, le)) T-log.1

          by-marker : (0 < n → log2 n < log2 v) → ⊥
          by-marker h = not-lost (as_marker (log2 v)) _ _ g.marked (hist.markers T (log2 v) h (omega (arith, j9, jT)))

          beyond : n < v → ⊥
          beyond h = by_cases (dec_lt 0 n)
              (λ m. by_cases (dec_lt v (2 ^ suc (log2 n)))
              (λ k. not-lost (in_all v) _ _ g.there (hist.gap m v h k))
              (λ k. by-marker (λ _. pow_below (suc (log2 n)) (log2 v) v (omega arith) v-log.1)))
              (λ m. by-marker (λ k. absurd (omega arith)))

      pub agree : (v : ℕ) (key : Bytes) → LookedUp o v key → Current eps n o.epoch v × (0 < v → key ≡ keys v)
      agree v key (somebody g) =
          let vn = not_beyond v key g in
          let q = stays (in_all v) _ _ _ g.there (hist.there v g.some vn) in
          let e : g.epoch ≡ eps v = cc in
          let c : commitment g.opening key ≡ commitment (openings v) (keys v) = cc in (
            record {
              within = vn;
              reached = λ _. omega (arith, g.high);
              beyond = by_cases (dec_lt v n)
                  (λ l. rise eps n o.epoch hist.rising v (comes-after (in_old v) _ _ g.newest (hist.replaced v g.some l)))
                  (λ l i j k. absurd (omega arith));
            },
            λ _. (F.commitment-inj _ key _ (keys v) g.hashed (hist.hashed v g.some vn) c).1,
          )
      agree v key (nobody k) = (
        record {
          within = omega arith;
          reached = λ h. absurd (omega arith);
          beyond = by_cases (dec_lt 0 n)
              (λ l. rise eps n o.epoch hist.rising 0 (comes-after (in_all 1) _ _ k (hist.there 1 (omega arith) (omega arith))))
              (λ l i j m. absurd (omega arith));
        },
        λ h. absurd (omega arith),
      )
