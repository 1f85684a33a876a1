-- Laws of lists: membership, "all", tests, and strings put one behind the other. Assumes nothing.
use mathlib.Core.Path.{◌≡◌, refl, sym, ap, ◌∙◌, subst}
use mathlib.Core.Logic.{◌⊎◌, inl, inr, ⊎_elim, by_cases}
use mathlib.Core.Bool.{Bool, true, false, cond, ◌&&◌, ◌||◌}
use mathlib.Core.List.{List, [], ◌∷◌, ◌++◌, map, head-eq_of_cons-eq, tail-eq_of_cons-eq}
use Prim.Native.Nat.{ℕ, zero, suc, ◌+◌, ◌-◌, ◌≤◌, ◌<◌}
use native.Mathlib.Nat.{sub-zero}
use native.Mathlib.Omega.{arith}
use native.Mathlib.Decide.{dec_lt}
use lib.ListN.{length, take, drop, get_or, length-append}
use lib.Seq.{take-nil}
use Rattle.paper.specs.Lists.{◌∈◌, All, every, keep, up_from}

-- a test that came out, for a proof by cases
pub true-or-false : (b : Bool) → (b ≡ true) ⊎ (b ≡ false)
true-or-false true = inl refl
true-or-false false = inr refl

pub not-both : {A : Type 0} {b : Bool} → b ≡ true → b ≡ false → A
not-both p q = let z : ◌≡◌ {A = ℕ} 0 1 = ap (λ b. cond b 0 1) (sym p ∙ q) in absurd (omega arith)

pub and_left : (a b : Bool) → (a && b) ≡ true → a ≡ true
and_left true b e = refl
and_left false b e = e

pub and_right : (a b : Bool) → (a && b) ≡ true → b ≡ true
and_right true b e = e
and_right false b e = not-both e refl

pub and_both : {a b : Bool} → a ≡ true → b ≡ true → (a && b) ≡ true
and_both p q = rw (p, q)

pub or_left : (a b : Bool) → (a || b) ≡ false → a ≡ false
or_left true b e = e
or_left false b e = refl

pub or_right : (a b : Bool) → (a || b) ≡ false → b ≡ false
or_right true b e = not-both refl e
or_right false b e = e

module _ {A : Type 0} where
  pub all_in : (P : A → Type 0) (l : List A) → All P l → (a : A) → a ∈ l → P a
  all_in P (b ∷ l) h a (inl e) = subst P (sym e) h.0
  all_in P (b ∷ l) h a (inr m) = all_in P l h.1 a m
  all_in P [] h a m = elim m [ ]

  pub in-all : (P : A → Type 0) (l : List A) → ((a : A) → a ∈ l → P a) → All P l
  in-all P [] f = tt
  in-all P (b ∷ l) f = (f b (inl refl), in-all P l (λ a m. f a (inr m)))

  pub all_left : (P : A → Type 0) (l m : List A) → All P (l ++ m) → All P l
  all_left P [] m h = tt
  all_left P (a ∷ l) m h = (h.0, all_left P l m h.1)

  pub all_right : (P : A → Type 0) (l m : List A) → All P (l ++ m) → All P m
  all_right P [] m h = h
  all_right P (a ∷ l) m h = all_right P l m h.1

  pub all_append : (P : A → Type 0) (l m : List A) → All P l → All P m → All P (l ++ m)
  all_append P [] m h k = k
  all_append P (a ∷ l) m h k = (h.0, all_append P l m h.1 k)

  pub all_take : (P : A → Type 0) (n : ℕ) (l : List A) → All P l → All P (take n l)
  all_take P zero l h = tt
  all_take P (suc n) [] h = tt
  all_take P (suc n) (a ∷ l) h = (h.0, all_take P n l h.1)

  pub all_drop : (P : A → Type 0) (n : ℕ) (l : List A) → All P l → All P (drop n l)
  all_drop P zero l h = h
  all_drop P (suc n) [] h = tt
  all_drop P (suc n) (a ∷ l) h = all_drop P n l h.1

  -- what is left of a beginning
  pub drop-take : (k n : ℕ) (l : List A) → drop k (take n l) ≡ take (n - k) (drop k l)
  drop-take zero n l = rw sub-zero
  drop-take (suc k) zero l = let e : 0 - suc k ≡ 0 = omega arith in rw e
  drop-take (suc k) (suc n) [] = sym (take-nil (suc n - suc k))
  drop-take (suc k) (suc n) (a ∷ l) = let e : suc n - suc k ≡ n - k = omega arith in rw e (drop-take k n l)

  pub all_get_d : (P : A → Type 0) (l : List A) (d : A) → All P l → (i : ℕ) → i < length l → P (get_or l i d)
  all_get_d P [] d h i k = absurd (omega arith)
  all_get_d P (a ∷ l) d h zero k = h.0
  all_get_d P (a ∷ l) d h (suc i) k = all_get_d P l d h.1 i (omega arith)

  pub in_left : (a : A) (l m : List A) → a ∈ l → a ∈ (l ++ m)
  in_left a (b ∷ l) m (inl e) = inl e
  in_left a (b ∷ l) m (inr k) = inr (in_left a l m k)
  in_left a [] m k = elim k [ ]

  pub in_right : (a : A) (l m : List A) → a ∈ m → a ∈ (l ++ m)
  in_right a [] m k = k
  in_right a (b ∷ l) m k = inr (in_right a l m k)

  pub in-append : (l m : List A) (a : A) → a ∈ (l ++ m) → (a ∈ l) ⊎ (a ∈ m)
  in-append [] m a k = inr k
  in-append (b ∷ l) m a (inl e) = inl (inl e)
  in-append (b ∷ l) m a (inr k) = ⊎_elim (λ u. inl (inr u)) inr (in-append l m a k)

  pub lt-append : (l m : List A) (i : ℕ) → i < length l → i < length (l ++ m)
  lt-append l m i h = omega (arith, length-append l m)

  -- a test of each is a test of all
  pub every-all : (t : A → Bool) (l : List A) → every t l ≡ true → All (λ a. t a ≡ true) l
  unfolding every
  every-all t [] e = tt
  every-all t (a ∷ l) e = (and_left (t a) _ e, every-all t l (and_right (t a) _ e))

  pub all-every : (t : A → Bool) (l : List A) → All (λ a. t a ≡ true) l → every t l ≡ true
  unfolding every
  all-every t [] h = refl
  all-every t (a ∷ l) h = and_both h.0 (all-every t l h.1)

  -- one of the list is of the first kind, or all are of the second
  pub some-or-all : (P Q : A → Type 0) → ((a : A) → P a ⊎ Q a) → (l : List A) → ((a : A) × (a ∈ l) × P a) ⊎ All Q l
  some-or-all P Q f [] = inr tt
  some-or-all P Q f (b ∷ l) = by (f b) (some-or-all P Q f l)
    where
      by : P b ⊎ Q b → ((a : A) × (a ∈ l) × P a) ⊎ All Q l → ((a : A) × (a ∈ (b ∷ l)) × P a) ⊎ All Q (b ∷ l)
      by (inl p) t = inl (b, inl refl, p)
      by (inr q) (inl (a, m, p)) = inl (a, inr m, p)
      by (inr q) (inr h) = inr (q, h)

  -- those that a test keeps: each passed it and was there before, and each that was there and passes it is kept
  pub keep-passes : (t : A → Bool) (l : List A) → All (λ a. t a ≡ true) (keep t l)
  unfolding keep
  keep-passes t [] = tt
  keep-passes t (a ∷ l) = by (t a) refl (keep-passes t l)
    where
      by : (b : Bool) → t a ≡ b → All (λ a. t a ≡ true) (keep t l) → All (λ a. t a ≡ true) (cond b (a ∷ keep t l) (keep t l))
      by true e h = (e, h)
      by false e h = h

  pub keep_all : (P : A → Type 0) (t : A → Bool) (l : List A) → All P l → All P (keep t l)
  unfolding keep
  keep_all P t [] h = tt
  keep_all P t (a ∷ l) h = by (t a) (keep_all P t l h.1)
    where
      by : (b : Bool) → All P (keep t l) → All P (cond b (a ∷ keep t l) (keep t l))
      by true k = (h.0, k)
      by false k = k

  pub in-keep : (t : A → Bool) (l : List A) (a : A) → a ∈ l → t a ≡ true → a ∈ keep t l
  unfolding keep
  in-keep t (b ∷ l) a (inl e) h = rw (← (ap t e), h) (inl e)
  in-keep t (b ∷ l) a (inr m) h = by (t b) (in-keep t l a m h)
    where
      by : (c : Bool) → a ∈ keep t l → a ∈ cond c (b ∷ keep t l) (keep t l)
      by true k = inr k
      by false k = k
  in-keep t [] a m h = elim m [ ]

  pub keep_append : (t : A → Bool) (l m : List A) → keep t (l ++ m) ≡ keep t l ++ keep t m
  unfolding keep
  keep_append t [] m = refl
  keep_append t (a ∷ l) m = by (t a) (keep_append t l m)
    where
      by : (b : Bool) → keep t (l ++ m) ≡ keep t l ++ keep t m → cond b (a ∷ keep t (l ++ m)) (keep t (l ++ m)) ≡ cond b (a ∷ keep t l) (keep t l) ++ keep t m
      by true e = ap (λ r. a ∷ r) e
      by false e = e

  pub keep_one : (t : A → Bool) (a : A) → keep t (a ∷ []) ≡ cond (t a) (a ∷ []) []
  unfolding keep
  keep_one t a = refl

  pub keep-every : (t : A → Bool) (l : List A) → All (λ a. t a ≡ true) l → keep t l ≡ l
  unfolding keep
  keep-every t [] h = refl
  keep-every t (a ∷ l) h = rw h.0 (ap (λ r. a ∷ r) (keep-every t l h.1))

  pub keep-none : (t : A → Bool) (l : List A) → All (λ a. t a ≡ false) l → keep t l ≡ []
  unfolding keep
  keep-none t [] h = refl
  keep-none t (a ∷ l) h = rw h.0 (keep-none t l h.1)

  -- two tests keep the same in either order
  pub keep-keep : (t u : A → Bool) (l : List A) → keep t (keep u l) ≡ keep u (keep t l)
  unfolding keep
  keep-keep t u [] = refl
  keep-keep t u (a ∷ l) = by (t a) refl (u a) refl (keep-keep t u l)
    where
      by : (b : Bool) → t a ≡ b → (c : Bool) → u a ≡ c → keep t (keep u l) ≡ keep u (keep t l)
          → keep t (cond c (a ∷ keep u l) (keep u l)) ≡ keep u (cond b (a ∷ keep t l) (keep t l))
      by true p true q e = rw (p, q) (ap (λ r. a ∷ r) e)
      by true p false q e = rw q e
      by false p true q e = rw p e
      by false p false q e = e

  pub keep-in : (t : A → Bool) (l : List A) (a : A) → a ∈ keep t l → a ∈ l
  keep-in t l a m = all_in (λ b. b ∈ l) (keep t l) (keep_all (λ b. b ∈ l) t l (in-all _ l (λ b k. k))) a m

  -- two strings that are equal, and equally long in front, are equal in front and behind
  pub append-split : (a b c d : List A) → length a ≡ length c → a ++ b ≡ c ++ d → (a ≡ c) × (b ≡ d)
  append-split [] b [] d h e = (refl, e)
  append-split [] b (z ∷ c) d h e = absurd (omega arith)
  append-split (x ∷ a) b [] d h e = absurd (omega arith)
  append-split (x ∷ a) b (z ∷ c) d h e =
      let (p, q) = append-split a b c d (omega arith) (tail-eq_of_cons-eq e) in
      (rw (head-eq_of_cons-eq e, p) refl, q)

pub up_from-length : (a k : ℕ) → length (up_from a k) ≡ k
unfolding up_from
up_from-length a zero = refl
up_from-length a (suc k) = ap suc (up_from-length (suc a) k)

pub in_map : {A B : Type 0} (f : A → B) (l : List A) (a : A) → a ∈ l → f a ∈ map f l
in_map f (b ∷ l) a (inl e) = inl (ap f e)
in_map f (b ∷ l) a (inr m) = inr (in_map f l a m)
in_map {A = A} {B = B} f [] a m = elim m [ ]

pub all_map : {A B : Type 0} (P : B → Type 0) (f : A → B) (l : List A) → All P (map f l) → All (λ a. P (f a)) l
all_map P f [] h = tt
all_map P f (a ∷ l) h = (h.0, all_map P f l h.1)

pub in-up_from : (a k i : ℕ) → a ≤ i → i < a + k → i ∈ up_from a k
unfolding up_from
in-up_from a zero i h l = absurd (omega arith)
in-up_from a (suc k) i h l = by_cases (dec_lt a i) (λ m. inr (in-up_from (suc a) k i m (omega arith))) (λ m. inl (omega arith))

-- f of the numbers from a on: the j-th is f (a + j)
pub get_or-up_from : {B : Type 0} (f : ℕ → B) (d : B) (a k j : ℕ) → j < k → get_or (map f (up_from a k)) j d ≡ f (a + j)
unfolding up_from
get_or-up_from f d a zero j h = absurd (omega arith)
get_or-up_from f d a (suc k) zero h = let e : a ≡ a + 0 = omega arith in ap f e
get_or-up_from f d a (suc k) (suc j) h = let e : suc a + j ≡ a + suc j = omega arith in get_or-up_from f d (suc a) k j (omega arith) ∙ ap f e

pub up_from-snoc : (a k : ℕ) → up_from a (suc k) ≡ up_from a k ++ ((a + k) ∷ [])
unfolding up_from
up_from-snoc a zero = let e : a ≡ a + 0 = omega arith in ap (λ i. i ∷ []) e
up_from-snoc a (suc k) = let e : suc a + k ≡ a + suc k = omega arith in ap (λ l. a ∷ l) (up_from-snoc (suc a) k ∙ ap (λ i. up_from (suc a) k ++ (i ∷ [])) e)

-- what is in a list of f's is f of a member
pub map-in : {A B : Type 0} (f : A → B) (l : List A) (b : B) → b ∈ map f l → (a : A) × (a ∈ l) × (b ≡ f a)
map-in f (x ∷ l) b (inl e) = (x, inl refl, e)
map-in f (x ∷ l) b (inr m) = let (a, k, e) = map-in f l b m in (a, inr k, e)
map-in {A = A} {B = B} f [] b m = elim m [ ]

pub up_from-in : (a k i : ℕ) → i ∈ up_from a k → (a ≤ i) × (i < a + k)
unfolding up_from
up_from-in a zero i m = absurd m
up_from-in a (suc k) i (inl e) = (omega arith, omega arith)
up_from-in a (suc k) i (inr m) = let (l, h) = up_from-in (suc a) k i m in (omega arith, omega arith)

-- f of the i-th member
pub get_or-map-at : {A B : Type 0} (f : A → B) (l : List A) (a : A) (b : B) (i : ℕ) → i < length l → get_or (map f l) i b ≡ f (get_or l i a)
get_or-map-at f [] a b i h = absurd (omega arith)
get_or-map-at f (x ∷ l) a b zero h = refl
get_or-map-at f (x ∷ l) a b (suc i) h = get_or-map-at f l a b i (omega arith)
