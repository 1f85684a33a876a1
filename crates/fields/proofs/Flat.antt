-- Layouts of a fixed size: what is read is a test of the bytes' number and of the bytes, and the value stands at fixed places. Assumes nothing.
use mathlib.Core.Path.{◌≡◌, refl, sym, ap, ◌∙◌, subst}
use mathlib.Core.Logic.{◌⊎◌, inl, inr, by_cases}
use mathlib.Core.Bool.{Bool, true, false, cond, ◌&&◌}
use Prim.Native.Nat.{ℕ, ◌+◌, ◌-◌, ◌^◌, ◌≤◌, ◌<◌}
use native.Mathlib.Omega.{arith}
use native.Mathlib.Decide.{dec_le}
use lib.Dec.{leb, leb-zero}
use lib.ListN.{length, take, drop, length-take, length-drop}
use lib.Seq.{drop-drop, length-take-le}
use borrow.Author.Tests.{le-leb, lt-leb, leb-true}
use Rattle.paper.specs.Bytes.{Bytes, Bytewise, number, same}
use Rattle.paper.specs.Layout.{Read, got, bad, Layout, and_then, block, fixed, within, seq, led, such, view, in_layout}
use Rattle.paper.specs.Numbers.{wide}
use Rattle.paper.specs.Fields.{digest_field, epoch_field, head_field}
use Rattle.paper.proofs.Lists.{all_take, all_drop}
use Rattle.paper.proofs.Bytes.{same-eq, number_lt}
use Rattle.fields.specs.Head.{head_at}

-- ---- tests one behind the other

pub and-true : (a : Bool) → (a && true) ≡ a
and-true true = refl
and-true false = refl

pub and-false : (a : Bool) → (a && false) ≡ false
and-false true = refl
and-false false = refl

-- two pairs of tests, the first ones of both in front
and-swap : (a b c d : Bool) → ((a && b) && (c && d)) ≡ ((a && c) && (b && d))
and-swap true true c d = refl
and-swap true false true d = refl
and-swap true false false d = refl
and-swap false b c d = refl

-- a number in a range, and one outside
pub inside : (low high k : ℕ) → low ≤ k → k ≤ high → (leb low k && leb k high) ≡ true
inside low high k h l = rw (le-leb low k h, le-leb k high l)

pub outside : (low high k : ℕ) → (k < low) ⊎ (high < k) → (leb low k && leb k high) ≡ false
outside low high k (inl h) = rw (lt-leb low k h)
outside low high k (inr h) = rw (lt-leb k high h) (and-false (leb low k))

cond-cond : {A : Type 0} (a b : Bool) (x : Read A) → cond a (cond b x bad) bad ≡ cond (a && b) x bad
cond-cond true b x = refl
cond-cond false b x = refl

-- what is read on, past a test
then-cond : {A B : Type 0} (b : Bool) (x : A) (r : Bytes) (f : A → Bytes → Read B) → and_then (cond b (got x r) bad) f ≡ cond b (f x r) bad
then-cond true x r f = refl
then-cond false x r f = refl

-- room for n bytes, and behind them for m
room : (n m l : ℕ) → (leb n l && leb m (l - n)) ≡ leb (n + m) l
room n m l = by_cases (dec_le n l)
    (λ h. by_cases (dec_le m (l - n))
    (λ k. rw (le-leb n l h, le-leb m (l - n) k, le-leb (n + m) l (omega arith)))
    (λ k. rw (le-leb n l h, lt-leb m (l - n) (omega arith), lt-leb (n + m) l (omega arith))))
    (λ h. rw (lt-leb n l (omega arith), lt-leb (n + m) l (omega arith)))

-- ---- reading n bytes

pub record Flat {A : Type 0} (read : Bytes → Read A) (n : ℕ) (ok : Bytes → Bool) (value : Bytes → A) : Type 0 where
  pub reads : (s : Bytes) → Bytewise s → read s ≡ cond (leb n (length s) && ok s) (got (value s) (drop n s)) bad

module _ {A : Type 0} {read : Bytes → Read A} {n : ℕ} {ok : Bytes → Bool} {value : Bytes → A} (f : Flat read n ok value) (s : Bytes) (w : Bytewise s) where
  -- the bytes are there and pass: the value is read
  pub flat-yes : n ≤ length s → ok s ≡ true → read s ≡ got (value s) (drop n s)
  flat-yes h e = f.reads s w ∙ rw (le-leb n (length s) h, e)

  -- too few bytes, or a test that fails: nothing is
  pub flat-short : length s < n → read s ≡ bad
  flat-short h = f.reads s w ∙ rw (lt-leb n (length s) h)

  pub flat-no : ok s ≡ false → read s ≡ bad
  flat-no e = f.reads s w ∙ rw (e, and-false (leb n (length s)))

  -- whether anything is
  pub flat_in : n ≤ length s → in_layout (read s) ≡ ok s
  flat_in h = ap in_layout (f.reads s w) ∙ rw (le-leb n (length s) h) (by (ok s))
    where
      by : (b : Bool) → in_layout (cond b (got (value s) (drop n s)) bad) ≡ b
      by true = refl
      by false = refl

  -- what was read was there and passed
  pub flat-got : (x : A) (r : Bytes) → read s ≡ got x r → (n ≤ length s) × (ok s ≡ true) × (value s ≡ x) × (drop n s ≡ r)
  flat-got x r e = told (leb n (length s)) (ok s) refl refl (sym (f.reads s w) ∙ e)
    where
      told : (a b : Bool) → leb n (length s) ≡ a → ok s ≡ b → cond (a && b) (got (value s) (drop n s)) bad ≡ got x r → (n ≤ length s) × (ok s ≡ true) × (value s ≡ x) × (drop n s ≡ r)
      told true true h k e = (leb-true n (length s) h, k, cc, cc)
      told true false h k e = let z : ◌≡◌ {A = ℕ} 0 1 = cc in absurd (omega arith)
      told false b h k e = let z : ◌≡◌ {A = ℕ} 0 1 = cc in absurd (omega arith)

-- the same tests and the same value in other words
pub flat-as : {A : Type 0} {read : Bytes → Read A} {n k : ℕ} {ok also : Bytes → Bool} {value same : Bytes → A}
    → n ≡ k → ((s : Bytes) → ok s ≡ also s) → ((s : Bytes) → value s ≡ same s) → Flat read n ok value → Flat read k also same
flat-as {n = n} e p q f = record { reads = λ s w. f.reads s w ∙ rw (p s, q s, e) }

pub flat_map : {A B : Type 0} {read : Bytes → Read A} {n : ℕ} {ok : Bytes → Bool} {value : Bytes → A} (to : A → B)
    → Flat read n ok value → Flat (λ s. and_then (read s) (λ x r. got (to x) r)) n ok (λ s. to (value s))
flat_map to f = record { reads = λ s w. rw (f.reads s w, then-cond) }

pub flat-then : {A B : Type 0} {read : Bytes → Read A} {next : A → Bytes → Read B} {n m : ℕ} {ok : Bytes → Bool} {also : A → Bytes → Bool} {value : Bytes → A} {last : A → Bytes → B}
    → Flat read n ok value → ((x : A) → Flat (next x) m (also x) (last x))
    → Flat (λ s. and_then (read s) next) (n + m) (λ s. ok s && also (value s) (drop n s)) (λ s. last (value s) (drop n s))
flat-then {n = n} {m = m} {ok = ok} {also = also} {value = value} f g = record {
  reads = λ s w.
      let r = drop n s in
      rw (f.reads s w, then-cond, (g (value s)).reads r (all_drop _ n s w), cond-cond, and-swap, length-drop n s, room n m (length s), drop-drop m n s);
}

-- ---- the layouts

pub block-flat : (n : ℕ) → Flat (block n).read n (λ s. true) (take n)
unfolding block
block-flat n = record { reads = λ s w. rw (and-true (leb n (length s))) }

pub within-flat : (k low high : ℕ) → Flat (within k low high).read k (λ s. leb low (number (take k s)) && leb (number (take k s)) high) (λ s. number (take k s))
unfolding within
within-flat k low high = record { reads = λ s w. refl }

pub fixed-flat : (t : Bytes) → Flat (fixed t).read (length t) (λ s. same (take (length t) s) t) (λ s. tt)
unfolding fixed
fixed-flat t = record { reads = λ s w. by s (same (take (length t) s) t) refl }
  where
    by : (s : Bytes) (b : Bool) → same (take (length t) s) t ≡ b → cond b (got (tt {0}) (drop (length t) s)) bad ≡ cond (leb (length t) (length s) && b) (got tt (drop (length t) s)) bad
    by s true e = rw (le-leb (length t) (length s) (omega (arith, ap length (same-eq _ t e), length-take (length t) s)))
    by s false e = rw (and-false (leb (length t) (length s)))

pub seq-flat : {A B : Type 0} (a : Layout A) (b : A → Layout B) {n m : ℕ} {ok : Bytes → Bool} {also : A → Bytes → Bool} {value : Bytes → A} {last : A → Bytes → B}
    → Flat a.read n ok value → ((x : A) → Flat (b x).read m (also x) (last x))
    → Flat (seq a b).read (n + m) (λ s. ok s && also (value s) (drop n s)) (λ s. (value s, last (value s) (drop n s)))
unfolding seq
seq-flat a b f g = flat-then f (λ x. flat_map (λ y. (x, y)) (g x))

pub led-flat : {A : Type 0} (k : Layout ℕ) (size : A → ℕ) (a : ℕ → Layout A) {n m : ℕ} {ok : Bytes → Bool} {also : ℕ → Bytes → Bool} {value : Bytes → ℕ} {last : ℕ → Bytes → A}
    → Flat k.read n ok value → ((x : ℕ) → Flat (a x).read m (also x) (last x))
    → Flat (led k size a).read (n + m) (λ s. ok s && also (value s) (drop n s)) (λ s. last (value s) (drop n s))
unfolding led
led-flat k size a f g = flat-then f g

-- the same where what follows is of that size behind each number that passes
pub led-flat-where : {A : Type 0} (k : Layout ℕ) (size : A → ℕ) (a : ℕ → Layout A) (P : ℕ → Type 0) {n m : ℕ} {ok : Bytes → Bool} {also : ℕ → Bytes → Bool} {value : Bytes → ℕ} {last : ℕ → Bytes → A}
    → Flat k.read n ok value → ((s : Bytes) → ok s ≡ true → P (value s)) → ((x : ℕ) → P x → Flat (a x).read m (also x) (last x))
    → Flat (led k size a).read (n + m) (λ s. ok s && also (value s) (drop n s)) (λ s. last (value s) (drop n s))
unfolding led
led-flat-where k size a P {n = n} {m = m} {ok = ok} {also = also} {value = value} {last = last} f p g = record {
  reads = λ s w. by s w (ok s) refl;
}
  where
    by : (s : Bytes) → Bytewise s → (b : Bool) → ok s ≡ b
        → and_then (k.read s) (λ k r. (a k).read r) ≡ cond (leb (n + m) (length s) && (ok s && also (value s) (drop n s))) (got (last (value s) (drop n s)) (drop (n + m) s)) bad
    by s w true e =
        let r = drop n s in
        rw (f.reads s w, then-cond, (g (value s) (p s e)).reads r (all_drop _ n s w), cond-cond, and-swap, length-drop n s, room n m (length s), drop-drop m n s)
    by s w false e = rw (f.reads s w, e, and-false (leb n (length s)), and-false (leb (n + m) (length s)))

pub view-flat : {A B : Type 0} (a : Layout A) (to : A → B) (from : B → A) {n : ℕ} {ok : Bytes → Bool} {value : Bytes → A}
    → Flat a.read n ok value → Flat (view a to from).read n ok (λ s. to (value s))
unfolding view
view-flat a to from f = flat_map to f

pub such-flat : {A : Type 0} (a : Layout A) (test : A → Bool) {n : ℕ} {ok : Bytes → Bool} {value : Bytes → A}
    → Flat a.read n ok value → Flat (such a test).read n (λ s. ok s && test (value s)) value
unfolding such
such-flat a test {n = n} {ok = ok} f = record { reads = λ s w. rw (f.reads s w, then-cond, cond-cond, and_assoc (leb n (length s)) (ok s) _) }
  where
    and_assoc : (a b c : Bool) → ((a && b) && c) ≡ (a && (b && c))
    and_assoc true b c = refl
    and_assoc false b c = refl

-- "32 bits, unsigned": four bytes hold no more
pub epoch-flat : Flat epoch_field.read 4 (λ s. true) (λ s. number (take 4 s))
unfolding within
epoch-flat = record {
  reads = λ s w.
      let x = number (take 4 s) in
      by_cases (dec_le 4 (length s))
      (λ l. let h : x < 256 ^ 4 = subst (λ n. x < 256 ^ n) (length-take-le 4 s l) (number_lt (take 4 s) (all_take _ 4 s w)) in
      rw (leb-zero x, le-leb x (2 ^ 32 - 1) (omega arith)))
      (λ l. rw (lt-leb 4 (length s) (omega arith)));
}

-- a head's 100 bytes may be any
pub head-flat : Flat head_field.read 100 (λ s. true) (λ s. head_at s 0)
head-flat = flat-as refl (λ s. refl) (λ s. rw (drop-drop 32 4 s, drop-drop 32 36 s))
    (view-flat _ _ _ (seq-flat epoch_field _ epoch-flat (λ _. seq-flat digest_field _ (block-flat wide) (λ _. seq-flat digest_field _ (block-flat wide) (λ _. block-flat wide)))))
