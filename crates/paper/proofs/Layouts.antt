-- Reading and writing are inverse, for each layout. Assumes nothing.
use mathlib.Core.Path.{◌≡◌, refl, sym, ap, ◌∙◌, subst}
use mathlib.Core.Bool.{Bool, true, false, cond, ◌&&◌}
use mathlib.Core.List.{List, [], ◌∷◌, ◌++◌, append_assoc, append-nil}
use Prim.Native.Nat.{ℕ, zero, suc, ◌^◌, ◌≤◌, ◌<◌}
use native.Mathlib.Omega.{arith}
use lib.Dec.{leb}
use lib.ListN.{length, take, drop, length-append, take-append-drop}
use lib.Seq.{take_at, drop_at, length-take-le}
use borrow.Author.Tests.{le-leb, leb-true}
use Rattle.paper.specs.Lists.{All}
use Rattle.paper.specs.Bytes.{Bytes, Bytewise, be, number, same}
use Rattle.paper.specs.Layout.{Read, got, bad, Layout, and_then, block, fixed, within, seq, led, times, times_read, times_bytes, such, view, never, whole, parse}
pub use Rattle.paper.specs.Layout.{Lawful}
use Rattle.paper.proofs.Lists.{and_left, and_right, all_right, all_take}
use Rattle.paper.proofs.Bytes.{same-eq, same_refl, be-length, number-be, be-number, number_lt}

-- what a chain of readings found, it found in each
pub then-got : {A B : Type 0} (m : Read A) (f : A → Bytes → Read B) (y : B) (r : Bytes) → and_then m f ≡ got y r
    → (x : A) × (q : Bytes) × (m ≡ got x q) × (f x q ≡ got y r)
then-got (got x q) f y r e = (x, q, refl, e)
then-got bad f y r e = let z : ◌≡◌ {A = ℕ} 0 1 = cc in absurd (omega arith)

-- what holds of a reading holds of an equal one, and of one that a test let through
carry : {A : Type 0} (P : A → Bytes → Type 0) (x y : A) (q r : Bytes) → got x q ≡ got y r → P x q → P y r
carry P x y q r e h =
    let u : x ≡ y = cc in
    let v : q ≡ r = cc in
    subst (λ r. P y r) v (subst (λ y. P y q) u h)

pub cond-carry : {A : Type 0} (P : A → Bytes → Type 0) (t : Bool) (x y : A) (q r : Bytes) → cond t (got x q) bad ≡ got y r → (t ≡ true → P x q) → P y r
cond-carry P true x y q r e f = carry P x y q r e (f refl)
cond-carry P false x y q r e f = let z : ◌≡◌ {A = ℕ} 0 1 = cc in absurd (omega arith)

-- the law of a layout, at one reading
abbrev Told : {A : Type 0} → Layout A → Bytes → A → Bytes → Type 0
Told a s x r = a.Fits x × (a.bytes x ++ r ≡ s)

pub block-lawful : (n : ℕ) → Lawful (block n)
unfolding block
block-lawful n = record {
  reads = λ x r (h, _). rw (le-leb n (length (x ++ r)) (omega (arith, length-append x r)), take_at x r n h, drop_at x r n h);
  tells = λ s x r w e.
      cond-carry (Told (block n) s) (leb n (length s)) (take n s) x (drop n s) r e
      (λ t. ((length-take-le n s (leb-true n (length s) t), all_take _ n s w), take-append-drop n s));
}

pub fixed-lawful : (s : Bytes) → Lawful (fixed s)
unfolding fixed
fixed-lawful s = record {
  reads = λ x r h. rw (take_at s r (length s) refl, drop_at s r (length s) refl, same_refl s);
  tells = λ b x r w e.
      cond-carry (Told (fixed s) b) (same (take (length s) b) s) tt x (drop (length s) b) r e
      (λ t. (tt, ap (λ u. u ++ drop (length s) b) (sym (same-eq _ s t)) ∙ take-append-drop (length s) b));
}

pub within-lawful : (k low high : ℕ) → Lawful (within k low high)
unfolding within
within-lawful k low high = record {
  reads = λ n r h.
      let t : take k (be k n ++ r) ≡ be k n = take_at (be k n) r k (be-length k n) in
      let d : drop k (be k n ++ r) ≡ r = drop_at (be k n) r k (be-length k n) in
      let e : number (take k (be k n ++ r)) ≡ n = ap number t ∙ number-be k n h.2 in
      rw (le-leb k (length (be k n ++ r)) (omega (arith, length-append (be k n) r, be-length k n)), e, d, le-leb low n h.0, le-leb n high h.1);
  tells = λ s x r w e.
      cond-carry (Told (within k low high) s) (leb k (length s) && (leb low (number (take k s)) && leb (number (take k s)) high)) (number (take k s)) x (drop k s) r e
      (λ t. number-told k low high s w t);
}
  where
    number-told : (k low high : ℕ) (s : Bytes) → Bytewise s → (leb k (length s) && (leb low (number (take k s)) && leb (number (take k s)) high)) ≡ true
        → Told (within k low high) s (number (take k s)) (drop k s)
    number-told k low high s w t =
        let n = number (take k s) in
        let l : k ≤ length s = leb-true k (length s) (and_left _ _ t) in
        let u = and_right (leb k (length s)) _ t in
        let z : length (take k s) ≡ k = length-take-le k s l in
        let b : Bytewise (take k s) = all_take _ k s w in
        let g : n < 256 ^ k = subst (λ m. n < 256 ^ m) z (number_lt (take k s) b) in
        let f : be k n ≡ take k s = ap (λ m. be m n) (sym z) ∙ be-number (take k s) b in
        ((leb-true low n (and_left _ _ u), leb-true n high (and_right (leb low n) _ u), g), ap (λ t. t ++ drop k s) f ∙ take-append-drop k s)

-- the bytes behind what was read are bytes
behind : (f r s : Bytes) → f ++ r ≡ s → Bytewise s → Bytewise r
behind f r s e w = all_right _ f r (rw (← e) at w)

pub seq-lawful : {A B : Type 0} {a : Layout A} {b : A → Layout B} → Lawful a → ((x : A) → Lawful (b x)) → Lawful (seq a b)
unfolding seq
seq-lawful {a = a} {b = b} h k = record {
  reads = λ x r f.
      rw (append_assoc (a.bytes x.0) ((b x.0).bytes x.1) r, h.reads x.0 ((b x.0).bytes x.1 ++ r) f.0, (k x.0).reads x.1 r f.1);
  tells = λ s z r w e.
      let (x, q, e₁, e₂) = then-got (a.read s) _ z r e in
      let (y, t, e₃, e₄) = then-got ((b x).read q) _ z r e₂ in
      let (f, g) = h.tells s x q w e₁ in
      let (f', g') = (k x).tells q y t (behind (a.bytes x) q s g w) e₃ in
      carry (Told (seq a b) s) (x, y) z t r e₄ ((f, f'), append_assoc (a.bytes x) ((b x).bytes y) t ∙ ap (λ c. a.bytes x ++ c) g' ∙ g);
}

-- where what the number says holds only values that determine it
pub led-lawful : {A : Type 0} {n : Layout ℕ} (size : A → ℕ) {a : ℕ → Layout A} → Lawful n → ((k : ℕ) → Lawful (a k))
    → ((k : ℕ) (x : A) → n.Fits k → (a k).Fits x → size x ≡ k) → Lawful (led n size a)
unfolding led
led-lawful {n = n} size {a = a} h k d = record {
  reads = λ x r f.
      rw (append_assoc (n.bytes (size x)) ((a (size x)).bytes x) r, h.reads (size x) ((a (size x)).bytes x ++ r) f.0, (k (size x)).reads x r f.1);
  tells = λ s x r w e.
      let (m, q, e₁, e₂) = then-got (n.read s) _ x r e in
      let (f, g) = h.tells s m q w e₁ in
      let (f', g') = (k m).tells q x r (behind (n.bytes m) q s g w) e₂ in
      rw (d m x f f') ((f, f'), append_assoc (n.bytes m) ((a m).bytes x) r ∙ ap (λ c. n.bytes m ++ c) g' ∙ g);
}

times-reads : {A : Type 0} (a : Layout A) → Lawful a → (l : List A) (r : Bytes) → All a.Fits l → times_read a.read (length l) (times_bytes a.bytes l ++ r) ≡ got l r
unfolding times_read times_bytes
times-reads a h [] r f = refl
times-reads a h (x ∷ l) r f =
    rw (append_assoc (a.bytes x) (times_bytes a.bytes l) r, h.reads x (times_bytes a.bytes l ++ r) f.0, times-reads a h l r f.1)

times-tells : {A : Type 0} (a : Layout A) → Lawful a → (n : ℕ) (s : Bytes) (l : List A) (r : Bytes) → Bytewise s → times_read a.read n s ≡ got l r → Told (times n a) s l r
unfolding times times_read times_bytes
times-tells a h zero s l r w e = carry (Told (times 0 a) s) [] l s r e ((refl, tt), refl)
times-tells a h (suc n) s l r w e =
    let (x, q, e₁, e₂) = then-got (a.read s) _ l r e in
    let (m, t, e₃, e₄) = then-got (times_read a.read n q) _ l r e₂ in
    let (f, g) = h.tells s x q w e₁ in
    let (f', g') = times-tells a h n q m t (behind (a.bytes x) q s g w) e₃ in
    carry (Told (times (suc n) a) s) (x ∷ m) l t r e₄
    ((ap suc f'.0, (f, f'.1)), append_assoc (a.bytes x) (times_bytes a.bytes m) t ∙ ap (λ c. a.bytes x ++ c) g' ∙ g)

pub times-lawful : {A : Type 0} (n : ℕ) {a : Layout A} → Lawful a → Lawful (times n a)
unfolding times
times-lawful n {a = a} h = record {
  reads = λ l r f. rw (← f.0) (times-reads a h l r f.1);
  tells = times-tells a h n;
}

pub such_lawful : {A : Type 0} {a : Layout A} (test : A → Bool) → Lawful a → Lawful (such a test)
unfolding such
such_lawful {a = a} test h = record {
  reads = λ x r f. rw (h.reads x r f.0, f.1);
  tells = λ s x r w e.
      let (y, q, e₁, e₂) = then-got (a.read s) _ x r e in
      let (f, g) = h.tells s y q w e₁ in
      cond-carry (Told (such a test) s) (test y) y x q r e₂ (λ t. ((f, t), g));
}

pub view-lawful : {A B : Type 0} {a : Layout A} (to : A → B) (from : B → A) → Lawful a → ((x : A) → a.Fits x → from (to x) ≡ x) → Lawful (view a to from)
unfolding view
view-lawful {a = a} to from h back = record {
  reads = λ y r f. rw (h.reads (from y) r f.0, f.1);
  tells = λ s y r w e.
      let (x, q, e₁, e₂) = then-got (a.read s) _ y r e in
      let (f, g) = h.tells s x q w e₁ in
      let b = back x f in
      carry (Told (view a to from) s) (to x) y q r e₂ ((rw b f, ap to b), ap (λ z. a.bytes z ++ q) b ∙ g);
}

pub never-lawful : {A : Type 0} → Lawful (never {A = A})
unfolding never
never-lawful = record {
  reads = λ x r f. absurd f;
  tells = λ s x r w e. let z : ◌≡◌ {A = ℕ} 0 1 = cc in absurd (omega arith);
}

-- ---- the whole bytes

whole-got : {A : Type 0} (m : Read A) (x : A) (r : Bytes) → whole m ≡ got x r → (r ≡ []) × (m ≡ got x [])
whole-got (got y []) x r e = (cc, cc)
whole-got (got y (b ∷ q)) x r e = let z : ◌≡◌ {A = ℕ} 0 1 = cc in absurd (omega arith)
whole-got bad x r e = let z : ◌≡◌ {A = ℕ} 0 1 = cc in absurd (omega arith)

-- the value that fits is found in its bytes
pub parse-bytes : {A : Type 0} {a : Layout A} → Lawful a → (x : A) → a.Fits x → parse a (a.bytes x) ≡ got x []
parse-bytes {a = a} h x f =
    let e : a.read (a.bytes x) ≡ got x [] = ap a.read (sym (append-nil (a.bytes x))) ∙ h.reads x [] f in
    ap whole e

-- and what is found fits and has these bytes
pub bytes-parse : {A : Type 0} {a : Layout A} → Lawful a → (s : Bytes) (x : A) (r : Bytes) → Bytewise s → parse a s ≡ got x r → a.Fits x × (a.bytes x ≡ s)
bytes-parse {a = a} h s x r w e =
    let (_, g) = whole-got (a.read s) x r e in
    let (f, q) = h.tells s x [] w g in
    (f, sym (append-nil (a.bytes x)) ∙ q)

-- so bytes are out of layout exactly where no value that fits has them
pub bad-parse : {A : Type 0} {a : Layout A} → Lawful a → (s : Bytes) → parse a s ≡ bad → (x : A) → a.Fits x → ¬ (a.bytes x ≡ s)
bad-parse {a = a} h s e x f g =
    let k : parse a s ≡ got x [] = ap (parse a) (sym g) ∙ parse-bytes h x f in
    let z : ◌≡◌ {A = ℕ} 0 1 = cc in absurd (omega arith)
