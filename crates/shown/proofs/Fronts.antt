-- Header, head and number by places: they are the first 108 bytes. Assumes nothing.
use mathlib.Core.Path.{◌≡◌, refl, sym, ap, ◌∙◌}
use mathlib.Core.Bool.{true, false, ◌&&◌, and-false}
use mathlib.Core.List.{[], ◌∷◌}
use Prim.Native.Nat.{ℕ, ◌≤◌, ◌<◌}
use native.Mathlib.Omega.{arith}
use lib.Dec.{leb, leb-zero}
use lib.ListN.{length, take, drop}
use lib.Seq.{drop-drop}
use borrow.Author.Tests.{le-leb, lt-leb, leb-true}
use Rattle.paper.specs.Numbers.{version_most}
use Rattle.paper.specs.Bytes.{Bytes, Bytewise, be, number, same}
use Rattle.paper.specs.Strings.{Head}
use Rattle.paper.specs.Layout.{Read, got, bad}
use Rattle.paper.specs.Fields.{head_field, opens}
use Rattle.paper.proofs.Lists.{and_right}
use Rattle.fields.proofs.Flat.{Flat, flat-as, flat-yes, flat-short, flat-no, flat-got, fixed-flat, within-flat, head-flat, seq-flat, view-flat}
use Rattle.std.specs.Prelude.{Some, None}
use Rattle.shown.specs.declared.Front.{Front}
use Rattle.shown.specs.Form.{front_field, front_of, front_at, head_in}

-- "VKD", 16-bit version 1, and the kind
abbrev pub header : ℕ → Bytes
header kind = 0x56 ∷ 0x4B ∷ 0x44 ∷ 0 ∷ 1 ∷ kind ∷ []

abbrev pub number_in : Bytes → ℕ
number_in s = number (take 2 (drop 106 s))

front-flat : (kind : ℕ) → Flat (front_field kind).read 108 (λ s. same (take 6 s) (header kind) && leb (number_in s) version_most) (λ s. (head_in s, number_in s))
unfolding be
front-flat kind = flat-as refl (λ s. rw (drop-drop 100 6 s, leb-zero (number_in s))) (λ s. rw (drop-drop 4 6 s, drop-drop 36 6 s, drop-drop 68 6 s, drop-drop 100 6 s))
    (view-flat _ _ _ (seq-flat (opens kind) _ (fixed-flat _) (λ _. seq-flat head_field _ head-flat (λ _. within-flat 2 0 version_most))))

module _ (kind : ℕ) (s : Bytes) (w : Bytewise s) where
  -- as it is tested
  pub front-short : length s < 108 → front_at kind s ≡ None
  unfolding front_at
  front-short h = rw (flat-short (front-flat kind) s w h)

  pub front-other : same (take 6 s) (header kind) ≡ false → front_at kind s ≡ None
  unfolding front_at
  front-other e = rw (flat-no (front-flat kind) s w (rw e))

  pub front-large : version_most < number_in s → front_at kind s ≡ None
  unfolding front_at
  front-large h = rw (flat-no (front-flat kind) s w (rw (lt-leb (number_in s) version_most h, and-false)))

  pub front-good : 108 ≤ length s → same (take 6 s) (header kind) ≡ true → number_in s ≤ version_most → front_at kind s ≡ Some (record { number = number_in s; epoch = (head_in s).epoch })
  unfolding front_at
  front-good l e h = rw (flat-yes (front-flat kind) s w l (rw (e, le-leb (number_in s) version_most h)))

  -- what it tells
  pub record FrontTold (n t : ℕ) : Type 0 where
    pub room : 108 ≤ length s
    pub small : n ≤ version_most
    pub number : n ≡ number_in s
    pub epoch : t ≡ (head_in s).epoch
    pub reads : (front_field kind).read s ≡ got (head_in s, n) (drop 108 s)

  pub front-told : (n t : ℕ) → front_at kind s ≡ Some (record { number = n; epoch = t }) → FrontTold n t
  unfolding front_at
  front-told n t e = by ((front_field kind).read s) refl e
    where
      by : (m : Read (Head × ℕ)) → (front_field kind).read s ≡ m → front_of m ≡ Some (record { number = n; epoch = t }) → FrontTold n t
      by bad q e = let z : ◌≡◌ {A = ℕ} 0 1 = cc in absurd (omega arith)
      by (got x r) q e =
          let (l, o, v, d) = flat-got (front-flat kind) s w x r q in
          let f : ◌≡◌ {A = Front} (record { number = x.1; epoch = x.0.epoch }) (record { number = n; epoch = t }) = cc in
          let i : n ≡ number_in s = sym (ap (λ (y : Front). y.number) f) ∙ sym (ap (λ y. y.1) v) in
          let j : t ≡ (head_in s).epoch = sym (ap (λ (y : Front). y.epoch) f) ∙ sym (ap (λ y. y.0.epoch) v) in
          record {
            room = l;
            small = omega (arith, leb-true (number_in s) version_most (and_right (same (take 6 s) (header kind)) _ o));
            number = i;
            epoch = j;
            reads = rw i (flat-yes (front-flat kind) s w l o);
          }

  pub front-bad : front_at kind s ≡ None → (front_field kind).read s ≡ bad
  unfolding front_at
  front-bad e = by ((front_field kind).read s) e
    where
      by : (m : Read (Head × ℕ)) → front_of m ≡ None → m ≡ bad
      by bad e = refl
      by (got x r) e = let z : ◌≡◌ {A = ℕ} 0 1 = cc in absurd (omega arith)
