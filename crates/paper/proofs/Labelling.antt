-- What follows from a labelling's tie: labels have 32 bytes, and where no two strings have one digest a label tells its strings. The base's
-- labelling obeys all of it. Assumes nothing.
use mathlib.Core.Path.{◌≡◌, refl, sym, ap, ◌∙◌, subst}
use mathlib.Core.List.{List, [], ◌∷◌, head-eq_of_cons-eq}
use Prim.Native.Nat.{ℕ, ◌^◌, ◌<◌}
use native.Mathlib.Omega.{arith}
use lib.ListN.{length, length-append}
use Rattle.fips.specs.Sha256.{sha256}
use Rattle.fips.proofs.Size.{sha256-length}
use Rattle.paper.specs.Lists.{◌∈◌, All}
use Rattle.paper.specs.Bytes.{Bytes}
use Rattle.paper.specs.Bits.{bits_of}
use Rattle.paper.specs.Strings.{Kind, version, marker, kind_byte}
use Rattle.paper.specs.Labelling.{Labelling, plain, EndsIn, Ties, Tied, Sized, Telling}
use Rattle.paper.proofs.Lists.{append-split}
use Rattle.paper.proofs.Bytes.{bits_of-inj}
use Rattle.paper.proofs.Strings.{label-inj}
use Rattle.paper.proofs.Fits.{Wide, digest-wide}
use Rattle.paper.proofs.Collide.{OneToOne}

-- ---- a label is a digest

ties-wide : (l : List Bytes) (d : Bytes) → Ties l d → Wide d
ties-wide [] d t = absurd t
ties-wide (s ∷ []) d t = subst Wide t (digest-wide s)
ties-wide (s ∷ u ∷ l) d t = ties-wide (u ∷ l) d t.1

module _ {lab : Labelling} (tied : Tied lab) (kind : Kind) (n : ℕ) (name : Bytes) where
  label-wide : Wide (lab.label kind n name)
  label-wide = ties-wide (lab.strings kind n name) (lab.label kind n name) (tied.ties kind n name)

pub tied-sized : {lab : Labelling} → Tied lab → Sized lab
tied-sized tied = record { size = λ kind n name. (label-wide tied kind n name).size }

-- ---- it tells its strings

-- digests that end one string are one
ends_same : (s x y : Bytes) → EndsIn s (sha256 x) → EndsIn s (sha256 y) → sha256 x ≡ sha256 y
ends_same s x y e f =
    let q : length e.front ≡ length f.front = omega (
      arith,
      length-append e.front (sha256 x),
      length-append f.front (sha256 y),
      ap length e.whole,
      ap length f.whole,
      sha256-length x,
      sha256-length y,
    ) in
    (append-split e.front (sha256 x) f.front (sha256 y) q (e.whole ∙ sym f.whole)).1

ties-same : (U : List Bytes) → OneToOne U → (l m : List Bytes) (d : Bytes) → length l ≡ length m → All (λ s. s ∈ U) l → All (λ s. s ∈ U) m → Ties l d → Ties m d → l ≡ m
ties-same U f [] m d n i j t u = absurd t
ties-same U f (s ∷ l) [] d n i j t u = absurd u
ties-same U f (s ∷ []) (x ∷ []) d n i j t u = ap (λ s. s ∷ []) (f s x i.0 j.0 (t ∙ sym u))
ties-same U f (s ∷ []) (x ∷ y ∷ m) d n i j t u = absurd (omega arith)
ties-same U f (s ∷ r ∷ l) (x ∷ []) d n i j t u = absurd (omega arith)
ties-same U f (s ∷ r ∷ l) (x ∷ y ∷ m) d n i j t u =
    let rest : r ∷ l ≡ y ∷ m = ties-same U f (r ∷ l) (y ∷ m) d (omega arith) i.1 j.1 t.1 u.1 in
    let ends : EndsIn y (sha256 s) = subst (λ r. EndsIn r (sha256 s)) (head-eq_of_cons-eq rest) t.0 in
    let first : s ≡ x = f s x i.0 j.0 (ends_same y s x ends u.0) in
    cc

pub label-tells : {lab : Labelling} → Telling lab → (U : List Bytes) → OneToOne U → (k l : Kind) (n m : ℕ) (a b : Bytes) → n < 2 ^ 16 → m < 2 ^ 16
    → All (λ s. s ∈ U) (lab.strings k n a) → All (λ s. s ∈ U) (lab.strings l m b) → bits_of (lab.label k n a) ≡ bits_of (lab.label l m b) → (k ≡ l) × (n ≡ m) × (a ≡ b)
label-tells {lab} telling U f k l n m a b p q i j e =
    let tied = telling.tied in
    let x = label-wide tied k n a in
    let y = label-wide tied l m b in
    let same : lab.label k n a ≡ lab.label l m b = bits_of-inj (lab.label k n a) (lab.label l m b) x.bytes y.bytes (x.size ∙ sym y.size) e in
    let u : Ties (lab.strings k n a) (lab.label l m b) = subst (Ties (lab.strings k n a)) same (tied.ties k n a) in
    let strings : lab.strings k n a ≡ lab.strings l m b =
    ties-same U f (lab.strings k n a) (lab.strings l m b) (lab.label l m b) (tied.as_many k n a ∙ sym (tied.as_many l m b)) i j u (tied.ties l m b) in
    telling.parts k l n m a b p q strings

-- ---- the labelling of the base

abbrev pub plain-tied : Tied plain
plain-tied = record { ties = λ kind n name. refl; each = 1; as_many = λ kind n name. refl }

pub plain-sized : Sized plain
plain-sized = tied-sized plain-tied

pub other-kind : {A : Type 0} → kind_byte version ≡ kind_byte marker → A
other-kind e = absurd (omega (arith, e))

kind-inj : (k l : Kind) → kind_byte k ≡ kind_byte l → k ≡ l
kind-inj version version e = refl
kind-inj version marker e = other-kind e
kind-inj marker version e = other-kind (sym e)
kind-inj marker marker e = refl

pub plain-tells : Telling plain
plain-tells = record {
  tied = plain-tied;
  parts = λ k l n m a b p q e. let (c, d, z) = label-inj p q (head-eq_of_cons-eq e) in (kind-inj k l c, d, z);
}
