-- The tree over a list that is cut into a part with the bit 0 and a part with the bit 1: the parts are the two sides. Assumes nothing.
use mathlib.Core.Path.{◌≡◌, refl, ap, ap₂, ◌∙◌}
use mathlib.Core.Bool.{Bool, true, false, cond, false≢true}
use mathlib.Core.List.{List, [], ◌∷◌, ◌++◌}
use Prim.Native.Nat.{ℕ, zero, suc, ◌+◌, ◌*◌, ◌≤◌}
use native.Mathlib.Omega.{arith}
use lib.ListN.{length, length-append}
use Rattle.paper.specs.Lists.{keep}
use Rattle.paper.specs.Bits.{Bits, starts, ◌▹◌}
use Rattle.paper.specs.Strings.{Node}
use Rattle.paper.specs.Tree.{key, fork, nodes, common, side, build, root}
use Rattle.paper.proofs.Lists.{all_in, in-all}
use Rattle.paper.proofs.Bits.{pfx-one-way, starts-pfx}
use Rattle.paper.proofs.Tree.{side-free, Apart, Free, sides-full, Below, below_more}
use Rattle.paper.proofs.Order.{before-apart}
use Rattle.paper.proofs.Rebuild.{Beyond, side-low, side-high, parts-common}
use Rattle.bit_order.proofs.Order.{Ordered}

-- bit order keeps each apart from the others
pub ordered-free : (S : List Node) → Ordered key S → Free S
ordered-free [] h = tt
ordered-free (x ∷ S) h = (in-all (Apart x) S (λ y m. before-apart (key x) (key y) (all_in _ S h.0 y m)), ordered-free S h.1)

-- a part with the bit 0 behind p, and one with the bit 1
pub record Parts (p : Bits) (S T : List Node) : Type 0 where
  pub low : Beyond p false S
  pub high : Beyond p true T

-- the root over the two parts
pub root-parts : (S T : List Node) → Parts [] S T → root (S ++ T) ≡ fork [] (build 256 S) (build 256 T)
unfolding root
root-parts S T h = ap₂ (λ s t. fork [] (build 256 s) (build 256 t)) (side-low [] S T h.low h.high) (side-high [] S T h.low h.high)

-- neither part is empty: the tree over both is a fork where they part
pub build-parts : (p : Bits) (x : Node) (S : List Node) (y : Node) (T : List Node) → Parts p (x ∷ S) (y ∷ T) → Below (x ∷ (S ++ (y ∷ T)))
    → build 256 (x ∷ (S ++ (y ∷ T))) ≡ fork p (build 256 (x ∷ S)) (build 256 (y ∷ T))
build-parts p x S y T h b =
    let e = parts-common p x S y T h.low h.high in
    more S b
    ∙ ap (λ q. fork q (build 256 (side (q ▹ false) (x ∷ (S ++ (y ∷ T))))) (build 256 (side (q ▹ true) (x ∷ (S ++ (y ∷ T)))))) e
    ∙ ap₂ (λ s t. fork p (build 256 s) (build 256 t)) (side-low p (x ∷ S) (y ∷ T) h.low h.high) (side-high p (x ∷ S) (y ∷ T) h.low h.high)
  where
    more : (S : List Node) → Below (x ∷ (S ++ (y ∷ T)))
        → build 256 (x ∷ (S ++ (y ∷ T)))
        ≡ fork (common x (S ++ (y ∷ T))) (build 256 (side (common x (S ++ (y ∷ T)) ▹ false) (x ∷ (S ++ (y ∷ T))))) (build 256 (side (common x (S ++ (y ∷ T)) ▹ true) (x ∷ (S ++ (y ∷ T)))))
    more [] b = below_more x y T b
    more (z ∷ S) b = below_more x z (S ++ (y ∷ T)) b

-- ---- how many nodes there are: fewer than two for each label

sides-most : (p : Bits) (S : List Node) → length (side (p ▹ false) S) + length (side (p ▹ true) S) ≤ length S
unfolding side keep
sides-most p [] = omega arith
sides-most p (x ∷ S) = by (starts (p ▹ false) (key x)) (starts (p ▹ true) (key x)) refl refl (sides-most p S)
  where
    by : (b c : Bool) → starts (p ▹ false) (key x) ≡ b → starts (p ▹ true) (key x) ≡ c → length (side (p ▹ false) S) + length (side (p ▹ true) S) ≤ length S
        → length (cond b (x ∷ side (p ▹ false) S) (side (p ▹ false) S)) + length (cond c (x ∷ side (p ▹ true) S) (side (p ▹ true) S)) ≤ suc (length S)
    by true true e f h = absurd (false≢true (pfx-one-way p false true (starts-pfx _ _ e) (starts-pfx _ _ f)))
    by true false e f h = omega arith
    by false true e f h = omega arith
    by false false e f h = omega arith

pub build-few : (n : ℕ) (S : List Node) → Free S → ¬ (S ≡ []) → suc (length (nodes (build n S))) ≤ 2 * length S
unfolding build
build-few zero [] f h = absurd (h refl)
build-few zero (x ∷ S) f h = omega arith
build-few (suc n) [] f h = absurd (h refl)
build-few (suc n) (x ∷ []) f h = omega arith
build-few (suc n) (x ∷ y ∷ S) f h =
    let p = common x (y ∷ S) in
    let half : (d : Bool) → suc (length (nodes (build n (side (p ▹ d) (x ∷ y ∷ S))))) ≤ 2 * length (side (p ▹ d) (x ∷ y ∷ S)) = λ d.
    build-few n (side (p ▹ d) (x ∷ y ∷ S)) (side-free (p ▹ d) (x ∷ y ∷ S) f) (sides-full x y S f d) in
    omega (
      arith,
      half false,
      half true,
      sides-most p (x ∷ y ∷ S),
      length-append (nodes (build n (side (p ▹ false) (x ∷ y ∷ S)))) (nodes (build n (side (p ▹ true) (x ∷ y ∷ S)))),
    )
