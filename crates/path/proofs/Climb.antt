-- The root that a path gives: the digests of its nodes from the end upwards. Assumes nothing.
use mathlib.Core.Path.{◌≡◌, refl, sym, ap, ◌∙◌}
use mathlib.Core.Bool.{Bool, false}
use mathlib.Core.List.{List, [], ◌∷◌}
use Prim.Native.Nat.{ℕ, ◌+◌, ◌*◌, ◌≤◌, ◌<◌}
use native.Mathlib.Omega.{arith}
use lib.ListN.{length, take, drop, get_or}
use lib.Seq.{drop-drop, length-take-le}
use Rattle.fips.specs.Sha256.{sha256}
use Rattle.paper.specs.Numbers.{wide}
use Rattle.paper.specs.Bytes.{Bytes, Bytewise, number}
use Rattle.paper.specs.Bits.{Bits, bits_of, pack}
use Rattle.paper.specs.Strings.{leaf, inner, leaf_string, inner_string}
use Rattle.paper.specs.Tree.{digest}
use Rattle.paper.specs.Path.{Step, End, step_node, end_node, path_top}
use Rattle.paper.proofs.Bytes.{bits_of-length, pack-bits_of}
use Rattle.paper.proofs.Lists.{all_take, all_drop}
use Rattle.paper.proofs.Fits.{Wide}
use Rattle.ranges.proofs.Slices.{length_part}
use Rattle.nodes.specs.Join.{joined}
use Rattle.path_form.specs.Places.{step_in, steps_in, end_in, climbed, StepStands, EndStands}
use Rattle.path_form.specs.declared.End as E
use Rattle.path_form.specs.declared.End.TheVariants.{This, Other, Off}
use Rattle.path_form.proofs.Steps.{step-at, no_more}

-- ---- the node of a step, and of an end

bits-size : (x : Bytes) → length x ≡ 32 → length (bits_of x) ≡ 256
bits-size x h = omega (arith, bits_of-length x)

pub step-digest : (label s : Bytes) (at : ℕ) (below : Bytes) (k : ℕ) (prefix sibling : Bytes) (bit : Bool) → length label ≡ 32 → StepStands s at
    → k ≡ number (take 2 (drop at s)) → prefix ≡ pack 32 (take k (bits_of label)) → sibling ≡ take 32 (drop (at + 2) s) → bit ≡ get_or (bits_of label) k false
    → sha256 (joined bit k prefix below sibling) ≡ digest (step_node (bits_of label) (step_in (drop at s)) below)
unfolding step_node joined
step-digest label s at below k prefix sibling bit h st ek ep es eb =
    let n : length (take k (bits_of label)) ≡ k = length-take-le k (bits_of label) (omega (arith, bits-size label h, st.short)) in
    rw (drop-drop 2 at s, ← ek, n, ← ep, ← es, ← eb)

pub leaf-digest : (x commitment : Bytes) (epoch : ℕ) → length x ≡ 32 → Bytewise x → sha256 (leaf_string x commitment epoch) ≡ digest (leaf (bits_of x) commitment epoch)
leaf-digest x commitment epoch h w = ap (λ l. sha256 (leaf_string l commitment epoch)) (sym (ap (λ n. pack n (bits_of x)) (sym h) ∙ pack-bits_of x w))

pub inner-digest : (n : ℕ) (x left right : Bytes) → n ≤ 255 → length x ≡ 32 → pack wide (take n (bits_of x)) ≡ x
    → sha256 (inner_string n x left right) ≡ digest (inner (take n (bits_of x)) left right)
inner-digest n x left right l h e =
    let k : length (take n (bits_of x)) ≡ n = length-take-le n (bits_of x) (omega (arith, bits-size x h)) in
    rw (k, e)

-- ---- upwards from step to step

module _ (L : Bits) (s : Bytes) (at i m : ℕ) (d : Bytes) where
  pub climb-start : m ≤ i → climbed L (drop i (steps_in m (drop at s))) d ≡ d
  unfolding climbed
  climb-start h = rw (no_more i m (drop at s) h)

  pub climb-step : i < m → climbed L (drop i (steps_in m (drop at s))) d ≡ digest (step_node L (step_in (drop (at + 34 * i) s)) (climbed L (drop (i + 1) (steps_in m (drop at s))) d))
  unfolding climbed
  climb-step h = rw (step-at s at i m h)

pub path-climb : (L : Bits) (l : List Step) (e : End) → climbed L l (digest (end_node L e)) ≡ digest (path_top L l e)
unfolding climbed path_top
path-climb L [] e = refl
path-climb L (t ∷ l) e = ap (λ d. digest (step_node L t d)) (path-climb L l e)

-- ---- an end at its place

module _ (label s : Bytes) (l : Wide label) (w : Bytewise s) where
  -- what is to be shown of the digest of an end that stands at its place
  abbrev pub EndDigest : E.End → Bytes → Type 0
  EndDigest e d = EndStands s e → d ≡ digest (end_node (bits_of label) (end_in s e))

  pub this-digest : (at epoch : ℕ) → EndDigest (This at epoch) (sha256 (leaf_string label (take 32 (drop at s)) epoch))
  this-digest at epoch h = leaf-digest label (take 32 (drop at s)) epoch l.size l.bytes

  pub other-digest : (at epoch : ℕ) → EndDigest (Other at epoch) (sha256 (leaf_string (take 32 (drop at s)) (take 32 (drop (at + 32) s)) epoch))
  other-digest at epoch h =
      leaf-digest (take 32 (drop at s)) (take 32 (drop (at + 32) s)) epoch (length_part s at 32 (omega arith)) (all_take _ 32 (drop at s) (all_drop _ at s w))

  pub off-digest : (at : ℕ) → EndDigest (Off at) (sha256 (inner_string (number (take 2 (drop at s))) (take 32 (drop (at + 2) s)) (take 32 (drop (at + 34) s)) (take 32 (drop (at + 66) s))))
  off-digest at h =
      inner-digest (number (take 2 (drop at s))) (take 32 (drop (at + 2) s)) (take 32 (drop (at + 34) s)) (take 32 (drop (at + 66) s)) h.1 (length_part s (at + 2) 32 (omega arith)) h.2
