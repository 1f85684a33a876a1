-- Places that move on with a loop, one key or one path a turn, and the epochs there. Assumes nothing.
use mathlib.Core.Path.{◌≡◌, refl, sym, ap, ◌∙◌}
use Prim.Native.Nat.{ℕ, ◌+◌, ◌-◌, ◌≤◌}
use native.Mathlib.Omega.{arith}
use lib.ListN.{length, drop, length-drop}
use native.Mathlib.Numerals.{add-one}
use Rattle.paper.specs.Bytes.{Bytes}
use Rattle.paper.specs.Layout.{got}
use Rattle.paper.specs.Fields.{path_field}
use Rattle.paper.specs.Path.{this, other, off, none, epoch_of}
use Rattle.paper.specs.Path as P
use Rattle.path_form.specs.Parsed.{placed, path_of, path_at}
use Rattle.walks.specs.Walk.{stepped}
use Rattle.walks.specs.declared.Reader.{Reader}
use Rattle.walks.proofs.Walked.{step-passed}
use Rattle.std.specs.Prelude.{Ok}
use Rattle.runs.specs.declared.Leaf.{Leaf}
use Rattle.shown.specs.declared.Asked.{Asked}
use Rattle.runs.specs.Runs.{end_epoch, leaf_of, onward, item_on, item_at, leaf_at, path_on, place_at, epoch_from}

onward-on : (on : ℕ → ℕ) (start k at : ℕ) → at ≡ onward on start k → on at ≡ onward on start (k + 1)
unfolding onward
onward-on on start k at e = rw (add-one k) (ap on e)

pub item-next : (s : Bytes) (k at : ℕ) → at ≡ item_at s k → item_on s at ≡ item_at s (k + 1)
item-next s k at e = onward-on (item_on s) 108 k at e

pub place-next : (s : Bytes) (first k at : ℕ) → at ≡ place_at s first k → path_on s at ≡ place_at s first (k + 1)
place-next s first k at e = onward-on (path_on s) first k at e

-- the leaf of the k-th path, from 0
module _ (s : Bytes) (first k at : ℕ) (x : Leaf) (here : at ≡ place_at s first k) (is : x ≡ leaf_at s at) where
  pub leaf-next : x.next ≡ place_at s first (k + 1)
  leaf-next = rw is (place-next s first k at here)

  pub leaf-epoch : x.epoch ≡ epoch_from s first (k + 1)
  unfolding epoch_from
  leaf-epoch = rw (is, add-one k, here)

pub place_none : (s : Bytes) (first : ℕ) → first ≡ place_at s first 0
unfolding onward
place_none s first = refl

pub item-none : (s : Bytes) → 108 ≡ item_at s 0
unfolding onward
item-none s = refl

pub epoch-none : (s : Bytes) (first : ℕ) → 0 ≡ epoch_from s first 0
unfolding epoch_from
epoch-none s first = refl

-- the epoch of a path's leaf is that of the path that is read there
pub path-epoch : (s : Bytes) (at : ℕ) (x : P.Path) (r : Bytes) → path_field.read (drop at s) ≡ got x r → (leaf_at s at).epoch ≡ epoch_of x.end
unfolding path_at
path-epoch s at x r e = rw e (by _ x.end)
  where
    by : (n : ℕ) (x : P.End) → end_epoch (placed n x) ≡ epoch_of x
    by n (this c e) = refl
    by n (other m c e) = refl
    by n (off p l r) = refl
    by n none = refl

-- what is read at a place tells the place behind it
pub path-moves : (s : Bytes) (at next : ℕ) (x : P.Path) → next ≤ length s → path_field.read (drop at s) ≡ got x (drop next s) → path_on s at ≡ next
unfolding path_at
path-moves s at next x l e = let n : length s - length (drop next s) ≡ next = omega (arith, length-drop next s) in ap (λ x. (leaf_of (path_of (length s) at x)).next) e ∙ n

-- and so does a step over it
pub step-moves : (a : Asked) (r q : Reader) → stepped a r ≡ Ok q → q.at ≡ path_on r.proof.now r.at
unfolding path_at
step-moves a r q h =
    let p = step-passed a r q h in
    p.place ∙ sym (ap (λ x. (leaf_of (path_of (length r.proof.now) r.at x)).next) p.reads)
