-- The contract of `gather` leaves one outcome: a row of bytes is told by its leaves and by what lies behind them. Assumes nothing.
use mathlib.Core.Path.{◌≡◌, sym, ap₂, ◌∙◌}
use mathlib.Core.List.{List, ◌++◌}
use Prim.Native.Nat.{ℕ, ◌*◌, ◌≤◌}
use native.Mathlib.Omega.{arith}
use lib.ListN.{length, drop, take-append-drop}
use Rattle.paper.specs.Bytes.{Bytes, Bytewise}
use Rattle.paper.specs.Strings.{Node}
use Rattle.bit_order.proofs.Told.{leaves-one}
use Rattle.gather.specs.Gathered.{Gained}

pub gained-one : (before a b : Bytes) (n m k : ℕ) (more : List Node) → Bytewise a → Bytewise b → m * 68 ≤ length before → Gained before a n m more → Gained before b n k more → (m ≡ k) × (a ≡ b)
gained-one before a b n m k more v w h x y =
    let e : m ≡ k = x.number ∙ sym y.number in
    let front = leaves-one m a b v w (omega (arith, x.size)) (omega (arith, y.size)) (x.leaves ∙ sym (rw e y.leaves)) in
    let back : drop (m * 68) a ≡ drop (m * 68) b = x.rest ∙ sym (rw e y.rest) in
    (e, sym (take-append-drop (m * 68) a) ∙ ap₂ ◌++◌ front back ∙ take-append-drop (m * 68) b)
