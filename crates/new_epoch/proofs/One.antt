-- The contract of `head_of` leaves one outcome. Assumes nothing.
use mathlib.Core.Path.{◌≡◌, sym, ap, ◌∙◌}
use mathlib.Core.List.{List}
use Prim.Native.Nat.{ℕ}
use Rattle.std.specs.Prelude.{Result, Ok, Err}
use Rattle.paper.specs.Bytes.{Bytes}
use Rattle.paper.specs.Table.{Record}
use Rattle.paper.specs.declared.Refusal.{Refusal}
use Rattle.paper.proofs.Lists.{not-both}
use Rattle.new_epoch.specs.Headed.{Headed}

pub headed-one : (heads : Bytes) (epoch : ℕ) (rs : List Record) (q r : Result Bytes Refusal) → Headed heads epoch rs q → Headed heads epoch rs r → q ≡ r
headed-one heads epoch rs (Ok g) (Ok h) x y = ap Ok (x.1 ∙ sym y.1)
headed-one heads epoch rs (Ok g) (Err e) x y = not-both x.0 y.1
headed-one heads epoch rs (Err e) (Ok g) x y = not-both y.0 x.1
headed-one heads epoch rs (Err d) (Err e) x y = ap Err (x.0 ∙ sym y.0)
