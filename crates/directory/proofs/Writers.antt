-- A writer over what publishing left answers where the arguments are in bounds, the epoch is reached, nothing clashes and there is room; that it
-- answers nowhere else is `answered` of `paper`. Assumes nothing.
use mathlib.Core.Path.{◌≡◌, ap, ◌∙◌}
use mathlib.Core.Bool.{Bool, true, ◌&&◌}
use mathlib.Core.List.{List, []}
use Prim.Native.Nat.{ℕ, suc, ◌*◌, ◌≤◌}
use lib.Dec.{leb}
use lib.ListN.{length}
use borrow.Author.Tests.{le-leb}
use Rattle.paper.specs.Numbers.{wide}
use Rattle.paper.specs.Bytes.{Bytes, pasted}
use Rattle.paper.specs.Labelling.{Labelling}
use Rattle.paper.specs.Layout.{got}
use Rattle.paper.specs.Table.{Record, records_within, heads_within, counted, head_lies, in_shape}
use Rattle.paper.specs.Write.{write_read, write_with}
use Rattle.paper.specs.Standing.{Standing}
use Rattle.paper.specs.declared.State.{State}
use Rattle.paper.proofs.Lists.{and_both}
use Rattle.paper.proofs.Verdicts.{verdict-all}
use Rattle.paper.specs.Answer as W

module _ (lab : Labelling) (records heads : Bytes) (state : State) (rs : List Record) (out : Bytes) (input : Bool) (t : ℕ) (clear : List Record → Bool) (proof : List Record → Bytes)
    (stands : Standing lab records heads state rs) where
  read : write_read lab records heads state out t clear proof (counted records state.count) ≡ write_read lab records heads state out t clear proof (got rs [])
  read = ap (write_read lab records heads state out t clear proof) stands.read

  pub answers : input ≡ true → t ≤ state.epoch → clear rs ≡ true → length (proof rs) ≤ length out
      → write_with lab records heads state out input t clear proof ≡ record { answer = W.written (length (proof rs)) state; out = pasted out 0 (proof rs) }
  unfolding write_with head_lies
  answers i k c n =
      let given : (records_within records && (heads_within heads && input)) ≡ true = and_both stands.records-within (and_both stands.heads-within i) in
      let table : (leb (suc state.epoch * wide) (length heads) && in_shape lab state.epoch [] rs) ≡ true = and_both (le-leb _ _ stands.lies) stands.shape in
      verdict-all _ _ _ (given, tt) ∙ read ∙ verdict-all _ _ _ (table, (le-leb _ _ k, (c, (le-leb _ _ n, tt))))
