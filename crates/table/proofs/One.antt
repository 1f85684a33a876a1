-- Where the tables are in shape, the contract of `in_shape` leaves one index. Assumes nothing.
use mathlib.Core.Path.{◌≡◌, sym, ◌∙◌}
use mathlib.Core.Logic.{by_cases}
use Prim.Native.Nat.{ℕ}
use native.Mathlib.Omega.{arith}
use native.Mathlib.Decide.{dec_lt}
use lib.Seq.{ext_get_or}
use Rattle.std.specs.Prelude.{Some}
use Rattle.paper.specs.Bytes.{Bytes}
use Rattle.table.specs.Shape.{Tested}
use Rattle.table.specs.declared.index.Index.{Index}
use Rattle.table.proofs.Last.{linked-one}

pub index-one : (records heads : Bytes) (count epoch : ℕ) (x y : Index) → Tested records heads count epoch (Some x) → Tested records heads count epoch (Some y)
    → (x.records.now ≡ y.records.now) × (x.count ≡ y.count) × (x.first ≡ y.first) × (x.next ≡ y.next)
index-one records heads count epoch x y t u =
    let a = t.index in
    let b = u.index in (
      t.records ∙ sym u.records,
      t.count ∙ sym u.count,
      ext_get_or 0 x.first y.first (a.width ∙ sym b.width) (λ i h. linked-one _ _ (a.heads i (omega (arith, a.width)) ∙ sym (b.heads i (omega (arith, a.width))))),
      ext_get_or 0 x.next y.next (a.room ∙ sym b.room) (λ k h.
          by_cases (dec_lt k count) (λ l. linked-one _ _ (a.links k l ∙ sym (b.links k l))) (λ l. t.rest k (omega arith) ∙ sym (u.rest k (omega arith)))),
    )
