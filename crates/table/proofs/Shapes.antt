-- Tables in shape: what a test that fails, and all that pass, say of the whole, and what tables in shape say of their bytes. Assumes
-- nothing.
use mathlib.Core.Path.{◌≡◌, refl, sym, ap, ap₂, ◌∙◌, subst}
use mathlib.Core.Logic.{by_cases}
use mathlib.Core.Bool.{true, false}
use mathlib.Core.List.{List, []}
use Prim.Native.Nat.{ℕ, suc, ◌*◌, ◌≤◌, ◌<◌}
use native.Mathlib.Omega.{arith}
use native.Mathlib.Decide.{dec_lt}
use lib.ListN.{length}
use borrow.Author.Tests.{le-leb, lt-leb}
use Rattle.paper.specs.Lists.{All}
use Rattle.paper.specs.Numbers.{wide, record_size}
use Rattle.paper.specs.Bytes.{Bytes, Bytewise}
use Rattle.paper.specs.Labelling.{plain}
use Rattle.paper.specs.Layout.{Read, got, bad}
use Rattle.paper.specs.Table.{Record, record_field, counted, head_lies, follows, in_shape}
use Rattle.paper.proofs.Lists.{and_left, and_right, not-both}
use Rattle.record.specs.Places.{record_at, records_in}
use Rattle.std.specs.Prelude.{Option, None, Some}
use Rattle.std.specs.Option.{is_some}
use Rattle.table.specs.Index.{Indexed, Unlinked}
use Rattle.table.specs.declared.index.Index.{Index}
use Rattle.table.specs.Shape.{shaped_read, shaped, Counted, Tested, Shaped}
use Rattle.table.proofs.Rules.{shape-none, shape-more, shape-stop}
use Rattle.record_form.proofs.Formed.{formed}
use Rattle.table.proofs.Read.{counted-told, counted-short, counted-got, counted-bad, counted-stands}

-- the first i records have passed
pub record Passed (s : Bytes) (i epoch : ℕ) : Type 0 where
  pub forms : (k : ℕ) → k < i → formed s k ≡ true
  pub shape : in_shape plain epoch [] (records_in i s) ≡ true

pub passed_none : (s : Bytes) (epoch : ℕ) → Passed s 0 epoch
passed_none s epoch = record { forms = λ k h. absurd (omega arith); shape = shape-none s epoch }

pub passed-more : (s : Bytes) (i epoch : ℕ) → Passed s i epoch → formed s i ≡ true → follows plain epoch (records_in i s) (record_at s i) ≡ true → Passed s (suc i) epoch
passed-more s i epoch p f e = record {
  forms = λ k h. by_cases (dec_lt k i) (λ l. p.forms k l) (λ l. let q : k ≡ i = omega arith in rw q f);
  shape = shape-more s epoch i p.shape e;
}

-- ---- the records

pub short-fails : (s : Bytes) → Bytewise s → (n epoch : ℕ) → length s < n * record_size → shaped_read epoch (counted s n) ≡ false
short-fails s w n epoch h = ap (shaped_read epoch) (counted-short s w n h)

module _ (s : Bytes) (w : Bytewise s) (n : ℕ) (room : n * record_size ≤ length s) (epoch : ℕ) where
  pub form-fails : (i : ℕ) → i < n → formed s i ≡ false → Counted s n epoch None
  form-fails i h f = (ap (shaped_read epoch) (counted-bad s w n room i h f))

  pub rule-fails : (i : ℕ) → i < n → follows plain epoch (records_in i s) (record_at s i) ≡ false → Counted s n epoch None
  rule-fails i h f = (by (counted s n) refl)
    where
      by : (m : Read (List Record)) → counted s n ≡ m → shaped_read epoch m ≡ false
      by bad e = refl
      by (got rs r) e = ap (in_shape plain epoch []) (counted-told s w n rs r e).is ∙ shape-stop s epoch n i h f

  pub all_pass : (y : Index) → y.records.now ≡ s → y.count ≡ n → Passed s n epoch → Indexed s n y → Unlinked n y → Counted s n epoch (Some y)
  all_pass y r c p x u = record { records = r; count = c; is = ap (shaped_read epoch) (counted-got s w n room p.forms) ∙ p.shape; index = x; rest = u }

-- ---- the tables

module _ (records heads : Bytes) (count epoch : ℕ) where
  pub head-fails : length heads < suc epoch * wide → Tested records heads count epoch None
  unfolding shaped head_lies
  head-fails h = rw (lt-leb (suc epoch * wide) (length heads) h)

  module _ (lies : suc epoch * wide ≤ length heads) where
    lies-is : shaped records heads count epoch ≡ shaped_read epoch (counted records count)
    unfolding shaped head_lies
    lies-is = rw (le-leb (suc epoch * wide) (length heads) lies)

    pub records-fail : Bytewise records → length records < count * record_size → Tested records heads count epoch None
    records-fail w h = lies-is ∙ short-fails records w count epoch h

    pub records-decide : (r : Option Index) → Counted records count epoch r → Tested records heads count epoch r
    records-decide None c = lies-is ∙ c
    records-decide (Some x) c = record { is = lies-is ∙ c.is; records = c.records; count = c.count; index = c.index; rest = c.rest }

-- an index is there just where the tables are in shape
pub found-is : (records heads : Bytes) (count epoch : ℕ) (r : Option Index) → Tested records heads count epoch r → shaped records heads count epoch ≡ is_some r
found-is records heads count epoch None t = t
found-is records heads count epoch (Some x) t = t.is

-- ---- what tables in shape say

pub shaped-told : (records heads : Bytes) (count epoch : ℕ) → Bytewise records → shaped records heads count epoch ≡ true → Shaped records heads count epoch
unfolding shaped
shaped-told records heads count epoch w e = by (counted records count) refl (and_right (head_lies heads epoch) _ e)
  where
    by : (m : Read (List Record)) → counted records count ≡ m → shaped_read epoch m ≡ true → Shaped records heads count epoch
    by bad q f = not-both f refl
    by (got rs r) q f =
        let t = counted-told records w count rs r q in
        record {
          read = q ∙ ap₂ got t.is t.all;
          room = t.room;
          shape = sym (ap (in_shape plain epoch []) t.is) ∙ f;
          stands = counted-stands records w count rs r q;
          fits = subst (All record_field.Fits) t.is t.fits;
          lies = and_left _ _ e;
        }
