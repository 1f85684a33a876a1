-- A part of lent bytes, as a range makes it and as it is told. Assumes nothing.
use mathlib.Core.Path.{◌≡◌, ap, ◌∙◌}
use Prim.Native.Nat.{ℕ, ◌+◌}
use native.Mathlib.Omega.{arith}
use denote.Ref.{Bor}
use Rattle.paper.specs.Bytes.{Bytes}
use Rattle.ranges.specs.Part.{PartAt}

-- a range points so far behind its slice's start
pub part-made : (s part : Bor Bytes) (at : ℕ) (x : Bytes) → part.now ≡ x → part.ref_ptr ≡ (s.ref_ptr.0, at + s.ref_ptr.1) → PartAt s at x part
part-made s part at x b p = record { bytes = b; block = ap (λ q. q.0) p; offset = omega (arith, ap (λ q. q.1) p) }

-- the same place and the same bytes in other words
pub part-told : {s part : Bor Bytes} {a b : ℕ} {x y : Bytes} → PartAt s a x part → a ≡ b → x ≡ y → PartAt s b y part
part-told {s} p e f = record { bytes = p.bytes ∙ f; block = p.block; offset = p.offset ∙ ap (λ n. s.ref_ptr.1 + n) e }
