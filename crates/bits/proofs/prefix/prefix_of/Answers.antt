-- `bits::prefix::prefix_of` packs the first n bits: the whole bytes among them are copied, and the next byte keeps the rest. Assumes nothing.
use Rattle.std.proofs.Common.{◌≡◌, ◌+◌, ◌*◌, ◌-◌, ◌/◌, ◌%◌, ◌≤◌, ◌++◌, length, take, drop, set, replicate, ap, ap₂, sym, ◌∙◌, arith, length-take}
use lib.Seq.{take_all}
use Rattle.std.proofs.lemmas.List.{take-take}
use Rattle.paper.specs.Bits.{bits_of, pack}
use Rattle.paper.proofs.Bytes.{bits_of-length}
use Rattle.ranges.proofs.Slices.{bytewise}
use Rattle.bits.proofs.Pack.{prefix-byte, pack-front, pack-grow, pack-whole}
use Rattle.bits.proofs.prefix.prefix_of.Goals as goal
use Rattle.bits.proofs.prefix.prefix_of.Goals.{After-copy_from_slice, else-whole-label-via-then-whole-label+else-whole-lt32, else-whole-label-via-else-whole-label}

copied : (c : After-copy_from_slice) →
    let s = c.args.label.now in
    let w = c.min-whole.result in
    c.copy_from_slice.new.self ++ drop w (replicate 32 0) ≡ pack 32 (take (w * 8) (take c.args.n (bits_of s)))
copied c =
    let s = c.args.label.now in
    let w = c.min-whole.result in
    let h : w ≤ 32 = grind arith in
    let l : w ≤ length s = grind arith in
    let m : w * 8 ≤ c.args.n = grind arith in
    ap (λ f. f ++ drop w (replicate 32 0)) c.copy_from_slice.ensures.after ∙ sym (pack-front 32 w s h l (bytewise s c.type_inv.label)) ∙ ap (pack 32) (sym (take-take (w * 8) c.args.n (bits_of s) m))

pub returns-then-whole-lt32 : goal.returns-then-whole-lt32
returns-then-whole-lt32 c =
    let n = c.args.n in
    let s = c.args.label.now in
    let w = c.min-whole.result in
    let e : w ≡ n / 8 = grind arith in
    let r : n % 8 ≡ n - w * 8 = omega arith in
    ap₂ (λ out b. set out w b) (copied (goal.at.returns-then-whole-lt32 c).After-copy_from_slice) (c.kept.ensures ∙ rw r (sym (prefix-byte n s w)))
    ∙ pack-grow 32 w (take n (bits_of s))
    ∙ ap (pack 32) (take_all ((w + 1) * 8) (take n (bits_of s)) (omega (arith, length-take n (bits_of s))))

pub returns-else-whole-label : goal.returns-else-whole-label
returns-else-whole-label c =
    let s = c.args.label.now in
    let p = take c.args.n (bits_of s) in
    let w = c.min-whole.result in
    copied (goal.at.returns-else-whole-label c).After-copy_from_slice
    ∙ elim c.else-whole-label.branch [
      | else-whole-label-via-then-whole-label+else-whole-lt32 q ↦ (let e : w ≡ 32 = grind arith in rw e (pack-whole 32 p))
      | else-whole-label-via-else-whole-label q ↦ ap (pack 32) (take_all (w * 8) p (omega (arith, length-take c.args.n (bits_of s), bits_of-length s)))
    ]
