-- `path_fields::write_leaf`: the fields of an end are bytes of the leaf.
use native.Mathlib.Omega.{arith}
use mathlib.Core.Path.{◌≡◌, sym, ap, ◌∙◌, subst}
use mathlib.Core.Bool.{true, false}
use mathlib.Core.List.{◌∷◌}
use lib.ListN.{length, take, drop}
use lib.Seq.{take_all}
use Rattle.paper.specs.Bits.{Bits, bits_of}
use Rattle.paper.specs.Strings.{Node}
use Rattle.paper.specs.Tree.{key}
use Rattle.paper.specs.Path.{same_bits, end_at}
use Rattle.paper.specs.Level.{entry_leaf}
use Rattle.ranges.proofs.Slices.{length_part}
use Rattle.tree.proofs.Rising.{all-at}
use Rattle.tree_path.specs.Measured.{end_bytes}
use Rattle.path_fields.specs.Written.{Wrote}
use Rattle.tree_path.proofs.Ends.{leaf-this, leaf-other}
use Rattle.path_fields.proofs.write_leaf.Goals as goal
use Rattle.path_fields.proofs.write_leaf.Goals.{After-is_label}

-- the end at the leaf
abbrev label : After-is_label → Bits
label c = bits_of c.args.label.now

abbrev node : After-is_label → Node
node c = entry_leaf c.args.leaf.now

this : (c : After-is_label) → same_bits (key (node c)) (label c) ≡ true → end_bytes (end_at (label c) (node c)) ≡ 0 ∷ take 36 (drop 32 c.args.leaf.now)
this c = leaf-this c.args.leaf.now (omega (arith, c.told-leaf)) (all-at _ c.args.leaf.now 0 (λ i h. c.fits-leaf i)) (label c)

other : (c : After-is_label) → same_bits (key (node c)) (label c) ≡ false → end_bytes (end_at (label c) (node c)) ≡ 1 ∷ c.args.leaf.now
other c e =
    leaf-other c.args.leaf.now (omega (arith, c.told-leaf)) (all-at _ c.args.leaf.now 0 (λ i h. c.fits-leaf i)) (label c) e
    ∙ ap (λ x. 1 ∷ x) (take_all 68 c.args.leaf.now (omega (arith, c.told-leaf)))

pub write_end-requires : goal.write_end-requires
write_end-requires c =
    let s = c.args.leaf.now in
    omega (arith, c.requires, c.told-leaf, ap length (this (goal.at.write_end-requires c).After-is_label (sym c.is_label.ensures ∙ c.if-is_label.true)), length_part s 32 36 (omega (arith, c.told-leaf)))

pub returns-then-is_label : goal.returns-then-is_label
returns-then-is_label c =
    subst (λ x. Wrote c.args.out.now c.args.at x c.write_end.new.out c.write_end.result) (sym (this (goal.at.returns-then-is_label c).After-is_label (sym c.is_label.ensures ∙ c.if-is_label.true))) c.write_end.ensures

pub write_end-requires-2 : goal.write_end-requires-2
write_end-requires-2 c =
    omega (arith, c.requires, c.told-leaf, ap length (other (goal.at.write_end-requires-2 c).After-is_label (sym c.is_label.ensures ∙ c.if-is_label.false)))

pub returns : goal.returns
returns c =
    subst (λ x. Wrote c.args.out.now c.args.at x c.write_end-2.new.out c.write_end-2.result) (sym (other (goal.at.returns c).After-is_label (sym c.is_label.ensures ∙ c.if-is_label.false))) c.write_end-2.ensures
