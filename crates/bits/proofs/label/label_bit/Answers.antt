-- `bits::label::label_bit` gives the bit of the definition, by division, or false past the end. Assumes nothing.
use Rattle.std.proofs.Common.{◌≡◌, ◌/◌, ◌≤◌, length, get_or, false, sym, rules, arith}
use lib.ListN.{get_or-eq_default}
use Rattle.paper.specs.Bits.{bits_of}
use Rattle.paper.proofs.Bytes.{bits_of-length}
use Rattle.bits.proofs.Bits.{bits_of-bit}
use Rattle.bits.proofs.label.label_bit.Goals as goal

pub returns-in_default : goal.returns-in_default
returns-in_default c =
    let label = c.args.label.now in
    let past : length label ≤ c.args.i / 8 = search rules in
    sym (get_or-eq_default (bits_of label) false (omega (arith, bits_of-length label)))

pub returns : goal.returns
returns c =
    let label = c.args.label.now in
    let i = c.args.i in
    let e : c.in-Some.byte.now ≡ get_or label (i / 8) 0 = search rules in
    rw e (sym (bits_of-bit label i (c.type_inv.label (i / 8)).fits))
