-- Each turn spells a byte more, behind those before it.
use Rattle.std.proofs.Common.{arith, length-set, refl}
use Rattle.reply.specs.Text.{hex_text}
use Rattle.reply.proofs.Spelt.{spelt}
use Rattle.reply.proofs.spell.Goals as goal

pub loop-i-init : goal.loop-i-init
unfolding hex_text
loop-i-init c = (refl, refl)

pub loop-i-preserved : goal.loop-i-preserved
loop-i-preserved c =
    let v = c.loop-i.invariant in
    (simp length-set v.0, spelt c.args.bytes.now c.loop-i.text c.loop-i.i c.digit.result c.digit-in-loop-i.result (omega arith) (omega arith) v.1 c.digit.ensures c.digit-in-loop-i.ensures)
