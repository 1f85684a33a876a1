-- `reply::spell`: after i bytes their digits stand in front.
use Rattle.std.proofs.Common.{◌≡◌, ◌*◌, length, take}
use Rattle.reply.specs.Text.{hex_text}
use Rattle.reply.proofs.spell.Given as goal

abbrev pub invariant-loop-i : goal.invariant-loop-i
invariant-loop-i l = (length l.text ≡ length l.initial.text) × (take (l.i * 2) l.text ≡ hex_text (take l.i l.bytes))
