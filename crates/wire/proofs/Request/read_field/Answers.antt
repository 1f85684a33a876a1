-- A field's size and what follows it are a part of the request.
use Rattle.std.proofs.Common.{◌≡◌, ◌++◌, length, take, drop, arith, refl, sym, ap, ◌∙◌, take_all, length-take-le}
use lib.Seq.{take_at}
use Rattle.std.proofs.KnownBytes.{Consumes-trans}
use Rattle.paper.specs.Bytes.{number}
use Rattle.wire.proofs.Joined.{joined}
use Rattle.wire.proofs.Request.read_field.Goals as goal

pub returns-in_err-take-2-clause-within : goal.returns-in_err-take-2-clause-within
returns-in_err-take-2-clause-within g c =
    let (size, e, h) = c.take.ensures.within in
    let (more, d, k) = c.take-2.ensures.within in
    let (bytes, l, j) = joined _ _ _ size more _ _ refl refl h k in
    (bytes, grind (arith, l, e, d), j)

pub returns-clause-within : goal.returns-clause-within
returns-clause-within g c =
    let (size, e, h) = c.take.ensures.within in
    let (more, d, k) = c.take-2.ensures.within in
    let (bytes, l, j) = joined _ _ _ size more _ _ refl refl h k in
    (bytes, grind (arith, l, e, d), j)

pub returns-clause-bytes : goal.returns-clause-bytes
returns-clause-bytes g c =
    let size = c.take.new.buffer in
    let part = c.take-2.new.buffer in
    let n = c.read32-n.result in
    let four : length size ≡ 4 = c.take.auto.buffer in
    let long : length part ≡ n = c.take-2.auto.buffer ∙ length-take-le n c.args.buffer.now (omega arith) in
    let front : take n (part ++ drop n c.args.buffer.now) ≡ part = take_at part (drop n c.args.buffer.now) n long in
    (size, four, sym (c.read32-n.ensures ∙ ap number (take_all 4 size (omega arith))), rw front (Consumes-trans _ _ _ size part c.in_ok-take.ensures.bytes c.in_ok-take-2.ensures.bytes))
