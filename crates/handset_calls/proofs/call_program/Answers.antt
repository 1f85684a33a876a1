-- What is written of the line lies in its text.
use Rattle.std.proofs.Common.{◌≡◌, length, rules, arith}
use Rattle.line.proofs.Texts.{text-within}
use Rattle.handset_calls.proofs.call_program.Goals as goal

pub as_bytes-requires : goal.as_bytes-requires
as_bytes-requires g c =
    let text = c.program_line.result in
    let room : length text.bytes ≡ 64 = search rules in
    omega (arith, text-within text _ c.program_line.ensures)
