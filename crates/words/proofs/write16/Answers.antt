-- `words::write16`: the number's bytes lie over the part.
use Rattle.std.proofs.Common.{◌+◌, ◌-◌, arith, sym, ◌∙◌}
use Rattle.std.proofs.lemmas.Slice.{put_mid-paste}
use Rattle.paper.specs.Bytes.{be}
use Rattle.paper.proofs.Bytes.{be-length}
use Rattle.paper.proofs.Pasted.{paste_all}
use Rattle.words.proofs.Number.{bytes-two}
use Rattle.words.proofs.write16.Goals as goal

pub returns : goal.returns
returns c =
    let a = c.args in
    let e = sym (be-length 2 a.n) in
    put_mid-paste a.at (a.at + 2 - a.at) a.dst.now _ (be 2 a.n) 2 (c.copy_from_slice.ensures.after ∙ c.to_be_bytes.ensures ∙ bytes-two a.n (omega arith)) (omega arith) e
    ∙ paste_all a.dst.now a.at (be 2 a.n) 2 e
