-- `words::write32`: the number's bytes lie over the part.
use Rattle.std.proofs.Common.{◌+◌, ◌-◌, arith, sym, ◌∙◌}
use Rattle.std.proofs.lemmas.Slice.{put_mid-paste}
use Rattle.paper.specs.Bytes.{be}
use Rattle.paper.proofs.Bytes.{be-length}
use Rattle.paper.proofs.Pasted.{paste_all}
use Rattle.words.proofs.Number.{bytes-four}
use Rattle.words.proofs.write32.Goals as goal

pub returns : goal.returns
returns c =
    let a = c.args in
    let e = sym (be-length 4 a.n) in
    put_mid-paste a.at (a.at + 4 - a.at) a.dst.now _ (be 4 a.n) 4 (c.copy_from_slice.ensures.after ∙ c.to_be_bytes.ensures ∙ bytes-four a.n (omega arith)) (omega arith) e
    ∙ paste_all a.dst.now a.at (be 4 a.n) 4 e
