-- `ranges::put`: what is copied lies over the part.
use Rattle.std.proofs.Common.{◌+◌, ◌-◌, length, refl, ◌∙◌, arith}
use Rattle.std.proofs.lemmas.Slice.{put_mid-paste}
use Rattle.paper.proofs.Pasted.{paste_all}
use Rattle.ranges.proofs.put.Goals as goal

pub returns : goal.returns
returns c =
    let a = c.args in
    let n = length a.src.now in
    put_mid-paste a.at (a.at + n - a.at) a.dst.now _ a.src.now n c.copy_from_slice.ensures.after (omega arith) refl ∙ paste_all a.dst.now a.at a.src.now n refl
