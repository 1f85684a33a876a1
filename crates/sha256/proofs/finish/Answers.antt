-- `sha256::finish` meets its contract: the stores make the end of the padded message, one block of it or two. Assumes nothing.
use Rattle.std.proofs.Common.{refl, ap, ◌∙◌, ◌+◌, ◌-◌, ◌*◌, ◌/◌, ◌++◌, length, drop, replicate, arith}
use Rattle.fips.specs.Sha256.{be64}
use Rattle.sha256.proofs.Padding.{made}
use Rattle.sha256.proofs.finish.Goals as goal

pub returns : goal.returns
unfolding be64
returns c =
    let a = c.args in
    let m = a.m.now in
    let e = (length m + 8) / 64 * 64 + 64 in
    made m a.bits 128 e (e - (e - 8)) _ _ c.copy_from_slice-2.new.self (omega arith) refl refl
    (ap (λ f. f ++ drop (length m) (replicate 128 0)) c.copy_from_slice.ensures.after)
    (c.copy_from_slice-2.ensures.after ∙ c.to_be_bytes.ensures)
    refl _ _ e (omega arith) c.blocks-2.ensures
