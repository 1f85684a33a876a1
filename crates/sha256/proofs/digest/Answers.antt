-- `sha256::digest` meets its contract: the bytes of the eight words, one word behind the other. Assumes nothing.
use Rattle.std.proofs.Common.{◌∙◌}
use Rattle.fips.specs.Sha256 as S
use Rattle.sha256.proofs.digest.Goals as goal

pub returns : goal.returns
unfolding S.digest
returns c =
    c.copy_from_slice.ensures.after ∙ c.as_flattened.ensures.value
    ∙ rw (c.to_be_bytes.ensures, c.to_be_bytes-2.ensures, c.to_be_bytes-3.ensures, c.to_be_bytes-4.ensures, c.to_be_bytes-5.ensures, c.to_be_bytes-6.ensures, c.to_be_bytes-7.ensures, c.to_be_bytes-8.ensures)
