-- A million letters are as many.
use Rattle.std.proofs.Common.{ℕ, sym}
use Rattle.std.proofs.lemmas.List.{length-replicate}
use Rattle.sha256_run.proofs.million.Goals as goal

pub returns : goal.returns
returns c = sym (length-replicate {0} {A = ℕ} 1_000_000 97)
