-- `sha256::sha256` meets its contract: the whole blocks, then the end, are the padded message. Assumes nothing.
use mathlib.Core.Path.{refl, ◌∙◌}
use Prim.Native.Nat.{◌-◌, ◌*◌, ◌/◌}
use lib.ListN.{length}
use borrow.Author.Rules.{rules}
use Rattle.sha256.proofs.Padding.{whole}
use Rattle.sha256.proofs.sha256.Goals as goal

pub finish-requires : goal.finish-requires
finish-requires c = (c.constants-k.ensures, search rules)

pub returns : goal.returns
returns c =
    let m = c.args.msg.now in
    c.digest.ensures ∙ whole m (length m - length m / 64 * 64) _ _ refl c.blocks-s.ensures c.finish.ensures
