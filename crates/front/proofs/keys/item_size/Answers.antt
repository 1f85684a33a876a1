-- `front::keys::item_size`: length, key, and the 32 bytes of an opening.
use mathlib.Core.Path.{refl, sym}
use Rattle.front.proofs.Items.{read-size}
use Rattle.front.proofs.keys.item_size.Goals as goal

pub returns : goal.returns
returns c =
    sym (read-size c.args.records.now c.args.i c.requires c.key_at.result.now _ c.key_at.ensures.bytes refl)
