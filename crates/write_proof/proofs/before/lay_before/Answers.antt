-- `write_proof::before::lay_before`: front and keys, one behind the other.
use mathlib.Core.Path.{◌∙◌}
use Rattle.paper.specs.Tree.{root_digest}
use Rattle.paths.specs.Paths.{all_of, old_of}
use Rattle.write_proof.proofs.Bytes.{before-laid, head-found, root-wide}
use Rattle.write_proof.proofs.before.lay_before.Goals as goal

pub returns : goal.returns
returns c =
    let g = c.args in
    let all = root_digest (all_of g.trees.now) in
    let old = root_digest (old_of g.trees.now) in
    let front = c.write_front.ensures ∙ head-found g.heads.now all old g.plan.epoch c.number.result g.plan.number g.plan.kind _ _ _ g.out.now c.number.ensures c.previous_head.ensures (c.root.ensures.kept c.requires.1.all) (c.root-2.ensures.kept c.requires.1.old) in
    before-laid g.heads.now all old _ g.plan c.requires.0.reach (root-wide _) (root-wide _) g.out.now c.write_front.new.out _ c.write_items.result front c.write_items.ensures
