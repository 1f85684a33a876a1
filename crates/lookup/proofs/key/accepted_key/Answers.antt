-- `lookup::key::accepted_key`: a key that was found stands behind the front, and the part begins where it does.
use native.Mathlib.Omega.{arith}
use mathlib.Core.Path.{◌≡◌, refl, sym, ap, ◌∙◌}
use Rattle.std.specs.Prelude.{Ok}
use Rattle.paper.specs.declared.AcceptedLookup.TheVariants.{Found}
use Rattle.ranges.proofs.Slices.{bytewise}
use Rattle.shown.specs.Form.{ItemStands}
use Rattle.lookup.proofs.Checked.{key-found, key-part, no_part}
use Rattle.lookup.proofs.key.accepted_key.Goals as goal
use Rattle.lookup.proofs.key.accepted_key.Goals.{In-Ok-Found}

-- a version was found
found : (c : In-Ok-Found) → c.check_lookup.result ≡ Ok (Found c.in-Ok-Found.field-0-0 c.in-Ok-Found.field-0-1 c.in-Ok-Found.field-0-2)
found c = c.in-Ok-Found.is ∙ ap Ok c.in-Ok-Found.field-0-is

stands : (c : In-Ok-Found) → ItemStands c.args.proof.now 108
stands c =
    let a = c.args in
    key-found a.head.now a.name.now a.proof.now (bytewise a.proof.now c.type_inv.proof) _ _ _ (sym c.check_lookup.ensures ∙ found c)

pub bounds-proof-108 : goal.bounds-proof-108
bounds-proof-108 c = omega (arith, (stands (goal.at.bounds-proof-108 c).In-Ok-Found).room)

pub overflow_cast-after : goal.overflow_cast-after
overflow_cast-after c = omega (arith, (stands (goal.at.overflow_cast-after c).In-Ok-Found).most)

pub overflow_add-after : goal.overflow_add-after
overflow_add-after c = omega (arith, (stands (goal.at.overflow_add-after c).In-Ok-Found).most)

pub slice_bounds-result-end : goal.slice_bounds-result-end
slice_bounds-result-end c = omega (arith, (stands (goal.at.slice_bounds-result-end c).In-Ok-Found).room)

pub returns-in-Ok-Found : goal.returns-in-Ok-Found
returns-in-Ok-Found c =
    let o = (goal.at.returns-in-Ok-Found c).In-Ok-Found in
    key-part c.args.proof _ _ _ _ _ (sym (found o) ∙ c.check_lookup.ensures) (stands o) refl refl

pub returns-in-Ok-NotRegistered : goal.returns-in-Ok-NotRegistered
returns-in-Ok-NotRegistered c =
    no_part c.args.proof _ _ _ (sym (c.in-Ok-NotRegistered.is ∙ ap Ok c.in-Ok-NotRegistered.field-0-is) ∙ c.check_lookup.ensures) refl refl refl refl

pub returns-in-Err : goal.returns-in-Err
returns-in-Err c = no_part c.args.proof _ _ _ (sym c.in-Err.is ∙ c.check_lookup.ensures) refl refl refl refl
