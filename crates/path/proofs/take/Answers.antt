-- `path::take`: what was parsed stands at its places, so root and end are those of the path that was read.
use native.Mathlib.Omega.{arith}
use mathlib.Core.Path.{sym, ◌∙◌}
use Rattle.paper.specs.Bytes.{Bytewise, same}
use Rattle.path_form.specs.Places.{PathStands}
use Rattle.ranges.proofs.Slices.{bytewise}
use Rattle.path.proofs.Found.{path-stands, taken-bad, taken-good}
use Rattle.path.proofs.take.Goals as goal
use Rattle.path.proofs.take.Goals.{After-parse, In_ok-path}

bytes : (c : After-parse) → Bytewise c.args.s.now
bytes c = bytewise c.args.s.now c.type_inv.s

-- a path that was parsed stands at its places
stands : (c : In_ok-path) → PathStands c.args.s.now c.in_ok-path.path
stands c =
    path-stands c.args.s.now c.args.at (bytes (goal.at.In_ok-path c).After-parse) _ (sym c.parse.ensures ∙ c.in_ok-path.was)

pub returns-in_err-path : goal.returns-in_err-path
returns-in_err-path c =
    let a = c.args in
    rw c.from_residual.ensures (record {
      is = sym (taken-bad a.s.now a.at (bytes (goal.at.returns-in_err-path c).After-parse) a.label a.root (sym c.parse.ensures ∙ c.in_err-path.was));
      few = tt;
    })

pub overflow_cast-result : goal.overflow_cast-result
overflow_cast-result c = omega (arith, (stands (goal.at.overflow_cast-result c).In_ok-path).most)

pub root_of-found-requires : goal.root_of-found-requires
root_of-found-requires c = stands c

pub shows-requires : goal.shows-requires
shows-requires c = stands (goal.at.shows-requires c).In_ok-path

pub returns : goal.returns
unfolding same
returns c =
    let a = c.args in
    let good = taken-good a.s.now a.at (bytes (goal.at.returns c).After-parse) a.label a.root _ (sym c.parse.ensures ∙ c.in_ok-path.was) in
    record {
      is = rw (c.shows.ensures, c.eq.ensures, c.root_of-found.ensures) (sym good);
      few = (stands (goal.at.returns c).In_ok-path).most;
    }
