-- Paths taken in order, each for what is asked of it.
use Rattle.std.specs.Prelude.{List, [], ◌∷◌, ℕ, ◌+◌, ◌-◌, ◌*◌, ◌^◌, ◌≤◌, ◌<◌, length, drop, Result, Ok, Err}
use Rattle.paper.specs.Numbers.{FORM, name_most}
use Rattle.paper.specs.Labelling.{plain}
use Rattle.paper.specs.Layout.{Read, got, bad}
use Rattle.paper.specs.Fields.{path_field}
use Rattle.paper.specs.Path.{Path}
use Rattle.paper.specs.Verdict.{verdict}
use Rattle.paper.specs.Shows.{path_tests}
use Rattle.paper.specs.declared.Refusal.{Refusal}
use Rattle.shown.specs.Form.{head_in}
use Rattle.shown.specs.Terms.{asked_of, terms_of}
use Rattle.shown.specs.declared.Asked.{Asked}
use Rattle.walks.specs.declared.Reader.{Reader}

-- the path that was read is taken: its two tests, what it counts, "m+2 for each path (its label, m nodes, its end)", and the place
-- behind it
abbrev pub stepped_of : Asked → Reader → Read Path → Result Reader Refusal
stepped_of a r bad = Err FORM
stepped_of a r (got x rest) =
    verdict Err
    (Ok (record { proof = r.proof; name = r.name; at = length r.proof.now - length rest; digests = r.digests + length x.steps + 2 }))
    (path_tests plain r.name.now (head_in r.proof.now) (terms_of a) (asked_of a ∷ []) (x ∷ []))

-- the path that stands next
unfoldable pub stepped : Asked → Reader → Result Reader Refusal
stepped a r = stepped_of a r (path_field.read (drop r.at r.proof.now))

abbrev pub walked : Asked → Result Reader Refusal → Result Reader Refusal
walked a (Err e) = Err e
walked a (Ok r) = stepped a r

-- all that is asked, in order, of the paths that stand next
unfoldable pub walks : List Asked → Result Reader Refusal → Result Reader Refusal
walks [] r = r
walks (a ∷ l) r = walks l (walked a r)

-- a walk can go on: there is a front, the name is short, and the count has room for k paths more
pub record Ahead (k : ℕ) (r : Reader) : Type 0 where
  pub front : 106 ≤ length r.proof.now
  pub short : length r.name.now ≤ name_most
  pub room : r.digests + 258 * k < 2 ^ 32
