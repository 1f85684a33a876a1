-- `start::start`: one test, and head 0.
use native.Mathlib.Omega.{arith}
use mathlib.Core.Path.{◌≡◌, sym, ap, ◌∙◌}
use Rattle.fips.specs.Sha256.{sha256}
use Rattle.paper.specs.Numbers.{wide}
use Rattle.paper.specs.Bytes.{zeros, pasted}
use Rattle.paper.specs.Strings.{head_string}
use Rattle.paper.specs.Table.{heads_within}
use Rattle.std.specs.Prelude.{Ok}
use mathlib.Core.Bool.{true}
use Rattle.start.proofs.Started.{unstarted, started, one-head}
use Rattle.start.proofs.start.Goals as goal

pub returns-then-not-heads_within : goal.returns-then-not-heads_within
returns-then-not-heads_within c = sym (unstarted c.args.heads.now (sym c.heads_within.ensures ∙ c.if-not-heads_within.true))

pub put-requires : goal.put-requires
put-requires c = let h = one-head c.args.heads.now (sym c.heads_within.ensures ∙ c.if-not-heads_within.false) in omega (arith, h, c.head.type_inv)

pub returns : goal.returns
returns c =
    let heads = c.args.heads.now in
    let root = c.empty_root-root.ensures in
    let is = c.head.ensures ∙ ap (λ r. sha256 (head_string (record { epoch = 0; previous = zeros wide; all = r; old = r }))) root in
    let e : heads_within heads ≡ true = sym c.heads_within.ensures ∙ c.if-not-heads_within.false in
    sym (started heads e ∙ ap (λ h. record { answer = Ok (record { count = 0; epoch = 0 }); heads = h }) (ap (pasted heads 0) (sym is) ∙ sym c.put.ensures))
