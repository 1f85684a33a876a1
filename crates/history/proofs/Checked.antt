-- What the history check answers is what the check finds. Assumes nothing.
use mathlib.Core.Path.{◌≡◌, refl, ap, ◌∙◌}
use Rattle.std.specs.Prelude.{Result, Ok, Err}
use Rattle.paper.specs.Bytes.{Bytes}
use Rattle.paper.specs.Labelling.{plain}
use Rattle.paper.specs.Layout.{Read, got, bad, parse}
use Rattle.paper.specs.Verdict.{verdict}
use Rattle.paper.specs.Shows.{Proof, proof_tests, input_tests}
use Rattle.paper.specs.History.{history_field, history_terms, history_asked, history_read, check_history}
use Rattle.paper.specs.Answer.{HistoryAnswer, history_accepted}
use Rattle.paper.specs.declared.Refusal.{Refusal}
use Rattle.plan.specs.declared.Kind.TheVariants.{History}
use Rattle.checks.specs.Checked.{field_of, accepts, checked_of, checked}
use Rattle.checks.specs.declared.Accepted.{Accepted}
use Rattle.checks.proofs.Verdicts.{verdict-on}

module _ (d name s : Bytes) where
  -- "a history its n, each with the head's epoch and its digests"
  abbrev pub told : Result Accepted Refusal → HistoryAnswer
  told (Err e) = Err e
  told (Ok a) = history_accepted a.number a.epoch a.digests

  pub history-checked : told (checked History d name s) ≡ check_history plain d name s
  unfolding checked check_history
  history-checked =
      verdict-on told Err Err (λ e. refl) (checked_of History d name (parse (field_of History) s)) (input_tests d name)
      ∙ ap (λ x. verdict Err x (input_tests d name)) (by (parse history_field s))
    where
      by : (x : Read Proof) → told (checked_of History d name x) ≡ history_read plain name d x
      by bad = refl
      by (got p r) = verdict-on told Err Err (λ e. refl) (Ok (accepts History name p)) (proof_tests plain name d (history_terms p) (history_asked p.number p.head.epoch) p)
