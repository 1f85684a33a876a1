-- What a lookup check and a history check answer, by their kind: document 01's lookup and history, whose values have the same places.
use Rattle.std.specs.Prelude.{length, Result, Ok, Err}
use Rattle.paper.specs.Numbers.{FORM}
use Rattle.paper.specs.Bytes.{Bytes}
use Rattle.paper.specs.Labelling.{plain}
use Rattle.paper.specs.Layout.{Layout, Read, got, bad, parse}
use Rattle.paper.specs.Verdict.{verdict}
use Rattle.paper.specs.Shows.{Proof, proof_field, Terms, proof_tests, proof_strings, input_tests}
use Rattle.paper.specs.Lookup.{lookup_terms}
use Rattle.paper.specs.History.{history_terms}
use Rattle.paper.specs.declared.Refusal.{Refusal}
use Rattle.plan.specs.Asked.{asked_by}
use Rattle.plan.specs.Kinds.{kind_number, keys_in}
use Rattle.plan.specs.declared.Kind.{Kind}
use Rattle.plan.specs.declared.Kind.TheVariants.{Lookup, History}
use Rattle.checks.specs.declared.Accepted.{Accepted}

-- the layout, and the terms
abbrev pub field_of : Kind → Layout Proof
field_of k = proof_field (kind_number k) (keys_in k) (asked_by k)

abbrev pub terms_in : Kind → Proof → Terms
terms_in Lookup p = lookup_terms p
terms_in History p = history_terms p

-- the number, the head's epoch and the digests of a proof
abbrev pub accepts : Kind → Bytes → Proof → Accepted
accepts k name p = record { number = p.number; epoch = p.head.epoch; digests = length (proof_strings plain name (asked_by k p.number p.head.epoch) p) }

abbrev pub checked_of : Kind → Bytes → Bytes → Read Proof → Result Accepted Refusal
checked_of k d name bad = Err FORM
checked_of k d name (got p r) = verdict Err (Ok (accepts k name p)) (proof_tests plain name d (terms_in k p) (asked_by k p.number p.head.epoch) p)

unfoldable pub checked : Kind → Bytes → Bytes → Bytes → Result Accepted Refusal
checked k d name s = verdict Err (checked_of k d name (parse (field_of k) s)) (input_tests d name)
