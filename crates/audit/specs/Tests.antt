-- The definition's tests of an audit, in parts: those of the heads, and behind them those of the two lists.
use Rattle.std.specs.Prelude.{List, ℕ, Result, Ok, Err, ◌+◌, length, take, drop}
use Rattle.paper.specs.Numbers.{wide}
use Rattle.paper.specs.Bytes.{Bytes, number}
use Rattle.paper.specs.Verdict.{Test, verdict}
use Rattle.paper.specs.Answer.{AuditAnswer, audit_accepted}
use Rattle.paper.specs.Audit.{Audit, list_tests, audit_tests, list_strings}
use Rattle.paper.specs.declared.Refusal.{Refusal}
use Rattle.paper.specs.declared.Which.{Which}
use Rattle.paper.specs.declared.Which.TheVariants.{OfAll, OfOld}
use Rattle.audit_form.specs.Places.{records_at}

-- how many digests the tests took, or the refusal of the first that fails
abbrev pub checked : ℕ → List Test → Result ℕ Refusal
checked digests tests = verdict Err (Ok digests) tests

-- "the old head, the new head, the rules joining the heads"
abbrev pub head_tests : Bytes → Bytes → Audit → List Test
head_tests d d' a = take 3 (audit_tests d d' a)

-- "then per tree its list rules, old root, new root": the tests of n records at a place, where the old root stands at `roots` of the
-- proof and the new one 100 bytes further
abbrev pub tests_at : Bytes → Which → ℕ → ℕ → ℕ → List Test
tests_at s w at n roots = list_tests w (number (take 4 (drop 6 s))) (number (take 4 (drop 106 s))) (records_at s at n) (take wide (drop roots s)) (take wide (drop (roots + 100) s))

abbrev pub digests_at : Bytes → ℕ → ℕ → ℕ
digests_at s at n = length (list_strings (records_at s at n))

-- what is left to answer when all before the list of *old*, and all before both lists, took so many digests
abbrev pub old_answer : Audit → ℕ → AuditAnswer
old_answer a digests =
    verdict Err (audit_accepted a.before.epoch a.after.epoch (digests + length (list_strings a.old)))
    (list_tests OfOld a.before.epoch a.after.epoch a.old a.before.old a.after.old)

abbrev pub lists_answer : Audit → ℕ → AuditAnswer
lists_answer a digests =
    verdict Err (old_answer a (digests + length (list_strings a.all)))
    (list_tests OfAll a.before.epoch a.after.epoch a.all a.before.all a.after.all)
