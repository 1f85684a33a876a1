-- How much a writer says it wrote, which lies in its output.
use Rattle.std.specs.Prelude.{List, ℕ, Ok, Err, ◌≤◌, length}
use Rattle.paper.specs.Answer.{WriteAnswer}

abbrev pub written_size : WriteAnswer → ℕ
written_size (Ok w) = w.length
written_size (Err e) = 0

abbrev pub Inside : WriteAnswer → List ℕ → Type 0
Inside answer out = written_size answer ≤ length out
