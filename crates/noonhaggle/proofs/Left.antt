-- What an export of the server leaves is what its entry leaves, with the answer as C has it. Assumes nothing.
use mathlib.Core.Path.{◌≡◌, ap}
use Rattle.paper.specs.Bytes.{Bytes}
use Rattle.paper.specs.Publish as D
use Rattle.paper.specs.Write as E
use Rattle.paper.specs.Answer.{StartAnswer, PublishAnswer, WriteAnswer}
use Rattle.results.specs.declared.Published.{Published}
use Rattle.results.specs.declared.Written.{Written}
use Rattle.results.specs.Results.{start_result, publish_result, write_result}
use Rattle.noonhaggle.specs.Left.{start_left, publish_left, write_left}

pub start-left : (a : StartAnswer) (c : Published) (heads : Bytes) (s : D.Started) → c ≡ start_result a → record { answer = a; heads = heads } ≡ s → record { result = c; heads = heads } ≡ start_left s
start-left a c heads s e q = rw e (ap start_left q)

pub publish-left : (a : PublishAnswer) (c : Published) (records heads : Bytes) (p : D.Published) → c ≡ publish_result a → record { answer = a; records = records; heads = heads } ≡ p
    → record { result = c; records = records; heads = heads } ≡ publish_left p
publish-left a c records heads p e q = rw e (ap publish_left q)

pub write-left : (a : WriteAnswer) (c : Written) (out : Bytes) (w : E.Written) → c ≡ write_result a → record { answer = a; out = out } ≡ w → record { result = c; out = out } ≡ write_left w
write-left a c out w e q = rw e (ap write_left q)
