-- What an export of the server leaves: its answer, and every byte of what it is lent to write.
use Rattle.paper.specs.Bytes.{Bytes}
use Rattle.paper.specs.Publish as D
use Rattle.paper.specs.Write as E
use Rattle.results.specs.Results.{start_result, publish_result, write_result}
use Rattle.results.specs.declared.Published.{Published}
use Rattle.results.specs.declared.Written.{Written}

pub record StartLeft : Type 0 where
  pub result : Published
  pub heads : Bytes

abbrev pub start_left : D.Started → StartLeft
start_left s = record { result = start_result s.answer; heads = s.heads }

pub record PublishLeft : Type 0 where
  pub result : Published
  pub records : Bytes
  pub heads : Bytes

abbrev pub publish_left : D.Published → PublishLeft
publish_left p = record { result = publish_result p.answer; records = p.records; heads = p.heads }

pub record WriteLeft : Type 0 where
  pub result : Written
  pub out : Bytes

abbrev pub write_left : E.Written → WriteLeft
write_left w = record { result = write_result w.answer; out = w.out }
