use Rattle.mf_desk_session.proofs.Performing.{Perform-append, Perform-split}
use Rattle.mf_desk_session.proofs.laws.line_by_line.Goals as goal

pub returns : goal.returns
returns c = record {
  together = λ limits s lines more whole (a, b, first, then, is). rw is (Perform-append limits s lines more a b first then);
  apart = Perform-split;
}
