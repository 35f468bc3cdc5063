use Rattle.mf_text.proofs.OneAnswer.{gives_one, refused_once, given_or_refused}
use Rattle.mf_text.proofs.SomeAnswer.{some_answer}
use Rattle.mf_text.proofs.laws.one_answer.Goals as goal

pub returns : goal.returns
returns c = record { some = some_answer; command = gives_one; refusal = refused_once; not_both = given_or_refused }
