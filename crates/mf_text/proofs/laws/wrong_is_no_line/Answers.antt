use Rattle.mf_text.proofs.OneAnswer.{wrong_is_no_line}
use Rattle.mf_text.proofs.laws.wrong_is_no_line.Goals as goal

pub returns : goal.returns
returns c = wrong_is_no_line
