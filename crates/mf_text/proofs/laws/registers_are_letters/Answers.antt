use Rattle.mf_text.proofs.Registers.{names_given}
use Rattle.mf_text.proofs.laws.registers_are_letters.Goals as goal

pub returns : goal.returns
returns c = names_given
