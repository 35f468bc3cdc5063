use Rattle.mf_cli.specs.CommandLine.{mfpic}
use Rattle.mf_cli.proofs.words.command.Goals as goal

pub returns : goal.returns
unfolding mfpic
returns c = c.with_file.ensures _ (c.with_number-command.ensures _ c.new_command.ensures)
