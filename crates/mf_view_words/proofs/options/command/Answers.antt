use Rattle.mf_view_words.specs.CommandLine.{mfview}
use Rattle.mf_view_words.proofs.options.command.Goals as goal

pub returns : goal.returns
unfolding mfview
returns c =
    let two = c.with_number-command-2.ensures _ (c.with_number-command.ensures _ c.new_command.ensures) in
    let numbers = c.with_number-command-5.ensures _ (c.with_number-command-4.ensures _ (c.with_number-command-3.ensures _ two)) in
    let files = c.with_file-command-3.ensures _ (c.with_file-command-2.ensures _ (c.with_file-command.ensures _ numbers)) in
    c.with_flag.ensures _ (c.with_flag-command-3.ensures _ (c.with_flag-command-2.ensures _ (c.with_flag-command.ensures _ files)))
