use Rattle.std.proofs.Common.{rules, arith}
use Rattle.mf_text.specs.Lines.{IsText}
use Rattle.mf_text.proofs.LineAnswers.{answer_of_line}
use Rattle.mf_text.proofs.lines.read_command.Goals as goal

pub returns : goal.returns
returns c =
    let text : IsText c.args.line.now = record { short = omega arith; text = search rules } in
    let is = answer_of_line c.args.line.now c.new.result c.command_of_line.result text c.new.ensures.tokens c.new.ensures.column c.command_of_line.ensures in
    record { given = is.0; refused = is.1 }
