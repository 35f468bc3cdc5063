use Rattle.mf_text.specs.declared.command.Command.TheVariants.{Nothing, Turning, Clear}
use Rattle.mf_desk_session.proofs.WithoutContour.{reads_as}
use Rattle.mf_desk_session.proofs.session.Session.command.Goals as goal

pub returns-clause-nothing : goal.returns-clause-nothing
returns-clause-nothing g c given =
    c.answer_to.ensures.nothing (reads_as c.args.line.now c.read_command.result Nothing tt c.read_command.ensures.given c.read_command.ensures.refused given)

pub returns-clause-turning : goal.returns-clause-turning
returns-clause-turning g c check given =
    c.answer_to.ensures.turning check
    (reads_as c.args.line.now c.read_command.result (Turning check) tt c.read_command.ensures.given c.read_command.ensures.refused given)

pub returns-clause-clears : goal.returns-clause-clears
returns-clause-clears g c s name stands given =
    c.answer_to.ensures.clears s name stands
    (reads_as c.args.line.now c.read_command.result (Clear name) tt c.read_command.ensures.given c.read_command.ensures.refused given)
