use Rattle.std.proofs.Common.{append_assoc, arith}
use Rattle.mf_view_frame.proofs.FrameLines.{empty_all, empty_more}
use Rattle.mf_view_frame.proofs.frame.push_empty_lines.Goals as goal

pub loop-preserved : goal.loop-preserved
loop-preserved c = grind (arith, append_assoc, empty_more)

pub returns : goal.returns
returns c = empty_all c.loop-test.false c.loop.invariant
