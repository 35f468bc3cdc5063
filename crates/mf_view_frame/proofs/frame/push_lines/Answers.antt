use Rattle.std.proofs.Common.{arith}
use Rattle.mf_view_frame.proofs.FrameLines.{lines_all, lines_more}
use Rattle.mf_view_frame.proofs.frame.push_lines.Goals as goal

pub loop-above-preserved : goal.loop-above-preserved
loop-above-preserved c = lines_more (omega (arith, c.loop-above-test.true)) c.in_ok-push_line.ensures c.loop-above.invariant

pub returns : goal.returns
returns c = lines_all _ _ _ (omega (arith, c.loop-above-test.false)) c.loop-above.invariant
