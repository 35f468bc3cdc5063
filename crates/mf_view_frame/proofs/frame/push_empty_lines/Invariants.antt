use Rattle.mf_view_frame.proofs.FrameLines.{AreEmptySoFar}
use Rattle.mf_view_frame.proofs.frame.push_empty_lines.Given as goal

abbrev pub invariant-loop : goal.invariant-loop
invariant-loop l = AreEmptySoFar l.count l.initial.text.items l.counter l.text.items
