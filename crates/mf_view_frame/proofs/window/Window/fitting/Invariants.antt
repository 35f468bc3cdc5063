use Rattle.mf_view_frame.proofs.Windows.{IsScaleFrom}
use Rattle.mf_view_frame.proofs.window.Window.fitting.Given as goal

abbrev pub invariant-loop-scale : goal.invariant-loop-scale
invariant-loop-scale l = IsScaleFrom l.fn.canvas l.bounds l.scale
