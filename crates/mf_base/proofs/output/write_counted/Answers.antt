use Rattle.std.proofs.Common.{arith, length-take, length-drop}
use Rattle.mf_base.proofs.KnownTexts.{Appends-more}
use Rattle.mf_base.proofs.output.write_counted.Goals as goal

pub loop-sent-preserved : goal.loop-sent-preserved
loop-sent-preserved g c = (
  omega (arith, simp (length-take, length-drop) at c.in-Ok.ensures.bound),
  Appends-more _ _ _ c.args.bytes.now c.loop-sent.sent c.in-Ok.count c.loop-sent.invariant.1 c.in-Ok.ensures.bytes,
)
