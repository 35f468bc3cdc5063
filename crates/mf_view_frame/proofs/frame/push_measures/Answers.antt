use Rattle.std.proofs.Common.{arith}
use Rattle.std.proofs.lemmas.Int.{ints, to_z-of_z}
use Rattle.std.proofs.lemmas.Result.{IfOk-equal}
use Rattle.mf_view_frame.proofs.FrameLines.{nine_parts}
use Rattle.mf_view_frame.proofs.frame.push_measures.Goals as goal

pub returns : goal.returns
returns c = grind (arith, ints, to_z-of_z, IfOk-equal, nine_parts)
