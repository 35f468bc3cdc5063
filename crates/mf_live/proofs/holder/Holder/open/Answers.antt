use Rattle.std.proofs.Common.{sym, arith}
use Rattle.mf_live.proofs.Blank.{blank_picture, blank_revision}
use Rattle.mf_live.proofs.holder.Holder.open.Goals as goal

pub invariant_of-result : goal.invariant_of-result
invariant_of-result g c = grind (arith, sym, blank_picture, blank_revision)
