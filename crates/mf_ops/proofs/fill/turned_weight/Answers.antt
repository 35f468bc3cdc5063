use Rattle.std.proofs.Common.{arith}
use Rattle.std.proofs.lemmas.Int.{ints}
use Rattle.mf_geom.proofs.FirstFaults.{turning_fault-none, turning_fault-onward}
use Rattle.mf_ops.proofs.fill.turned_weight.Goals as goal

pub returns-in-Ok-clause-refused : goal.returns-in-Ok-clause-refused
returns-in-Ok-clause-refused c = grind (arith, ints, turning_fault-onward)

pub returns-in-Ok-2-clause-passes : goal.returns-in-Ok-2-clause-passes
returns-in-Ok-2-clause-passes c = grind (arith, ints, turning_fault-none)
