use Rattle.mf_geom.proofs.FirstFaults.{PassesCheck-from_none, is_cycle, no_form_fault, turning_fault-none}
use Rattle.mf_geom.proofs.OneFault.{fault-computed, fault-declared}
use Rattle.mf_geom.proofs.laws.one_fault.Goals as goal
use Rattle.std.proofs.Common.{arith}

pub returns : goal.returns
returns c = grind (arith, fault-computed, fault-declared, no_form_fault, is_cycle, turning_fault-none, PassesCheck-from_none)
