-- The names of refusals, as texts show them.
use Rattle.std.specs.Prelude.{ℕ, List, codes}
use Rattle.mf_rows_strips.specs.declared.fault.AddFault.{AddFault}
use Rattle.mf_rows_strips.specs.declared.fault.AddFault.TheVariants.{WeightTooLarge, OutOfMemory}
use Rattle.mf_base.specs.Names.{memory_text}

-- the name of the refusal of a sum
abbrev pub add_fault_text : AddFault → List ℕ
add_fault_text WeightTooLarge = codes "WeightTooLarge"
add_fault_text OutOfMemory = memory_text
