-- The names of refusals, as they are printed.
use Rattle.std.specs.Prelude.{ℕ, List, codes}
use Rattle.mf_base.specs.Names.{memory_text}
use Rattle.mf_ops.specs.Names.{op_fault_text}
use Rattle.mf_live.specs.declared.fault.Fault.{Fault}
use Rattle.mf_live.specs.declared.fault.Fault.TheVariants.{TooManyOperations, Refused}
use Rattle.mf_live.specs.declared.sheet.SheetFault.{SheetFault}
use Rattle.mf_live.specs.declared.sheet.SheetFault.TheVariants.{NoLook, OutOfMemory}

-- the name of the reason why an operation is not accepted
abbrev pub writer_fault_text : Fault → List ℕ
writer_fault_text TooManyOperations = codes "TooManyOperations"
writer_fault_text (Refused fault) = op_fault_text fault

-- the name of the reason why there is no sheet
abbrev pub sheet_fault_text : SheetFault → List ℕ
sheet_fault_text NoLook = codes "NoLook"
sheet_fault_text OutOfMemory = memory_text
