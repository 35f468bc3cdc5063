-- The names of the faults of runs, as texts show them, and what failed.
use Rattle.std.specs.Prelude.{ℕ, Bool, List, codes, false, true}
use Rattle.mf_base.specs.Names.{memory_text}
use Rattle.mf_desk.specs.declared.fault.RunFault.{RunFault}
use Rattle.mf_desk.specs.declared.fault.RunFault.TheVariants.{OutOfMemory, NoPlace, FileTooLong, ReadFault, WriteFault, NoLook}

-- the name of a fault; the number of bytes written is in the fault alone
abbrev pub run_fault_text : RunFault → List ℕ
run_fault_text OutOfMemory = memory_text
run_fault_text NoPlace = codes "NoPlace"
run_fault_text FileTooLong = codes "FileTooLong"
run_fault_text ReadFault = codes "ReadFault"
run_fault_text (WriteFault count) = codes "WriteFault"
run_fault_text NoLook = codes "NoLook"

-- whether a stream or a file failed, or the font file is too long; else memory, a place or a look was missing
abbrev pub is_of_stream : RunFault → Bool
is_of_stream FileTooLong = true
is_of_stream ReadFault = true
is_of_stream (WriteFault count) = true
is_of_stream _ = false
