-- The messages and the exit statuses of the program.
use Rattle.std.specs.Prelude.{◌≡◌, ◌⊎◌, ℕ, List, ◌++◌, codes, if◌then◌else◌}
use Rattle.mf_cli.specs.declared.fault.ProgramFault.{ProgramFault}
use Rattle.mf_cli.specs.declared.fault.ProgramFault.TheVariants.{Run, NoCharacters}
use Rattle.mf_desk.specs.Names.{is_of_stream, run_fault_text}

-- how the program is used
abbrev pub usage : List ℕ
usage = codes "usage: mfpic [--viewers 0..16] [--gf FILE]\n"

-- the message of a fault: the name of the program, and that of the fault
abbrev pub message_of : ProgramFault → List ℕ
message_of (Run fault) = codes "mfpic: " ++ run_fault_text fault ++ codes "\n"
message_of NoCharacters = codes "mfpic: NoCharacters\n"

-- the status after a fault: 4 where memory, a place or a look was missing, and else 3
abbrev pub status_of : ProgramFault → ℕ
status_of (Run fault) = if is_of_stream fault then 3 else 4
status_of NoCharacters = 3

-- the status is one of those after a fault
abbrev pub IsFaultStatus : ℕ → Type 0
IsFaultStatus status = (status ≡ 3) ⊎ (status ≡ 4)
