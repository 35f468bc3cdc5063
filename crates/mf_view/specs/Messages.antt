-- The messages and the exit statuses of the program.
use Rattle.std.specs.Prelude.{if◌then◌else◌, ℕ, List, None, Some, codes}
use Rattle.mf_desk.specs.Names.{is_of_stream, run_fault_text}
use Rattle.mf_cli_options.specs.Messages.{fault_message}
use Rattle.mf_view.specs.declared.fault.ProgramFault.{ProgramFault}
use Rattle.mf_view.specs.declared.fault.ProgramFault.TheVariants.{Run, TooSmall, ImageTooLarge, PlateFault, NoCharacters}

-- how the program is used
abbrev pub usage : List ℕ
usage = codes "usage: mfview [OPTION..] < SCRIPT (mfview --help lists the options)\n"

-- the message of a fault: the names of the program and of the fault, and the revision if the fault has one
abbrev pub message_of : ProgramFault → List ℕ
message_of (Run fault) = fault_message (codes "mfview") (run_fault_text fault) None
message_of TooSmall = fault_message (codes "mfview") (codes "TooSmall") None
message_of (ImageTooLarge revision) = fault_message (codes "mfview") (codes "ImageTooLarge") (Some revision)
message_of (PlateFault revision) = fault_message (codes "mfview") (codes "PlateFault") (Some revision)
message_of NoCharacters = fault_message (codes "mfview") (codes "NoCharacters") None

-- the status after a fault: 4 where memory, the place or a look was missing, 5 where the terminal is too small, else 3
abbrev pub status_of : ProgramFault → ℕ
status_of (Run fault) = if is_of_stream fault then 3 else 4
status_of TooSmall = 5
status_of _ = 3
